use Rattle.std.proofs.Common.{◌++◌, ◌∙◌, ap}
use Rattle.kb_http.proofs.Appended.{in_three}
use Rattle.kb_http.proofs.response.push_length.Goals as goal

pub returns : goal.returns
returns c =
    let digits = c.as_bytes.ensures.value ∙ c.in_ok-digits.ensures.ok in
    in_three _ _ _ _ _ _ _ c.in_ok-extend_from_slice.ensures.items
    (c.in_ok-extend_from_slice-2.ensures.items ∙ ap (λ text. c.extend_from_slice.new.self.items
    ++ text) digits)
    c.in_ok-extend_from_slice-3.ensures.items
