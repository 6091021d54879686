use Rattle.std.proofs.Common.{◌++◌, ◌∙◌, ap}
use Rattle.kb_http.proofs.Appended.{in_two}
use Rattle.kb_http.proofs.response.push_code.Goals as goal

pub returns : goal.returns
returns c =
    let digits = c.as_bytes.ensures.value ∙ c.as_str.ensures in
    in_two _ _ _ _ _ c.in_ok-extend_from_slice.ensures.items
    (c.in_ok-extend_from_slice-2.ensures.items ∙ ap (λ text. c.extend_from_slice.new.self.items
    ++ text) digits)
