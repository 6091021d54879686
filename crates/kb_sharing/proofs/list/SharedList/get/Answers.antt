-- In which chunk the member is, or that it is in the tail.
use Rattle.std.proofs.Common.{slice_get, option_copied, ◌∙◌, sym, ap}
use Rattle.kb_sharing.proofs.ChunkedLists.{is_there, slice_get-in_chunk, slice_get-in_tail}
use Rattle.kb_sharing.proofs.list.SharedList.get.Goals as goal

pub returns-in_err-at : goal.returns-in_err-at
returns-in_err-at g c =
    absurd (is_there _ _ _ _ c.self.invariant.1 c.args.place c.if-place-full.true
    (sym c.at.ensures ∙ ap option_copied c.in_err-at.was))

pub returns-in_ok-at : goal.returns-in_ok-at
returns-in_ok-at g c =
    let there = sym c.at.ensures ∙ ap option_copied c.in_ok-at.was in
    c.at-then-place-full.ensures ∙ sym (slice_get-in_chunk _ _ _ _ c.self.invariant.1 c.args.place _ there)
    ∙ ap (λ members. slice_get members c.args.place) c.self.view_is

pub returns-else-place-full : goal.returns-else-place-full
returns-else-place-full g c =
    c.at-else-place-full.ensures
    ∙ sym (slice_get-in_tail _ _ _ _ c.self.invariant.1 c.args.place c.if-place-full.false)
    ∙ ap (λ members. slice_get members c.args.place) c.self.view_is
