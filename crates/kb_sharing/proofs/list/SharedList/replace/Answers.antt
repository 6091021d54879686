-- In which chunk the member is, or that it is in the tail, and that the list lies in chunks afterwards.
use Rattle.std.proofs.Common.{◌<◌, length, set, option_copied, ◌∙◌, sym, subst, ap, arith}
use Rattle.std.proofs.lemmas.Option.{slice_get_within}
use Rattle.kb_sharing.proofs.ChunkPlaces.{length-chunk}
use Rattle.kb_sharing.proofs.ChunkedLists.{is_there, lt-tail, set-in_chunk, set-in_tail, IsChunked-chunk}
use Rattle.kb_sharing.proofs.list.SharedList.replace.Goals as goal

pub unreachable-requires : goal.unreachable-requires
unreachable-requires g c =
    is_there _ _ _ _ c.self.invariant.1 c.args.place c.if-place-full.true
    (sym c.at.ensures ∙ ap option_copied c.in_default.is)

pub replace-requires : goal.replace-requires
replace-requires g c =
    let there = sym c.at.ensures ∙ ap option_copied c.in-Some.is in
    let size = length-chunk _ _ _ _ c.self.invariant.1.full there in
    record { there = omega arith }

pub replace-requires-then-place-full-clause-there :
    goal.replace-requires-then-place-full-clause-there
replace-requires-then-place-full-clause-there g c =
    slice_get_within _ _ _ (sym c.at.ensures ∙ ap option_copied c.in-Some.is)

pub invariant_of-result : goal.invariant_of-result
invariant_of-result g c =
    let there = sym c.at.ensures ∙ ap option_copied c.in-Some.is in (
      c.in_ok-chunks.ensures.sound,
      rw (c.in_ok-chunks.ensures.members, c.in_ok-changed.ensures, c.in_ok-tail.ensures)
          (IsChunked-chunk _ _ _ _ c.self.invariant.1 c.args.place _ c.args.member there),
    )

pub replace-requires-else-place-full : goal.replace-requires-else-place-full
replace-requires-else-place-full g c =
    let there = subst (λ members. c.args.place < length members) (sym c.self.view_is) c.requires.there in
    record { there = lt-tail _ _ _ _ c.self.invariant.1 c.args.place there c.if-place-full.false }

pub returns-in_ok-tail : goal.returns-in_ok-tail
returns-in_ok-tail g c =
    let there = sym c.at.ensures ∙ ap option_copied c.in-Some.is in
    rw (c.in_ok-chunks.ensures.members, c.in_ok-changed.ensures, c.in_ok-tail.ensures)
    (sym (set-in_chunk _ _ _ _ c.self.invariant.1 c.args.place _ c.args.member there)
    ∙ ap (λ members. set members c.args.place c.args.member) c.self.view_is)

pub returns-in_ok-chunks-2 : goal.returns-in_ok-chunks-2
returns-in_ok-chunks-2 g c =
    rw (c.in_ok-chunks-2.ensures.members, c.in_ok-tail-2.ensures)
    (sym (set-in_tail _ _ _ _ c.self.invariant.1 c.args.place c.args.member c.if-place-full.false)
    ∙ ap (λ members. set members c.args.place c.args.member) c.self.view_is)
