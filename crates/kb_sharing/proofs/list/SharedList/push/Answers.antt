-- How many chunks there are, and that the longer list lies in chunks.
use Rattle.std.proofs.Common.{◌≡◌, ◌+◌, ◌<◌, ◌++◌, ◌∷◌, [], length, subst, ap, arith, rules}
use Rattle.std.proofs.lemmas.List.{length_push}
use Rattle.kb_sharing.proofs.ChunkedLists.{count-is, IsChunked-push, IsChunked-full}
use Rattle.kb_sharing.proofs.list.SharedList.push.Goals as goal

pub push-requires-then-is_full-clause-counted : goal.push-requires-then-is_full-clause-counted
push-requires-then-is_full-clause-counted g c = count-is _ _ _ _ c.self.invariant.1

pub invariant_of-result : goal.invariant_of-result
invariant_of-result g c =
    let more : c.in_ok-len.len ≡ c.self.inside.len + 1 = search rules in
    let full : length c.in_ok-last.last ≡ 16 = search rules in
    let fits = subst (λ xs. length xs ≡ 16) c.in_ok-last.ensures full in (
      c.in_ok-chunks.ensures.sound,
      rw (c.in_ok-chunks.ensures.members, c.in_ok-last.ensures, c.new-tail.ensures, more)
          (IsChunked-full _ _ _ _ c.self.invariant.1 c.args.member fits),
    )

pub invariant_of-result-2 : goal.invariant_of-result-2
invariant_of-result-2 g c =
    let more : c.in_ok-len.len ≡ c.self.inside.len + 1 = search rules in
    let grown = length_push c.self.inside.tail c.args.member in
    let same = ap length c.in_ok-last.ensures in
    let before = c.self.invariant.1.short in
    let short : length (c.self.inside.tail ++ c.args.member ∷ []) < 16 =
    grind (arith, c.is_full.ensures, c.if-is_full.false) in (
      c.in_ok-chunks-2.ensures.sound c.self.invariant.0,
      rw (c.in_ok-chunks-2.ensures.members, c.in_ok-tail.ensures, c.in_ok-last.ensures, more)
          (IsChunked-push _ _ _ _ c.self.invariant.1 c.args.member short),
    )
