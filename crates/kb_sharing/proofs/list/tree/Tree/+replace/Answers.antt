-- In which part of the tree the member is another one.
use Rattle.std.proofs.Common.{subst, arith}
use Rattle.std.specs.Arc.{arc_value}
use Rattle.kb_sharing.specs.Private.Trees.{IsSized}
use Rattle.kb_sharing.proofs.TreeSizes.{length_tree, set-first, set-second, set-last}
use Rattle.kb_sharing.proofs.list.tree.Tree.+replace.Goals as goal

pub returns-in_ok-try_clone-in-Two-2-clause-members : goal.returns-in_ok-try_clone-in-Two-2-clause-members
returns-in_ok-try_clone-in-Two-2-clause-members g t c =
    let sized = subst (IsSized c.args.size) c.in-Two.is c.requires.sized in
    let there = set-first _ _ (arc_value c.in-Two.last) _ (length_tree _ _ sized.1) (length_tree _ _ sized.2)
    c.args.place c.args.member c.if-place-half.true in
    rw (c.in-Two.is, there)
    (cc (
      c.in_ok-changed-in-Two.ensures.ok,
      c.in_ok-replace-in-Two.ensures.members,
      c.in_ok-try_clone-in-Two.ensures,
      c.in_ok-try_clone-in-Two-2.ensures,
    ))

pub returns-in_ok-try_clone-in-Two-4-clause-members : goal.returns-in_ok-try_clone-in-Two-4-clause-members
returns-in_ok-try_clone-in-Two-4-clause-members g t c =
    let sized = subst (IsSized c.args.size) c.in-Two.is c.requires.sized in
    let there = set-second _ _ (arc_value c.in-Two.last) _ (length_tree _ _ sized.1) (length_tree _ _ sized.2)
    c.args.place c.args.member c.if-place-half.false c.if-place-half-2.true in
    rw (c.in-Two.is, there)
    (cc (
      c.in_ok-changed-in-Two-2.ensures.ok,
      c.in_ok-replace-in-Two-2.ensures.members,
      c.in_ok-try_clone-in-Two-3.ensures,
      c.in_ok-try_clone-in-Two-4.ensures,
    ))

pub returns-in_ok-try_clone-in-Two-6-clause-members : goal.returns-in_ok-try_clone-in-Two-6-clause-members
returns-in_ok-try_clone-in-Two-6-clause-members g t c =
    let sized = subst (IsSized c.args.size) c.in-Two.is c.requires.sized in
    let whole = sized.0 in
    let there = set-last _ _ (arc_value c.in-Two.last) _ (length_tree _ _ sized.1) (length_tree _ _ sized.2)
    c.args.place c.args.member (omega arith) in
    rw (c.in-Two.is, there)
    (cc (
      c.in_ok-changed-in-Two-3.ensures.ok,
      c.in_ok-try_clone-in-Two-5.ensures,
      c.in_ok-try_clone-in-Two-6.ensures,
    ))
