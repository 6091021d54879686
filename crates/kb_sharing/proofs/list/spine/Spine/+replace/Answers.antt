-- In which trees the member is another one.
use Rattle.std.proofs.Common.{◌+◌, ◌<◌, sym, subst, arith, length}
use Rattle.std.specs.Arc.{arc_value}
use Rattle.std.proofs.lemmas.List.{set-append_left, set-append_right}
use Rattle.kb_sharing.specs.Private.Trees.{tree_members, spine_members, IsSpine}
use Rattle.kb_sharing.proofs.TreeSizes.{length_spine}
use Rattle.kb_sharing.proofs.list.spine.Spine.+replace.Goals as goal

pub replace-requires-else-place-start-clause-there : goal.replace-requires-else-place-start-clause-there
replace-requires-else-place-start-clause-there g t c =
    let sound = subst IsSpine c.in-More.is c.requires.sound in
    let all = length_spine c.in-More.before _ _ c.in-More.tree sound in
    let there : c.args.place < c.in-More.start + c.in-More.size =
    subst (λ n. c.args.place < n) all
    (subst (λ spine. c.args.place < length (spine_members spine)) c.in-More.is c.requires.there) in
    omega arith

pub returns-in_ok-new-in-More-clause-members : goal.returns-in_ok-new-in-More-clause-members
returns-in_ok-new-in-More-clause-members g t c =
    let start_is = (subst IsSpine c.in-More.is c.requires.sound).1 in
    let there = set-append_left (spine_members (arc_value c.in-More.before))
    (tree_members (arc_value c.in-More.tree)) c.args.place c.args.member (omega arith) in
    rw (c.in-More.is, there)
    (cc (
      c.in_ok-new-in-More.ensures.ok,
      c.in_ok-changed-in-More.ensures.members,
      c.in_ok-tree-in-More.ensures,
    ))

pub returns-in_ok-try_clone-in-More-clause-members : goal.returns-in_ok-try_clone-in-More-clause-members
returns-in_ok-try_clone-in-More-clause-members g t c =
    let start_is = (subst IsSpine c.in-More.is c.requires.sound).1 in
    let there = set-append_right (spine_members (arc_value c.in-More.before))
    (tree_members (arc_value c.in-More.tree)) c.in-More.start c.args.place c.args.member (sym start_is)
    c.if-place-start.false in
    rw (c.in-More.is, there)
    (cc (
      c.in_ok-try_clone-in-More.ensures,
      c.in_ok-tree-in-More-2.ensures.ok,
      c.in_ok-changed-in-More-2.ensures.members,
    ))
