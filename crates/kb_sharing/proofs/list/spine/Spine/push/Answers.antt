-- The size of the tree of two trees and a member fits.
use Rattle.std.proofs.Common.{◌*◌, ◌≤◌, sym, subst, ap, ◌∙◌, arith, length}
use Rattle.kb_sharing.specs.Private.Trees.{spine_members, IsSpine}
use Rattle.kb_sharing.proofs.TreeSizes.{twice-le-length}
use Rattle.kb_sharing.proofs.list.spine.Spine.push.Goals as goal

pub overflow_mul-result : goal.overflow_mul-result
overflow_mul-result g c =
    let sound = subst IsSpine c.in-More.is c.requires.sound in
    let all = ap (λ spine. length (spine_members spine)) c.in-More.is in
    let within : 2 * c.in-More.size ≤ c.args.len =
    twice-le-length c.in-More.before _ _ c.in-More.second _ _ _ _ _ sound
    (sym c.deref.ensures ∙ c.in-More-deref.is) c.if-other-size.true (c.requires.counted ∙ all) in
    omega arith

pub overflow_add-result : goal.overflow_add-result
overflow_add-result g c =
    let sound = subst IsSpine c.in-More.is c.requires.sound in
    let all = ap (λ spine. length (spine_members spine)) c.in-More.is in
    let within : 2 * c.in-More.size ≤ c.args.len =
    twice-le-length c.in-More.before _ _ c.in-More.second _ _ _ _ _ sound
    (sym c.deref.ensures ∙ c.in-More-deref.is) c.if-other-size.true (c.requires.counted ∙ all) in
    omega arith
