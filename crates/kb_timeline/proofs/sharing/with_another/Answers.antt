-- A shared list whose member at a place is replaced.
use Rattle.std.proofs.Common.{length, map, ap, sym, arith}
use Rattle.std.specs.Arc.{arc_value}
use Rattle.std.proofs.lemmas.Grind.{common_steps}
use Rattle.std.proofs.lemmas.List.{map-set}
use Rattle.kb_timeline.proofs.EditedMembers.{edited_at-set}
use Rattle.kb_timeline.proofs.sharing.with_another.Goals as goal

pub index_mut-requires : goal.index_mut-requires
index_mut-requires c =
    let count = ap length c.in_ok-edited.ensures.same in
    grind (arith, common_steps)

pub returns : goal.returns
returns c =
    let made = c.in_ok-edited-2.ensures.ok in
    rw (map-set, c.in_ok-edited.ensures.same, made)
    (sym (edited_at-set c.args.place c.args.subscription (map arc_value c.args.subscriptions.now)))
