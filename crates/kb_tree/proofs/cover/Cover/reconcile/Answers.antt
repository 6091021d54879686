-- What the laws say of the cover made right and of its items.
use Rattle.std.proofs.Common.{◌≡◌, ◌++◌, ◌∙◌, List, map, refl, ap, subst}
use Rattle.kb_days.specs.Calendar.{first_day, charged_days}
use Rattle.kb_due.specs.CellStretches.{stretch_of}
use Rattle.kb_tree.specs.Repairs.{repair_of, bill_of, new_items}
use Rattle.kb_tree.specs.Covers.{charges, due_in, IsCover}
use Rattle.kb_tree.proofs.CoverDays.{due_in-inside}
use Rattle.kb_tree.proofs.MadeRight.{changes-items, made-untouched, made-total, made-priced}
use Rattle.kb_tree.proofs.MadeRight.{after-settles, after-above, after-cover_of}
use Rattle.kb_tree.proofs.cover.Cover.reconcile.Goals as goal

pub returns : goal.returns
returns g c =
    let old = c.args.self.now in
    let due = due_in (map stretch_of c.args.pieces.now) in
    let first = c.args.first in
    let new = c.in_ok-cover.cover in
    let is = c.in_ok-cover.ensures.old in
    let after = c.in_ok-cover.ensures.after in
    let is_new : IsCover new = subst IsCover c.cover.view_is c.cover.invariant in
    let items : c.in_ok-items.items.items ≡ new_items (charges old) due first_day charged_days =
    c.in_ok-items.ensures
    ∙ ap (λ (repairs : List _). map repair_of repairs ++ map bill_of c.deref-2.result.now)
    c.deref.ensures.value
    ∙ ap (λ (bills : List _). map repair_of c.in_ok-cover.changes.repairs.items ++ map bill_of bills)
    c.deref-2.ensures.value
    ∙ changes-items (charges old) due c.in_ok-cover.changes.repairs.items c.in_ok-cover.changes.bills.items
    c.in_ok-cover.ensures.changes in
    rw items (record {
      items = refl;
      cover = λ all of below. after-cover_of old due first is new after is_new all of below;
      settled = after-settles old due first is new after;
      untouched = made-untouched old due first is;
      total = made-total old due first is;
      priced = made-priced old due first is (due_in-inside (map stretch_of c.args.pieces.now)
          c.requires.pieces.1);
      above = after-above old due first is new after c.requires.above;
      steps = refl;
    })
