-- One item more; and at the end all of them.
use Rattle.std.proofs.Common.{◌≤◌, ◌++◌, ap, List, length, arith}
use Rattle.kb_book.specs.declared.views.ItemView.{ItemView}
use Rattle.kb_account.specs.Views.{items_from}
use Rattle.kb_account.proofs.ShownItems.{items-step, items-end}
use Rattle.kb_account.proofs.view.invoice.items_of.Goals as goal

pub loop-place-init : goal.loop-place-init
loop-place-init c =
    ap (λ (front : List ItemView). front ++ items_from c.args.timeline.now c.args.invoice 1
    c.args.invoices.now.items)
    c.new-items.ensures.items

pub loop-place-preserved : goal.loop-place-preserved
loop-place-preserved c =
    items-step c.args.timeline.now c.args.invoice c.loop-place.place c.args.invoices.now.items
    c.loop-place.items.items
    c.push_shown.new.items.items c.shown_item.result c.shown_item.ensures (c.in_ok-push_shown.ensures)
    c.loop-place.invariant

pub returns : goal.returns
returns c =
    let end : length c.args.invoices.now.items ≤ c.loop-place.place
    = omega (arith, c.loop-place-test.false, c.items-place-end.ensures) in
    items-end c.args.timeline.now c.args.invoice c.loop-place.place c.args.invoices.now.items
    c.loop-place.items.items end
    c.loop-place.invariant
