-- There are as many lines as new items, and so the numbers go on.
use Rattle.std.proofs.Common.{◌+◌, length, arith, true, false}
use Rattle.kb_tree.specs.Items.{cell_at}
use Rattle.kb_tree.proofs.NumberedItems.{higher}
use Rattle.kb_tree.proofs.Issued.{lines-length}
use Rattle.kb_tree.proofs.subscription.subscription_issue.Goals as goal

pub returns-clause-below : goal.returns-clause-below
returns-clause-below g c =
    let long = lines-length c.new-lines.result.items c.push_lines.new.lines.items
    c.push_lines-2.new.lines.items
    c.args.sub false true (cell_at c.charges.inside.fees) (cell_at c.charges.inside.recurring)
    c.in_ok-fees.new_fees.items c.deref-3.result.now c.in_ok-recurring.new_charges.items c.deref-4.result.now
    c.new-lines.ensures.items c.deref-3.ensures.value c.deref-4.ensures.value c.in_ok-push_lines.ensures.lines
    c.in_ok-push_lines-2.ensures.lines in
    record {
      fees = higher (c.args.number + length c.in_ok-fees.new_fees.items)
          (c.args.number + length c.push_lines-2.new.lines.items) c.in_ok-fees.fees (omega (arith, long))
          c.in_ok-fees.ensures.below;
      recurring = higher (c.args.number + c.len.result + length c.in_ok-recurring.new_charges.items)
          (c.args.number + length c.push_lines-2.new.lines.items) c.in_ok-recurring.recurring
          (omega (arith, long, c.len.ensures))
          c.in_ok-recurring.ensures.below;
    }

pub returns-clause-few : goal.returns-clause-few
returns-clause-few g c =
    let long = lines-length c.new-lines.result.items c.push_lines.new.lines.items
    c.push_lines-2.new.lines.items
    c.args.sub false true (cell_at c.charges.inside.fees) (cell_at c.charges.inside.recurring)
    c.in_ok-fees.new_fees.items c.deref-3.result.now c.in_ok-recurring.new_charges.items c.deref-4.result.now
    c.new-lines.ensures.items c.deref-3.ensures.value c.deref-4.ensures.value c.in_ok-push_lines.ensures.lines
    c.in_ok-push_lines-2.ensures.lines in
    omega (arith, long, c.in_ok-fees.ensures.few, c.in_ok-recurring.ensures.few)
