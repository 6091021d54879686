-- Each step leaves the numbers below `low` too low, and those from `high` on not.
use Rattle.std.proofs.Common.{◌+◌, ◌-◌, ◌/◌, ℕ, sym, arith}
use Rattle.kb_tree.proofs.RisingBills.{below-upto, above-from}
use Rattle.kb_tree.proofs.cells.count_below.Goals as goal

pub loop-low-preserved-then-at-number : goal.loop-low-preserved-then-at-number
loop-low-preserved-then-at-number c =
    let middle : ℕ = c.loop-low.low + (c.loop-low.high - c.loop-low.low) / 2 in (
      omega (arith, c.loop-low-test.true),
      c.loop-low.invariant.1,
      below-upto c.args.bills.now c.args.number middle c.in-Some.field-0.now c.requires.rising
          (sym c.in-Some.ensures) c.if-at-number.true,
      c.loop-low.invariant.3,
    )

pub loop-low-preserved : goal.loop-low-preserved
loop-low-preserved c =
    let middle : ℕ = c.loop-low.low + (c.loop-low.high - c.loop-low.low) / 2 in (
      omega arith,
      omega (arith, c.loop-low.invariant.0, c.loop-low.invariant.1),
      c.loop-low.invariant.2,
      above-from c.args.bills.now c.args.number middle c.in-Some.field-0.now c.requires.rising
          (sym c.in-Some.ensures) c.if-at-number.false,
    )
