-- The sum so far and that of the lines that are left are the sum of all, and none is too large.
use Rattle.std.proofs.Common.{◌≡◌, ◌+◌, ◌+ℤ◌, ◌^◌, ◌≤◌, nat_abs, drop}
use Rattle.kb_sharing.specs.Sums.{sum_of}
use Rattle.kb_credit.specs.Sizes.{size_of}
use Rattle.kb_credit.specs.Items.{amount_of}
use Rattle.kb_credit.proofs.lines.total_of.Given as goal

abbrev pub invariant-loop-line : goal.invariant-loop-line
invariant-loop-line l = record {
  whole : l.sum +ℤ sum_of amount_of (drop l.line-index l.lines) ≡ sum_of amount_of l.lines;
  bounded : nat_abs l.sum + size_of amount_of (drop l.line-index l.lines) ≤ 2 ^ 120;
}
