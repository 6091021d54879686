-- The adjustments that are left, on the rows so far, give what all give, and no sum is too large.
use Rattle.std.proofs.Common.{◌≡◌, ◌+◌, ◌^◌, ◌≤◌, drop}
use Rattle.kb_credit.specs.Sizes.{size_of}
use Rattle.kb_credit.specs.declared.row.Row.{Row}
use Rattle.kb_credit.specs.declared.adjustment.Adjustment.{Adjustment}
use Rattle.kb_credit.specs.Private.AdjustedRows.{adjusted}
use Rattle.kb_credit.proofs.adjustment.adjusted.Given as goal

abbrev pub invariant-loop-one : goal.invariant-loop-one
invariant-loop-one l = record {
  whole : adjusted (drop l.one-index l.adjustments) l.changed ≡ adjusted l.adjustments l.rows;
  bounded : size_of (λ (row : Row). row.adjusted) l.changed
      + size_of (λ (one : Adjustment). one.amount) (drop l.one-index l.adjustments) ≤ 2 ^ 126;
}
