-- What those that are left use of what is left gives what all use.
use Rattle.std.proofs.Common.{◌≡◌, ◌++◌, ◌≤ℤ◌, pos, drop}
use Rattle.kb_credit.specs.Private.Passes.{all_used, still_open}
use Rattle.kb_credit.proofs.levelling.use_credit.Given as goal

abbrev pub invariant-loop-one : goal.invariant-loop-one
invariant-loop-one l = record {
  still : l.still.items ++ still_open l.left (drop l.one-index l.invoices) ≡ still_open l.credit l.invoices;
  noted : l.adjustments.items ++ all_used l.left (drop l.one-index l.invoices)
      ≡ l.fn.adjustments.items ++ all_used l.credit l.invoices;
  whole : pos 0 ≤ℤ l.left;
}
