-- The items so far and those of the adjustments that are left are all.
use Rattle.std.proofs.Common.{◌≡◌, ◌++◌, drop, map}
use Rattle.kb_credit.specs.Private.Passes.{item_of}
use Rattle.kb_credit.proofs.adjustment.with_items.Given as goal

abbrev pub invariant-loop-one : goal.invariant-loop-one
invariant-loop-one l =
    l.longer ++ map item_of (drop l.one-index l.adjustments) ≡ l.items ++ map item_of l.adjustments
