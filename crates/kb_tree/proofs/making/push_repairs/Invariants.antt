-- The items so far and the repairs that are left are all.
use Rattle.std.proofs.Common.{◌≡◌, ◌++◌, drop, map}
use Rattle.kb_tree.specs.Repairs.{repair_of}
use Rattle.kb_tree.proofs.making.push_repairs.Given as goal

abbrev pub invariant-loop-repair : goal.invariant-loop-repair
invariant-loop-repair l =
    l.items.items ++ map repair_of (drop l.repair-index l.repairs)
    ≡ l.fn.items.items ++ map repair_of l.repairs
