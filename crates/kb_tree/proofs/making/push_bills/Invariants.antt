-- The items so far and the bills that are left are all.
use Rattle.std.proofs.Common.{◌≡◌, ◌++◌, drop, map}
use Rattle.kb_tree.specs.Repairs.{bill_of}
use Rattle.kb_tree.proofs.making.push_bills.Given as goal

abbrev pub invariant-loop-bill : goal.invariant-loop-bill
invariant-loop-bill l =
    l.items.items ++ map bill_of (drop l.bill-index l.bills)
    ≡ l.fn.items.items ++ map bill_of l.bills
