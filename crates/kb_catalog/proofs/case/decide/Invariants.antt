-- The cases that are left give what all give.
use Rattle.std.proofs.Common.{◌≡◌, drop, find}
use Rattle.kb_catalog.specs.Cases.{fits}
use Rattle.kb_catalog.proofs.case.decide.Given as goal

abbrev pub invariant-loop-case : goal.invariant-loop-case
invariant-loop-case g l =
    find (λ case. fits l.from l.to (g.C.Case.asks case)) (drop l.case-index l.cases)
    ≡ find (λ case. fits l.from l.to (g.C.Case.asks case)) l.cases
