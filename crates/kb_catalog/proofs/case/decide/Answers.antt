-- Some case fits, so the loop doesn't end.
use Rattle.std.proofs.Common.{◌≡◌, drop, find, arith}
use Rattle.std.proofs.lemmas.Grind.{common_steps}
use Rattle.kb_catalog.specs.Cases.{fits}
use Rattle.kb_catalog.proofs.Decided.{find-open}
use Rattle.kb_catalog.proofs.case.decide.Goals as goal

pub unreachable-requires : goal.unreachable-requires
unreachable-requires g c =
    let some = find-open g.C.Case.asks c.args.from.now c.args.to.now c.args.cases.now c.requires in
    let same : find (λ case. fits c.args.from.now c.args.to.now (g.C.Case.asks case))
    (drop c.loop-case.case-index c.args.cases.now)
    ≡ find (λ case. fits c.args.from.now c.args.to.now (g.C.Case.asks case)) c.args.cases.now =
    c.loop-case.invariant in
    grind (arith, common_steps)
