-- The first cut that isn't kept is the first such day.
use Rattle.std.proofs.Common.{arith}
use Rattle.kb_events.proofs.KeptCuts.{AreKept-next, IsFailureFrom-none, IsFailureFrom-cut}
use Rattle.kb_events.proofs.ending.kept_until.Goals as goal

pub loop-cut-preserved : goal.loop-cut-preserved
loop-cut-preserved c =
    AreKept-next c.args.catalog.now c.args.lead.now c.args.addon.now c.args.start c.args.cuts.now
    c.loop-cut.cut-index c.loop-cut.invariant
    (λ after told. c.is_failure.ensures.passes c.if-is_failure.false
    (omega (arith, c.number.ensures.value, after)) told)

pub returns-then-is_failure-clause-end : goal.returns-then-is_failure-clause-end
returns-then-is_failure-clause-end c =
    let after = c.is_failure.ensures.begun c.if-is_failure.true in
    IsFailureFrom-cut c.args.catalog.now c.args.lead.now c.args.addon.now c.args.start c.args.cuts.now
    c.requires.rising c.requires.named c.requires.last
    c.requires.started c.requires.led c.requires.added c.loop-cut.cut-index c.loop-cut.invariant
    c.loop-cut-test.true
    (omega (arith, c.number.ensures.value, after)) (c.is_failure.ensures.told c.if-is_failure.true)
    (c.is_failure.ensures.fails c.if-is_failure.true)

pub returns-clause-end : goal.returns-clause-end
returns-clause-end c =
    IsFailureFrom-none c.args.catalog.now c.args.lead.now c.args.addon.now c.args.start c.args.cuts.now
    c.requires.rising c.requires.named c.requires.last
    c.requires.started c.requires.led c.requires.added (λ place inside after told. c.loop-cut.invariant place
    (omega (arith, inside, c.loop-cut-test.false)) after told)
