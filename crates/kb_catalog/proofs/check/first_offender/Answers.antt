use Rattle.std.proofs.Common.{◌<◌, sym, ◌∙◌}
use Rattle.kb_catalog.specs.VersionRules.{is_broken_at, places}
use Rattle.kb_base.proofs.FirstPlaces.{first_place_from-later}
use Rattle.kb_catalog.proofs.check.first_offender.Goals as goal

pub loop-place-preserved : goal.loop-place-preserved
loop-place-preserved c =
    let within : c.loop-place.place < places c.args.version.now c.args.rule =
    rw (← c.places-place-end.ensures.value) c.loop-place-test.true in
    sym (first_place_from-later (is_broken_at c.args.version.now c.args.rule) _ _ within
    (sym c.is_broken_at.ensures ∙ c.if-is_broken_at.false))
    ∙ c.loop-place.invariant
