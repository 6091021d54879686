-- What holds of each valid version holds of this one.
use Rattle.kb_catalog.proofs.DistinctNames.{HasDistinctNames-valid}
use Rattle.kb_catalog.proofs.LastPhases.{EndsUnlimited-valid}
use Rattle.kb_catalog.proofs.valid.Valid.version.Goals as goal

pub returns-clause-names : goal.returns-clause-names
returns-clause-names c = HasDistinctNames-valid c.self.inside.version c.self.invariant.0

pub returns-clause-phases : goal.returns-clause-phases
returns-clause-phases c = EndsUnlimited-valid c.self.inside.version c.self.invariant.0
