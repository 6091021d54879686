use Rattle.std.proofs.Common.{◌≡◌, Some, refl}
use Rattle.kb_catalog.specs.VersionRules.{fault_of}
use Rattle.kb_catalog_text.proofs.reading.judged_version.Goals as goal

pub returns-in-Err-clause-fault : goal.returns-in-Err-clause-fault
returns-in-Err-clause-fault c =
    let found : fault_of c.in_ok-version.version ≡ Some c.in-Err.fault =
    (c.in-Err.ensures.fault c.in-Err.fault).0 refl in
    λ kept. rw (c.in_ok-version.ensures, found, c.number.ensures) refl
