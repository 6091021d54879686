-- What is found among the versions that are left, else what was found, is what all give.
use Rattle.std.proofs.Common.{◌≡◌, drop, map}
use Rattle.std.specs.Arc.{arc_value}
use Rattle.kb_catalog.specs.Catalogs.{version_at, version_at_from}
use Rattle.kb_catalog.proofs.Latest.{or_found}
use Rattle.kb_catalog.proofs.catalog.latest.Given as goal

abbrev pub invariant-loop-place : goal.invariant-loop-place
invariant-loop-place l =
    or_found (version_at_from l.place (map arc_value (drop l.place l.versions)) l.day) l.found
    ≡ version_at (map arc_value l.versions) l.day
