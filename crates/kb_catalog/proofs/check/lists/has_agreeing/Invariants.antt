use Rattle.std.proofs.Common.{◌≡◌, length}
use Rattle.kb_catalog.specs.VersionLists.{has_agreeing}
use Rattle.kb_catalog.proofs.check.lists.has_agreeing.Given as goal

abbrev pub invariant-loop-name : goal.invariant-loop-name
invariant-loop-name l = has_agreeing l.version l.rest ≡ has_agreeing l.version l.names

abbrev pub decreases-loop-name : goal.decreases-loop-name
decreases-loop-name l = length l.rest
