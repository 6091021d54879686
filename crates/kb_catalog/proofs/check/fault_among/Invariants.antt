use Rattle.std.proofs.Common.{◌≡◌, drop}
use Rattle.kb_catalog.specs.VersionRules.{fault_among}
use Rattle.kb_catalog.proofs.check.fault_among.Given as goal

abbrev pub invariant-loop-rule : goal.invariant-loop-rule
invariant-loop-rule l = fault_among l.version (drop l.rule-index l.rules) ≡ fault_among l.version l.rules
