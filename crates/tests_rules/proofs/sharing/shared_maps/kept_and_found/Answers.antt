-- What was put at the name is found there.
use Rattle.std.proofs.Common.{rules}
use Rattle.std.specs.FinMap.{gets}
use Rattle.tests_rules.proofs.sharing.shared_maps.kept_and_found.Goals as goal

pub returns : goal.returns
returns c = grind (gets, rules)
