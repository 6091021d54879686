use Rattle.std.proofs.Common.{◌≡◌, ◌++◌, length}
use Rattle.kb_make.specs.Seeds.{commands_of}
use Rattle.tests_lanes.proofs.generator.seeds.all_of.Given as goal

abbrev pub invariant-sent : goal.invariant-sent
invariant-sent l = l.all.items ++ l.generator ≡ commands_of l.seed l.accounts l.months

abbrev pub decreases-sent : goal.decreases-sent
decreases-sent l = length l.generator
