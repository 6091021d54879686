-- What was added and what is left give all.
use Rattle.std.proofs.Common.{◌≡◌, ◌++◌, drop, map}
use Rattle.kb_reports.specs.Private.Collecting.{listed_in}
use Rattle.kb_reports.proofs.listed.push_names.Given as goal

abbrev pub invariant-loop-name : goal.invariant-loop-name
invariant-loop-name l =
    l.listed.items ++ map (listed_in l.lane) (drop l.name-index l.names)
    ≡ l.fn.listed.items ++ map (listed_in l.lane) l.names
