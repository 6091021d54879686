use Rattle.std.proofs.Common.{◌≡◌, ◌++◌, take, drop}
use Rattle.kb_http.specs.Routes.{path_of}
use Rattle.kb_http.proofs.route.path.Given as goal

abbrev pub invariant-loop-at : goal.invariant-loop-at
invariant-loop-at l = path_of l.target ≡ take l.at l.target ++ path_of (drop l.at l.target)
