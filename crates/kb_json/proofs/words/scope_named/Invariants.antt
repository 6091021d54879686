-- What is left gives what all gives.
use Rattle.std.proofs.Common.{◌≡◌, bytes_eq, drop, find}
use Rattle.kb_json.specs.Values.{scope_word}
use Rattle.kb_json.proofs.words.scope_named.Given as goal

abbrev pub invariant-loop-scope : goal.invariant-loop-scope
invariant-loop-scope l =
    find (λ scope. bytes_eq l.word (scope_word scope)) (drop l.scope-index l.scope-items)
    ≡ find (λ scope. bytes_eq l.word (scope_word scope)) l.scope-items
