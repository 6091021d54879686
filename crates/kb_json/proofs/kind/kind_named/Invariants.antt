-- What is left gives what all gives.
use Rattle.std.proofs.Common.{◌≡◌, bytes_eq, drop, find}
use Rattle.kb_json.specs.RequestKinds.{kind_word}
use Rattle.kb_json.proofs.kind.kind_named.Given as goal

abbrev pub invariant-loop-kind : goal.invariant-loop-kind
invariant-loop-kind l =
    find (λ kind. bytes_eq l.word (kind_word kind)) (drop l.kind-index l.kind-items)
    ≡ find (λ kind. bytes_eq l.word (kind_word kind)) l.kind-items
