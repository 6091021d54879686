-- What is left gives what all gives.
use Rattle.std.proofs.Common.{◌≡◌, bytes_eq, drop, find}
use Rattle.kb_days.specs.Periods.{period_word}
use Rattle.kb_json.proofs.words.period_named.Given as goal

abbrev pub invariant-loop-period : goal.invariant-loop-period
invariant-loop-period l =
    find (λ period. bytes_eq l.word (period_word period)) (drop l.period-index l.period-items)
    ≡ find (λ period. bytes_eq l.word (period_word period)) l.period-items
