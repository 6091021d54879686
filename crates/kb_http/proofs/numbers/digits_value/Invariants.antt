use Rattle.std.proofs.Common.{◌≡◌, ◌≤◌, drop}
use Rattle.kb_http.specs.Private.DigitsBehind.{number_from}
use Rattle.kb_http.proofs.numbers.digits_value.Given as goal

abbrev pub invariant-loop-digit : goal.invariant-loop-digit
invariant-loop-digit l = (l.value ≤ l.limit)
    × (number_from l.limit l.value (drop l.digit-index l.digits) ≡ number_from l.limit 0 l.digits)
