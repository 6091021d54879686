use Rattle.std.proofs.Common.{◌≡◌, ◌<◌, ◌^◌, take}
use Rattle.kb_days.specs.DateText.{digits}
use Rattle.kb_days.proofs.date_text.number.Given as goal

abbrev pub invariant-loop-digit : goal.invariant-loop-digit
invariant-loop-digit l =
    (take l.digit-index l.text ≡ digits l.digit-index l.number) × (l.number < 10 ^ l.digit-index)
