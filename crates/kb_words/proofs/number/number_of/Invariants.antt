use Rattle.std.proofs.Common.{◌≡◌, ◌≤◌, take}
use Rattle.kb_days.specs.DateText.{number_of}
use Rattle.kb_words.proofs.number.number_of.Given as goal

abbrev pub invariant-loop-digit : goal.invariant-loop-digit
invariant-loop-digit l = (l.number ≡ number_of (take l.digit-index l.digits)) × (l.number ≤ l.most)
