-- What a command that begins an attempt finds and leaves.
use Rattle.std.specs.Prelude.{ℕ, ◌≤◌, ◌≡◌, true, List, codes, Some, None, refl}
use Rattle.kb_days.specs.Dates.{march}
use Rattle.kb_days.specs.Calendar.{last_day}
use Rattle.kb_payment.specs.declared.attempt.Attempt.{Attempt}
use Rattle.kb_payment.specs.declared.attempt.Status.TheVariants.{Unknown}
use Rattle.kb_codec.specs.declared.command.Command.{Command}
use Rattle.kb_book.specs.Steps.{step}
use Rattle.kb_machine.specs.Judged.{after_judged, is_new}
use Rattle.kb_machine.specs.Machines.{MachineValue, judged}
use Rattle.kb_codec.specs.Senders.{account_of}
use Rattle.kb_machine.specs.Histories.{entry_after}
use Rattle.kb_histories.specs.Attempts.{attempt_at, begun_key}
use Rattle.kb_histories.specs.PaymentKeys.{AreKeyed}
use Rattle.kb_histories.specs.SmallMachines.{owing, pay_p1, p1_begun}

-- a new command that begins an attempt leaves it, and nothing is known of it yet
abbrev pub AttemptsBegin : Type 0
AttemptsBegin = (machine : MachineValue) (today : ℕ) (command : Command) (key : List ℕ)
    → is_new (judged machine today command) ≡ true → begun_key today command ≡ Some key
    → (attempt : Attempt)
    × (attempt_at (after_judged machine (judged machine today command)) (account_of command) key
    ≡ Some attempt)
    × (attempt.status ≡ Unknown)

begins : attempt_at (entry_after owing (march 2, pay_p1)) (codes "a1") (codes "p1") ≡ Some p1_begun
unfolding judged step
begins = refl

-- there was none under its key
abbrev pub BegunKeysAreFree : Type 0
BegunKeysAreFree = (machine : MachineValue) (today : ℕ) (command : Command) (key : List ℕ)
    → AreKeyed machine → today ≤ last_day → is_new (judged machine today command) ≡ true
    → begun_key today command ≡ Some key → attempt_at machine (account_of command) key ≡ None
