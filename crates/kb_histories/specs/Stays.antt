-- What leaves an attempt as it is.
use Rattle.std.specs.Prelude.{ℕ, ◌≤◌, ◌≡◌, false, List, codes, Some, refl}
use Rattle.kb_days.specs.Dates.{march}
use Rattle.kb_days.specs.Calendar.{last_day}
use Rattle.kb_payment.specs.declared.attempt.Attempt.{Attempt}
use Rattle.kb_payment.specs.declared.attempt.Status.TheVariants.{Success, PaymentFailure}
use Rattle.kb_payment.specs.Attempts.{is_open, with_status}
use Rattle.kb_codec.specs.declared.command.Command.{Command}
use Rattle.kb_book.specs.Steps.{step}
use Rattle.kb_machine.specs.Judged.{after_judged}
use Rattle.kb_machine.specs.Machines.{MachineValue, judged}
use Rattle.kb_machine.specs.Histories.{entry_after}
use Rattle.kb_histories.specs.Attempts.{attempt_at, settles}
use Rattle.kb_histories.specs.PaymentKeys.{AreKeyed}
use Rattle.kb_histories.specs.SmallMachines.{owing, pay_p1, p1_begun, settle_p1}

-- an attempt stays as it is after each command that doesn't settle it
abbrev pub AttemptsStay : Type 0
AttemptsStay = (machine : MachineValue) (today : ℕ) (command : Command) (account key : List ℕ)
    (attempt : Attempt) → AreKeyed machine → today ≤ last_day
    → attempt_at machine account key ≡ Some attempt → settles command account key ≡ false
    → attempt_at (after_judged machine (judged machine today command)) account key ≡ Some attempt

-- one that is final stays so after each command
abbrev pub FinalAttemptsStay : Type 0
FinalAttemptsStay = (machine : MachineValue) (today : ℕ) (command : Command) (account key : List ℕ)
    (attempt : Attempt) → AreKeyed machine → today ≤ last_day
    → attempt_at machine account key ≡ Some attempt → is_open attempt.status ≡ false
    → attempt_at (after_judged machine (judged machine today command)) account key ≡ Some attempt

-- what has succeeded doesn't fail a day later
abbrev paid : MachineValue
paid = entry_after (entry_after owing (march 2, pay_p1)) (march 3, settle_p1 Success)

paid_for_good : attempt_at (entry_after paid (march 4, settle_p1 PaymentFailure)) (codes "a1") (codes "p1")
    ≡ Some (with_status p1_begun Success)
unfolding judged step
paid_for_good = refl
