-- What a settlement makes of its attempt, and when it is new.
use Rattle.std.specs.Prelude.{ℕ, ◌≡◌, true, false, List, codes, Some, refl}
use Rattle.kb_days.specs.Dates.{march}
use Rattle.kb_payment.specs.declared.attempt.Attempt.{Attempt}
use Rattle.kb_payment.specs.declared.attempt.Status.{Status}
use Rattle.kb_payment.specs.declared.attempt.Status.TheVariants.{Pending, Success}
use Rattle.kb_payment.specs.Attempts.{is_open, with_status}
use Rattle.kb_codec.specs.declared.command.Command.TheVariants as kinds
use Rattle.kb_codec.specs.declared.command.Settle.{Settle}
use Rattle.kb_book.specs.PaymentRows.{same_status}
use Rattle.kb_book.specs.Steps.{step}
use Rattle.kb_machine.specs.Judged.{after_judged, is_new}
use Rattle.kb_machine.specs.Machines.{MachineValue, judged}
use Rattle.kb_machine.specs.Histories.{entry_after}
use Rattle.kb_histories.specs.Attempts.{attempt_at, settles}
use Rattle.kb_histories.specs.SmallMachines.{owing, pay_p1, p1_begun, settle_p1}

-- a new settlement gives its attempt its status
abbrev pub SettlementsSettle : Type 0
SettlementsSettle = (machine : MachineValue) (today : ℕ) (account key : List ℕ) (status : Status)
    (attempt : Attempt) → attempt_at machine account key ≡ Some attempt
    → is_new (judged machine today
    (kinds.Settle (record { account = account; payment = key; status = status }))) ≡ true
    → attempt_at (after_judged machine (judged machine today
    (kinds.Settle (record { account = account; payment = key; status = status })))) account key
    ≡ Some (with_status attempt status)

-- the attempt p1 while it is pending
abbrev pending : MachineValue
pending = entry_after (entry_after owing (march 2, pay_p1)) (march 2, settle_p1 Pending)

is_pending : attempt_at pending (codes "a1") (codes "p1") ≡ Some (with_status p1_begun Pending)
unfolding judged step
is_pending = refl

-- a settlement of an open attempt to another status is new
abbrev pub SettlementsAreNew : Type 0
SettlementsAreNew = (machine : MachineValue) (today : ℕ) (account key : List ℕ) (status : Status)
    (attempt : Attempt) → attempt_at machine account key ≡ Some attempt → is_open attempt.status ≡ true
    → same_status attempt.status status ≡ false
    → is_new (judged machine today
    (kinds.Settle (record { account = account; payment = key; status = status }))) ≡ true

succeeds : is_new (judged pending (march 3) (settle_p1 Success)) ≡ true
unfolding judged step
succeeds = refl

not_pending_twice : is_new (judged pending (march 3) (settle_p1 Pending)) ≡ false
unfolding judged step
not_pending_twice = refl

-- a settlement leaves every other attempt as it is
abbrev pub SettlementsLeaveOthers : Type 0
SettlementsLeaveOthers = (machine : MachineValue) (today : ℕ) (c : Settle) (account key : List ℕ)
    → settles (kinds.Settle c) account key ≡ false
    → attempt_at (after_judged machine (judged machine today (kinds.Settle c))) account key
    ≡ attempt_at machine account key
