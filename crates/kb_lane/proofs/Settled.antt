-- What is known of the settlement that was chosen, and of an append that failed.
use Rattle.std.proofs.Common.{ℕ, ◌≡◌, List, [], ◌∷◌, Option, None, Some, Result, Ok, Err}
use Rattle.std.proofs.Common.{refl, sym, ap, subst}
use Rattle.kb_base.specs.declared.fault.Failed.{Failed}
use Rattle.kb_gateway.specs.declared.told.Told.{Told}
use Rattle.kb_gateway.specs.declared.told.Told.TheVariants as told
use Rattle.kb_codec.specs.declared.command.Command.{Command}
use Rattle.kb_codec.specs.declared.command.Command.TheVariants as kinds
use Rattle.kb_payment.specs.declared.attempt.Status.TheVariants as status
use Rattle.kb_journal.specs.declared.fault.AppendFault.{AppendFault}
use Rattle.kb_journal.specs.declared.fault.AppendFault.TheVariants as fault
use Rattle.kb_book.specs.declared.step.Step.TheVariants as steps
use Rattle.kb_codec.specs.Entries.{Entry}
use Rattle.kb_lane.specs.Logs.{LogValue, Appends}
use Rattle.kb_machine.specs.Machines.{MachineValue}
use Rattle.kb_lane.specs.declared.settlement.Settlement.{Settlement}
use Rattle.kb_lane.specs.declared.work.Work.TheVariants.{Check}
use Rattle.kb_lane.specs.Outbox.{work_of}
use Rattle.kb_lane.specs.Orders.{settled_by}
use Rattle.kb_lane.specs.Private.Settlements.{IsChosen, IsReadyOf, fault_step}

-- a settlement that was chosen is the one that there is
pub chosen_command : (machine : MachineValue) (today : ℕ) (command : Option Command) (ready : Settlement)
    → IsChosen machine today command (Some ready) → command ≡ Some ready.command
chosen_command machine today None ready chosen = absurd chosen
chosen_command machine today (Some command) ready chosen = ap (λ it. Some it) (sym chosen.is_it)

pub chosen_ready : (machine : MachineValue) (today : ℕ) (command : Option Command) (ready : Settlement)
    → IsChosen machine today command (Some ready) → IsReadyOf machine today ready.command ready
chosen_ready machine today None ready chosen = absurd chosen
chosen_ready machine today (Some command) ready chosen =
    let P : Command → Type 0 = λ it. IsReadyOf machine today it ready in subst P (sym chosen.is_it) chosen

pub unchosen_command : (machine : MachineValue) (today : ℕ) (command : Option Command)
    → IsChosen machine today command None → command ≡ None
unchosen_command machine today None chosen = refl
unchosen_command machine today (Some command) chosen = absurd chosen

-- what a settlement leaves to do is to look at its account
pub settled_check : (today : ℕ) (account key : List ℕ) (answer : Result Told Failed) (command : Command)
    → settled_by account key answer ≡ Some command → work_of (today, command) ≡ Check account ∷ []
settled_check today account key (Ok told.Processed) command is =
    let same : kinds.Settle (record { account = account; payment = key; status = status.Success }) ≡ command =
    cc in
    rw (← same) refl
settled_check today account key (Ok told.Pending) command is =
    let same : kinds.Settle (record { account = account; payment = key; status = status.Pending }) ≡ command =
    cc in
    rw (← same) refl
settled_check today account key (Ok told.Error) command is =
    let same : kinds.Settle (record { account = account; payment = key; status = status.PaymentFailure })
    ≡ command = cc in
    rw (← same) refl
settled_check today account key (Ok told.Canceled) command is =
    let same : kinds.Settle (record { account = account; payment = key; status = status.PluginFailure })
    ≡ command = cc in
    rw (← same) refl
settled_check today account key (Ok told.Undefined) command is = absurd (cc)
settled_check today account key (Err failed) command is = absurd (cc)

-- one thing is the other if there is the same
pub some-same : {X : Type 0} {one other : X} → Some one ≡ Some other → one ≡ other
some-same is = cc

-- what a failed append leaves
module _ {D : Type 0} (fault_count : D → ℕ) (old new : LogValue D) (entry : Entry) (size : ℕ) where
  pub failed_history : (fault : AppendFault) → Appends fault_count old new entry size (Err fault)
      → new.history ≡ old.history
  failed_history (fault.Stopped count) appends = ap (λ log. log.history) appends.2
  failed_history (fault.Full commands bytes) appends = ap (λ log. log.history) appends.4
  failed_history fault.DiskFault appends = appends.2

-- and it doesn't tell of memory
pub fault_ready : (fault : AppendFault) → fault_step fault ≡ steps.NoMemory → ⊥
fault_ready (fault.Stopped count) same = absurd (cc)
fault_ready (fault.Full commands bytes) same = absurd (cc)
fault_ready fault.DiskFault same = absurd (cc)
