-- Settlements that are ready to be written down.
use Rattle.std.specs.Prelude.{ℕ, ◌≡◌, List, [], ◌∷◌, ◌++◌, length, Option, Some, None, Result, Ok, Err}
use Rattle.kb_base.specs.declared.fault.Failed.{Failed}
use Rattle.kb_payment.specs.declared.attempt.Status.{Status}
use Rattle.kb_payment.specs.declared.attempt.Status.TheVariants as status
use Rattle.kb_gateway.specs.declared.told.Told.{Told}
use Rattle.kb_gateway.specs.declared.told.Told.TheVariants as told
use Rattle.kb_codec.specs.declared.command.Command.{Command}
use Rattle.kb_codec.specs.declared.command.Command.TheVariants as kinds
use Rattle.kb_codec.specs.Commands.{IsDay}
use Rattle.kb_journal.specs.Format.{IsSized}
use Rattle.kb_codec.specs.Entries.{payload}
use Rattle.kb_machine.specs.Judged.{New}
use Rattle.kb_machine.specs.Machines.{MachineValue, judged}
use Rattle.kb_machine.specs.Plans.{changed, change_reply, IsThere}
use Rattle.kb_journal.specs.declared.fault.AppendFault.{AppendFault}
use Rattle.kb_journal.specs.declared.fault.AppendFault.TheVariants as fault
use Rattle.kb_book.specs.declared.step.Step.{Step}
use Rattle.kb_book.specs.declared.step.Step.TheVariants as steps
use Rattle.kb_lane.specs.declared.settlement.Settlement.{Settlement}
use Rattle.kb_lane.specs.declared.settlement.Settlements.{Settlements}

-- A command that is ready: it is new to the machine, with this change and these bytes.
pub record IsReadyOf (machine : MachineValue) (today : ℕ) (command : Command)
    (ready : Settlement) : Type 0 where
  pub is_it : ready.command ≡ command
  pub planned : judged machine today command ≡ New (change_reply ready.change) (changed machine ready.change)
  pub there : IsThere machine ready.change
  pub bytes : ready.bytes.items ≡ payload (today, command)
  pub sized : IsSized ready.bytes.items
  pub dated : IsDay today

abbrev pub IsReady : MachineValue → ℕ → List ℕ → List ℕ → Status → Settlement → Type 0
IsReady machine today account key status ready = IsReadyOf machine today
    (kinds.Settle (record { account = account; payment = key; status = status })) ready

-- one more is ready, to this status
abbrev pub AddsReady : MachineValue → ℕ → List ℕ → List ℕ → Status → List Settlement → List Settlement
    → Type 0
AddsReady machine today account key to old new = (one : Settlement) × (new ≡ old ++ one ∷ [])
    × IsReady machine today account key to one

-- one for each status that a gateway may tell
pub record AreReady (machine : MachineValue) (today : ℕ) (account key : List ℕ)
    (ready : Settlements) : Type 0 where
  pub success : Settlement
  pub pending : Settlement
  pub payment_failure : Settlement
  pub plugin_failure : Settlement
  pub all : ready.each.items ≡ success ∷ pending ∷ payment_failure ∷ plugin_failure ∷ []
  pub to_success : IsReady machine today account key status.Success success
  pub to_pending : IsReady machine today account key status.Pending pending
  pub to_payment_failure : IsReady machine today account key status.PaymentFailure payment_failure
  pub to_plugin_failure : IsReady machine today account key status.PluginFailure plugin_failure

-- there are four
abbrev pub IsWhole : Settlements → Type 0
IsWhole ready = length ready.each.items ≡ 4

-- the place of the one that an answer asks for
abbrev pub told_place : Result Told Failed → Option ℕ
told_place (Ok told.Processed) = Some 0
told_place (Ok told.Pending) = Some 1
told_place (Ok told.Error) = Some 2
told_place (Ok told.Canceled) = Some 3
told_place (Ok told.Undefined) = None
told_place (Err failed) = None

-- the settlement that was chosen is that command, ready; or none was, as there is none
abbrev pub IsChosen : MachineValue → ℕ → Option Command → Option Settlement → Type 0
IsChosen machine today None None = Unit {0}
IsChosen machine today None (Some ready) = ⊥
IsChosen machine today (Some command) None = ⊥
IsChosen machine today (Some command) (Some ready) = IsReadyOf machine today command ready

-- the step that ends with an append that failed
abbrev pub fault_step : AppendFault → Step
fault_step fault.DiskFault = steps.DiskFault
fault_step (fault.Stopped count) = steps.Stopped count
fault_step (fault.Full commands size) = steps.Full commands size
