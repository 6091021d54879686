-- The settlement that is at the place of an answer is the one that the answer asks for.
use Rattle.std.proofs.Common.{ℕ, ◌≡◌, List, [], ◌∷◌, None, Some, Result, Ok, Err, length, slice_index_or, sym}
use Rattle.std.proofs.Common.{ap, subst, ◌∙◌}
use Rattle.kb_base.specs.declared.fault.Failed.{Failed}
use Rattle.kb_gateway.specs.declared.told.Told.{Told}
use Rattle.kb_gateway.specs.declared.told.Told.TheVariants as told
use Rattle.kb_payment.specs.declared.attempt.Status.{Status}
use Rattle.kb_payment.specs.declared.attempt.Status.TheVariants as status
use Rattle.kb_machine.specs.Machines.{MachineValue}
use Rattle.kb_lane.specs.declared.settlement.Settlement.{Settlement}
use Rattle.kb_lane.specs.declared.settlement.Settlements.{Settlements}
use Rattle.kb_lane.specs.Orders.{settled_by}
use Rattle.kb_lane.specs.Private.Settlements.{IsReady, AreReady, IsWhole, IsChosen, told_place}

module _ (machine : MachineValue) (today : ℕ) (account key : List ℕ) (ready : Settlements)
    (are : AreReady machine today account key ready) (one : Settlement) where
  -- what stands at a place
  at-place : (place other : ℕ) → place ≡ other → one ≡ slice_index_or ready.each.items other one
      → one ≡ slice_index_or (are.success ∷ are.pending ∷ are.payment_failure ∷ are.plugin_failure
      ∷ []) place one
  at-place place other same at =
      at ∙ ap (λ all. slice_index_or all other one) are.all
      ∙ ap (λ it. slice_index_or (are.success ∷ are.pending ∷ are.payment_failure
      ∷ are.plugin_failure ∷ []) it one)
      (sym same)

  is-ready : (to : Status) (other : Settlement) → one ≡ other → IsReady machine today account key to other
      → IsReady machine today account key to one
  is-ready to other same ready =
      let P : Settlement → Type 0 = λ it. IsReady machine today account key to it in subst P (sym same) ready

  pub chosen_some : (answer : Result Told Failed) (place : ℕ) → told_place answer ≡ Some place
      → one ≡ slice_index_or ready.each.items place one
      → IsChosen machine today (settled_by account key answer) (Some one)
  chosen_some (Ok told.Processed) place is at =
      is-ready status.Success are.success (at-place 0 place (cc) at) are.to_success
  chosen_some (Ok told.Pending) place is at =
      is-ready status.Pending are.pending (at-place 1 place (cc) at) are.to_pending
  chosen_some (Ok told.Error) place is at =
      is-ready status.PaymentFailure are.payment_failure (at-place 2 place (cc) at) are.to_payment_failure
  chosen_some (Ok told.Canceled) place is at =
      is-ready status.PluginFailure are.plugin_failure (at-place 3 place (cc) at) are.to_plugin_failure
  chosen_some (Ok told.Undefined) place is at = absurd (cc)
  chosen_some (Err failed) place is at = absurd (cc)

-- no settlement where none is asked for
pub chosen_none : (machine : MachineValue) (today : ℕ) (account key : List ℕ) (answer : Result Told Failed)
    → told_place answer ≡ None → IsChosen machine today (settled_by account key answer) None
chosen_none machine today account key (Ok told.Processed) is = absurd (cc)
chosen_none machine today account key (Ok told.Pending) is = absurd (cc)
chosen_none machine today account key (Ok told.Error) is = absurd (cc)
chosen_none machine today account key (Ok told.Canceled) is = absurd (cc)
chosen_none machine today account key (Ok told.Undefined) is = tt
chosen_none machine today account key (Err failed) is = tt

-- there are four
pub all_four : (machine : MachineValue) (today : ℕ) (account key : List ℕ) (ready : Settlements)
    → AreReady machine today account key ready → IsWhole ready
all_four machine today account key ready are = ap (λ all. length all) are.all
