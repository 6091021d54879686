-- What a query is shown.
use Rattle.std.proofs.Common.{◌≡◌, Some, Result, Ok, Err, refl, sym, subst}
use Rattle.kb_json.specs.declared.fault.RequestFault.TheVariants as faults
use Rattle.kb_json.specs.declared.said.Said.TheVariants as says
use Rattle.kb_book.specs.declared.refusal.Refusal.{Refusal}
use Rattle.kb_book.specs.declared.views.View.{View}
use Rattle.kb_account.specs.Prepares.{refusal_by}
use Rattle.kb_apply.specs.LaneRuns.{IsShown}

-- what a query is shown: a view, a refusal, or that memory ran out
pub shown_view : (told : Result View Refusal) (view : View) → told ≡ Ok view → IsShown told (says.View view)
shown_view told view is = subst (λ told. IsShown told (says.View view)) (sym is) refl

pub shown_refusal : (told : Result View Refusal) (refusal : Refusal) → refusal_by told ≡ Some refusal
    → IsShown told (says.Refused refusal)
shown_refusal (Ok view) refusal is = absurd (cc)
shown_refusal (Err other) refusal is = cc

pub shown_memory : (told : Result View Refusal) → IsShown told (says.Fault faults.NoMemory)
shown_memory (Ok view) = tt
shown_memory (Err refusal) = tt
