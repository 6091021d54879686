-- What an answer of a journal tells of the journal as it was.
use Rattle.std.proofs.Common.{◌≡◌, ℕ, Bool, true, false, Result, Ok, Err, IsErrOf, ◌↔◌, refl}
use Rattle.kb_journal.specs.declared.fault.AppendFault.{AppendFault}
use Rattle.kb_journal.specs.declared.fault.AppendFault.TheVariants.{Stopped, Full, DiskFault}

pub not_true : (b : Bool) → (b ≡ true → ⊥) → b ≡ false
not_true true not = absurd (not refl)
not_true false not = refl

-- an answer that is no Stopped tells that the journal isn't stopped
pub running : {A : Type 0} (stopped : Bool) (count : ℕ) (result : Result A AppendFault)
    → ((told : ℕ) → IsErrOf result (Stopped told) ↔ ((stopped ≡ true) × (told ≡ count)))
    → (IsErrOf result (Stopped count) → ⊥) → stopped ≡ false
running stopped count result exact not = not_true stopped (λ is. not ((exact count).1 (is, refl)))

-- and one that is no Full that there is room
pub roomy : {A Is : Type 0} (stopped : Bool) (count size : ℕ) (result : Result A AppendFault)
    → ((commands bytes : ℕ) → IsErrOf result (Full commands bytes)
    ↔ ((stopped ≡ false) × Is × (commands ≡ count) × (bytes ≡ size)))
    → (IsErrOf result (Full count size) → ⊥) → stopped ≡ false → Is → ⊥
roomy stopped count size result exact not runs is = not ((exact count size).1 (runs, is, refl, refl))

-- an answer is one of them
pub fault_isnt_stopped : {A : Type 0} (result : Result A AppendFault) (count : ℕ) → result ≡ Err DiskFault
    → IsErrOf result (Stopped count) → ⊥
fault_isnt_stopped result count is told = cc

pub fault_isnt_full : {A : Type 0} (result : Result A AppendFault) (commands bytes : ℕ)
    → result ≡ Err DiskFault
    → IsErrOf result (Full commands bytes) → ⊥
fault_isnt_full result commands bytes is told = cc

pub done_isnt : {A : Type 0} (result : Result A AppendFault) (number : A) (fault : AppendFault)
    → result ≡ Ok number → IsErrOf result fault → ⊥
done_isnt result number fault is told = cc
