-- Why a command is refused: the first of its refusals that holds, in their order.
use Rattle.std.specs.Prelude.{ℕ, ◌≡◌, Bool, true, false, List, [], ◌∷◌, Option, Some, None, ⊤, if◌then◌else◌}
use Rattle.std.specs.Prelude.{refl}
use Rattle.kb_book.specs.declared.refusal.Refusal.{Refusal}
use Rattle.kb_book.specs.declared.refusal.Refusal.TheVariants as refusal
use Rattle.kb_book.specs.declared.unprepared.Unprepared.{Unprepared}
use Rattle.kb_book.specs.declared.unprepared.Unprepared.TheVariants.{Refused, NoMemory}

-- a refusal, and whether it holds
abbrev pub Rows : Type 0
Rows = List (Bool × Refusal)

-- the first refusal that holds
abbrev pub first_refusal : Rows → Option Refusal
first_refusal [] = None
first_refusal (row ∷ later) = if row.0 then Some row.1 else first_refusal later

the_first : first_refusal
    ((false, refusal.NoPlan) ∷ (true, refusal.NoPrice) ∷ (true, refusal.BundleRule) ∷ [])
    ≡ Some refusal.NoPrice
the_first = refl

-- a limit, by its number
abbrev pub limit : ℕ → ℕ → Refusal
limit which number = refusal.Limit which number

-- Why a command isn't prepared: it has this refusal, or memory ran out.
abbrev pub IsUnprepared : Option Refusal → Unprepared → Type 0
IsUnprepared refusal (Refused told) = refusal ≡ Some told
IsUnprepared refusal NoMemory = ⊤
