-- What always holds of a lock, between any two atomic steps of any threads.
-- Word 0 counts the tickets drawn, word 1 is the ticket served, and word 2 is the length of the front.
use Rattle.std.specs.Prelude.{◌≡◌, ◌⊎◌, ℕ, ◌^◌, ◌<◌, ◌≤◌, List, [], ◌∷◌, length, Bool, true, false, Option}
use Rattle.std.specs.Prelude.{Some}
use mathlib.Core.List.{IsPrefix}
use mathlib.Core.Option.{some, none}
use lib.ListN.{get_elem?}
use Rattle.atomic_table.specs.Table.{State}
use Rattle.kb_lock.specs.declared.table.View.{View}
use Rattle.kb_lock.specs.declared.table.Stage.{Stage}
use Rattle.kb_lock.specs.declared.table.Stage.TheVariants.{Rests, Waits, Holds, Told}

-- from its draw to its leave a pass has a ticket
abbrev pub has_ticket : Stage → Bool
has_ticket Rests = false
has_ticket Waits = true
has_ticket Holds = true
has_ticket Told = true

-- from the look that finds its ticket served to its leave the slot is its own
abbrev pub has_slot : Stage → Bool
has_slot Rests = false
has_slot Waits = false
has_slot Holds = true
has_slot Told = true

module _ {E : Type 0} where
  -- the pass has this ticket
  abbrev pub HasTicket : View E → ℕ → Type 0
  HasTicket v n = (has_ticket v.stage ≡ true) × (v.ticket ≡ n)

  -- what a pass knows is so: all that it saw begins the front, and who has the slot saw the whole front
  pub record Agrees (next serving : ℕ) (front : List E) (v : View E) : Type 0 where
    pub drawn : has_ticket v.stage ≡ true → (serving ≤ v.ticket) × (v.ticket < next)
    pub served : has_slot v.stage ≡ true → (v.ticket ≡ serving) × (v.seen ≡ front)
    pub seen : IsPrefix v.seen front
    pub note : IsPrefix v.note front

  -- each pass agrees
  abbrev pub AllAgree : ℕ → ℕ → List E → List (View E) → Type 0
  AllAgree next serving front views =
      (k : ℕ) (v : View E) → get_elem? views k ≡ some v → Agrees next serving front v

  -- no ticket is that of two passes
  abbrev pub NoneTwice : List (View E) → Type 0
  NoneTwice views =
      (j k n : ℕ) (v w : View E) → get_elem? views j ≡ some v → get_elem? views k ≡ some w
      → HasTicket v n → HasTicket w n → j ≡ k

  -- the ticket is that of a pass
  abbrev pub HasOwner : List (View E) → ℕ → Type 0
  HasOwner views n = (k : ℕ) × (v : View E) × (get_elem? views k ≡ some v) × HasTicket v n

  -- each ticket that was drawn and isn't past its turn is that of a pass
  abbrev pub NoneLost : ℕ → ℕ → List (View E) → Type 0
  NoneLost next serving views = (n : ℕ) → serving ≤ n → n < next → HasOwner views n

module _ {T E : Type 0} (history : T → List E) where
  -- the value is at home, its history is the front, and no pass has the slot
  abbrev pub IsAtHome : List E → State (Option T) (View E) → Type 0
  IsAtHome front s =
      (value : T) × (s.homes ≡ some (Some value) ∷ []) × (history value ≡ front)
      × ((k : ℕ) (v : View E) → get_elem? s.views k ≡ some v → has_slot v.stage ≡ false)

  -- the slot is out, with a pass
  abbrev pub IsOut : State (Option T) (View E) → Type 0
  IsOut s =
      (s.homes ≡ none ∷ []) × (k : ℕ) × (v : View E) × (get_elem? s.views k ≡ some v)
      × (has_slot v.stage ≡ true)

pub record IsLock {T E : Type 0} (history : T → List E) (s : State (Option T) (View E)) : Type 0 where
  pub next : ℕ
  pub serving : ℕ
  pub front : List E
  pub words : s.words ≡ next ∷ serving ∷ length front ∷ []
  pub in_order : (serving ≤ next) × (next < 2 ^ 64)
  pub agree : AllAgree next serving front s.views
  pub once : NoneTwice s.views
  pub kept : NoneLost next serving s.views
  pub slot : IsAtHome history front s ⊎ IsOut history s
