-- First come, first served: what the rule says of the two steps that change a ticket.
-- No other step draws or serves one, since the other words stay as they are.
use Rattle.std.specs.Prelude.{◌≡◌, ℕ, ◌+◌, List, true, false, Option, slice_index}
use mathlib.Core.Option.{some}
use lib.ListN.{get_elem?}
use Rattle.atomic_table.specs.Table.{State, Act, stepped}
use Rattle.kb_lock.specs.declared.table.View.{View}
use Rattle.kb_lock.specs.Rule.{has_ticket, has_slot, IsLock}

module _ {T E : Type 0} (history : T → List E) where
  -- a step on word 0 that gives a pass a ticket keeps the rule only if that is the next one, and is counted
  abbrev pub DrawsInTurn : Type 0
  DrawsInTurn = (s : State (Option T) (View E)) (id drawn : ℕ) (slots : List (ℕ × Option T)) (v w : View E)
      (act : Act (Option T)) → IsLock history s → get_elem? s.views id ≡ some v → has_ticket v.stage ≡ false
      → has_ticket w.stage ≡ true → IsLock history (stepped s 0 drawn id slots w act)
      → (w.ticket ≡ slice_index s.words 0) × (drawn ≡ slice_index s.words 0 + 1)

  -- a step on word 1 by which a pass with the slot loses its ticket keeps the rule only if its own was served
  -- and the one after it is served next
  abbrev pub ServesInTurn : Type 0
  ServesInTurn = (s : State (Option T) (View E)) (id served : ℕ) (slots : List (ℕ × Option T)) (v w : View E)
      (act : Act (Option T)) → IsLock history s → get_elem? s.views id ≡ some v → has_slot v.stage ≡ true
      → has_ticket w.stage ≡ false → IsLock history (stepped s 1 served id slots w act)
      → (v.ticket ≡ slice_index s.words 1) × (served ≡ slice_index s.words 1 + 1)
