-- Tickets are drawn and served in their order.
use Rattle.std.proofs.Common.{◌≡◌, ◌≢◌, ℕ, ◌+◌, ◌<◌, ◌≤◌, List, set, Option, true, false, refl, sym, ap, ◌∙◌}
use Rattle.std.proofs.Common.{⊎_elim, arith}
use Rattle.std.specs.Prelude.{slice_index}
use mathlib.Core.Logic.{dite}
use native.Mathlib.Decide.{dec_le}
use mathlib.Core.Option.{some}
use lib.ListN.{get_elem?}
use Rattle.atomic_table.proofs.Lists.{at_set, set_else}
use Rattle.atomic_table.specs.Table.{State, Act, stepped}
use Rattle.kb_lock.specs.declared.table.View.{View}
use Rattle.kb_lock.specs.Rule.{has_ticket, has_slot, HasTicket, HasOwner, NoneTwice, IsLock}
use Rattle.kb_lock.specs.FirstCome.{DrawsInTurn, ServesInTurn}
use Rattle.kb_lock.proofs.Views.{slot_ticket, no, one_view, two_places, here, each_after}

module _ {E : Type 0} (views : List (View E)) (id n : ℕ) (v w : View E)
    (at : get_elem? views id ≡ some v) where
  -- a ticket that was left has no owner
  unowned : HasTicket v n → NoneTwice views → has_ticket w.stage ≡ false → HasOwner (set views id w) n
      → ⊥
  unowned mine once none o =
      each_after views id v at w (λ u. HasTicket u n → ⊥)
      (λ k u apart e t. apart (once k id n u v e at t mine))
      (λ t. no t.0 none)
      o.0 o.1 o.2 o.3

  -- another ticket has its owner still
  owned : HasTicket v n → (m : ℕ) (o : HasOwner views m) → n ≢ m
      → get_elem? (set views id w) o.0 ≡ some o.1
  owned mine m o other =
      let ticket : o.0 ≡ id → n ≡ m =
      (λ same.
      let one = one_view views o.0 id o.1 v o.2 at same in
      sym mine.1 ∙ (ap (λ x. x.ticket) (sym one) ∙ o.3.1)) in
      set_else views id o.0 w (λ same. other (ticket same)) ∙ o.2

module _ {T E : Type 0} (history : T → List E) where
  module _ (s : State (Option T) (View E)) (id served : ℕ) (slots : List (ℕ × Option T)) (v w : View E)
      (act : Act (Option T)) (h : IsLock history s) (at : get_elem? s.views id ≡ some v)
      (has : has_slot v.stage ≡ true) (none : has_ticket w.stage ≡ false)
      (h' : IsLock history (stepped s 1 served id slots w act)) where
    mine : HasTicket v h.serving
    mine = (slot_ticket v.stage has, ((h.agree id v at).served has).0)

    is : served ≡ h'.serving
    is = ap (λ ws. slice_index (set ws 1 served) 1) (sym h.words) ∙ ap (λ ws. slice_index ws 1) h'.words

    next : h.next ≡ h'.next
    next = ap (λ ws. slice_index (set ws 1 served) 0) (sym h.words) ∙ ap (λ ws. slice_index ws 0) h'.words

    again : served ≤ h.serving → ⊥
    again low =
        let ticket : v.ticket ≡ h.serving = mine.1 in
        let high : v.ticket < h.next = ((h.agree id v at).drawn mine.0).1 in
        let a : served ≡ h'.serving = is in
        let b : h.next ≡ h'.next = next in
        unowned s.views id h.serving v w at mine h.once none (h'.kept h.serving (omega arith) (omega arith))

    skipped : h.serving + 2 ≤ served → ⊥
    skipped far =
        let a : served ≡ h'.serving = is in
        let b : h.next ≡ h'.next = next in
        let c : h'.serving ≤ h'.next = h'.in_order.0 in
        let o = h.kept (h.serving + 1) (omega arith) (omega arith) in
        let ticket : o.1.ticket ≡ h.serving + 1 = o.3.1 in
        let there = owned s.views id h.serving v w at mine (h.serving + 1) o (λ e. omega arith) in
        let low : h'.serving ≤ o.1.ticket = ((h'.agree o.0 o.1 there).drawn o.3.0).0 in
        omega arith

    served_next : (v.ticket ≡ slice_index s.words 1) × (served ≡ slice_index s.words 1 + 1)
    served_next =
        let was : slice_index s.words 1 ≡ h.serving = ap (λ ws. slice_index ws 1) h.words in (
          mine.1 ∙ sym was,
          dite
              (dec_le served h.serving)
              (λ low. absurd (again low))
              (λ above.
              dite (dec_le (h.serving + 2) served) (λ far. absurd (skipped far)) (λ near. omega arith)),
        )

  pub serves_in_turn : ServesInTurn history
  serves_in_turn = served_next

  module _ (s : State (Option T) (View E)) (id drawn : ℕ) (slots : List (ℕ × Option T)) (v w : View E)
      (act : Act (Option T)) (h : IsLock history s) (at : get_elem? s.views id ≡ some v)
      (none : has_ticket v.stage ≡ false) (has : has_ticket w.stage ≡ true)
      (h' : IsLock history (stepped s 0 drawn id slots w act)) where
    count : drawn ≡ h'.next
    count = ap (λ ws. slice_index (set ws 0 drawn) 0) (sym h.words) ∙ ap (λ ws. slice_index ws 0) h'.words

    serving : h.serving ≡ h'.serving
    serving =
        ap (λ ws. slice_index (set ws 0 drawn) 1) (sym h.words) ∙ ap (λ ws. slice_index ws 1) h'.words

    bounds : (h'.serving ≤ w.ticket) × (w.ticket < h'.next)
    bounds = (h'.agree id w (here s.views id v at w)).drawn has

    -- a ticket that had an owner isn't drawn again
    new : w.ticket < h.next → ⊥
    new low =
        let a : h.serving ≡ h'.serving = serving in
        let b : h'.serving ≤ w.ticket = bounds.0 in
        let o = h.kept w.ticket (omega arith) low in
        let apart = two_places s.views (λ x. has_ticket x.stage) o.0 id o.1 v o.2 at o.3.0 none in
        let there = set_else s.views id o.0 w apart ∙ o.2 in
        apart (h'.once o.0 id w.ticket o.1 w there (here s.views id v at w) o.3 (has, refl))

    -- a ticket that had none is the new view's
    only : (m : ℕ) → h.next ≤ m → m < h'.next → w.ticket ≡ m
    only m low high =
        let a : h.serving ≡ h'.serving = serving in
        let b : h.serving ≤ h.next = h.in_order.0 in
        let o = h'.kept m (omega arith) high in
        ⊎_elim
        (λ (t : (o.0 ≡ id) × (w ≡ o.1)). ap (λ x. x.ticket) t.1 ∙ o.3.1)
        (λ (t : (o.0 ≢ id) × (get_elem? s.views o.0 ≡ some o.1)).
        let below : o.1.ticket < h.next = ((h.agree o.0 o.1 t.1).drawn o.3.0).1 in
        let ticket : o.1.ticket ≡ m = o.3.1 in
        absurd (omega arith))
        (at_set s.views id o.0 w o.1 o.2)

    drawn_next : (w.ticket ≡ slice_index s.words 0) × (drawn ≡ slice_index s.words 0 + 1)
    drawn_next =
        let was : slice_index s.words 0 ≡ h.next = ap (λ ws. slice_index ws 0) h.words in
        let now : drawn ≡ h'.next = count in
        let high : w.ticket < h'.next = bounds.1 in
        dite
        (dec_le h.next w.ticket)
        (λ from.
        let ticket : w.ticket ≡ h.next = only h.next (omega arith) (omega arith) in (
          ticket ∙ sym was,
          dite
              (dec_le (h.next + 2) h'.next)
              (λ far.
              let other : w.ticket ≡ h.next + 1 = only (h.next + 1) (omega arith) (omega arith) in
              absurd (omega arith))
              (λ near. omega arith),
        ))
        (λ below. absurd (new (omega arith)))

  pub draws_in_turn : DrawsInTurn history
  draws_in_turn = drawn_next
