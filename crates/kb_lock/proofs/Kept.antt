-- Each step keeps what always holds of a lock: first on states alone.
use Rattle.std.proofs.Common.{◌≡◌, ◌≢◌, ◌⊎◌, ℕ, zero, suc, ◌+◌, ◌^◌, ◌<◌, ◌≤◌, List, [], ◌∷◌, ◌++◌, length}
use Rattle.std.proofs.Common.{set, Some, Option, Bool, true, false, true≢false, refl, sym, ap, ◌∙◌, subst}
use Rattle.std.proofs.Common.{inl, inr, ⊎_elim, arith}
use Rattle.std.specs.Prelude.{slice_index}
use mathlib.Core.List.{IsPrefix}
use mathlib.Core.Option.{some, none, some-injective, some-ne-none}
use mathlib.Core.Logic.{dite}
use native.Mathlib.Decide.{ℕ_discrete}
use lib.ListN.{get_elem?}
use Rattle.atomic_table.specs.Table.{State, keeps, takes, gives, stepped, opening}
use Rattle.atomic_table.proofs.Lists.{at_longer, set_else, set_again}
use Rattle.kb_lock.specs.declared.table.View.{View}
use Rattle.kb_lock.specs.Rule.{has_ticket, has_slot, HasTicket, Agrees, IsAtHome, IsOut, IsLock}
use Rattle.kb_lock.specs.Private.Views.{rests, waits, holds, told}
use Rattle.kb_lock.proofs.Prefixes.{prefix_self, prefix_then}
use Rattle.kb_lock.proofs.Views.{slot_ticket, no, two_places, here, each_after, once_after, once_still}
use Rattle.kb_lock.proofs.Views.{owner_after, each_more, once_more, owner_more}

pub nothing : {E : Type 0} (xs : List E) → IsPrefix [] xs
nothing xs = (xs, refl)

pub word_again : (ws : List ℕ) (i : ℕ) → set ws i (slice_index ws i) ≡ ws
word_again [] i = refl
word_again (x ∷ xs) zero = refl
word_again (x ∷ xs) (suc i) = ap (λ l. x ∷ l) (word_again xs i)

module _ {T E : Type 0} (history : T → List E) where
  -- the state with another view at one place, and with other words
  abbrev pub with_view : State (Option T) (View E) → List ℕ → ℕ → View E → State (Option T) (View E)
  with_view s ws id w = record { words = ws; homes = s.homes; views = set s.views id w }

  abbrev Slot : List E → State (Option T) (View E) → Type 0
  Slot front s = IsAtHome history front s ⊎ IsOut history s

  -- what is so of a view without a ticket
  resting : (next serving : ℕ) (front seen note : List E) → IsPrefix seen front → IsPrefix note front
      → Agrees next serving front (record (rests seen) { note = note })
  resting next serving front seen note a b = record {
    drawn = λ t. absurd (true≢false (sym t));
    served = λ t. absurd (true≢false (sym t));
    seen = a;
    note = b;
  }

  -- the slot stays where it is, where neither the old nor the new view has it
  slot_still : (s : State (Option T) (View E)) (front : List E) (by : ℕ) (v w : View E) (ws : List ℕ)
      → get_elem? s.views by ≡ some v → has_slot v.stage ≡ false → has_slot w.stage ≡ false
      → Slot front s → Slot front (with_view s ws by w)
  slot_still s front by v w ws at was is slot =
      ⊎_elim
      (λ (h : IsAtHome history front s).
      let without : View E → Type 0 = (λ x. has_slot x.stage ≡ false) in
      inl (h.0, h.1, h.2, each_after s.views by v at w without (λ k u apart e. h.3 k u e) is))
      (λ (o : IsOut history s).
      let apart = two_places s.views (λ x. has_slot x.stage) o.1 by o.2 v o.3 at o.4 was in
      inr (o.0, o.1, o.2, set_else s.views by o.1 w apart ∙ o.3, o.4))
      slot

  -- a step that changes nothing
  pub still : (s : State (Option T) (View E)) (i id : ℕ) (c : List (ℕ × Option T)) (v : View E)
      → IsLock history s → get_elem? s.views id ≡ some v
      → IsLock history (stepped s i (slice_index s.words i) id c v keeps)
  still s i id c v h at =
      let words : s.words ≡ set s.words i (slice_index s.words i) = sym (word_again s.words i) in
      let views : s.views ≡ set s.views id v = sym (set_again s.views id v at) in
      subst (IsLock history) (λ k. record { words = words k; homes = s.homes; views = views k }) h

  module _ (s : State (Option T) (View E)) (h : IsLock history s) (id : ℕ) where
    -- no other pass has the slot
    alone : (v : View E) → get_elem? s.views id ≡ some v → HasTicket v h.serving
        → (k : ℕ) (u : View E) → k ≢ id → get_elem? s.views k ≡ some u → has_slot u.stage ≡ false
    alone v at mine k u apart e = by_slot (has_slot u.stage) refl
      where
        by_slot : (b : Bool) → has_slot u.stage ≡ b → has_slot u.stage ≡ false
        by_slot false is = is
        by_slot true is =
            let theirs : HasTicket u h.serving = (slot_ticket u.stage is, ((h.agree k u e).served is).0) in
            absurd (apart (h.once k id h.serving u v e at theirs mine))

    -- where the served ticket is that of a pass without the slot, the value is at home
    pub at_home : (v : View E) → get_elem? s.views id ≡ some v → HasTicket v h.serving
        → has_slot v.stage ≡ false → IsAtHome history h.front s
    at_home v at mine none_yet =
        ⊎_elim
        (λ (x : IsAtHome history h.front s). x)
        (λ (o : IsOut history s).
        let apart = two_places s.views (λ x. has_slot x.stage) o.1 id o.2 v o.3 at o.4 none_yet in
        no o.4 (alone v at mine o.1 o.2 apart o.3))
        h.slot

    -- where a pass has the slot, it is out
    is_out : (v : View E) → get_elem? s.views id ≡ some v → has_slot v.stage ≡ true → s.homes ≡ none ∷ []
    is_out v at has =
        ⊎_elim
        (λ (x : IsAtHome history h.front s). no has (x.3 id v at))
        (λ (o : IsOut history s). o.0)
        h.slot

    -- a view without a ticket stands in the place of one without a ticket
    pub quiet : (v : View E) (seen note : List E) → get_elem? s.views id ≡ some v → has_ticket v.stage ≡ false
        → has_slot v.stage ≡ false → IsPrefix seen h.front → IsPrefix note h.front
        → IsLock history (with_view s s.words id (record (rests seen) { note = note }))
    quiet v seen note at vt vs a b =
        let w : View E = record (rests seen) { note = note } in record {
          next = h.next;
          serving = h.serving;
          front = h.front;
          words = h.words;
          in_order = h.in_order;
          agree = each_after s.views id v at w (Agrees h.next h.serving h.front)
              (λ k u apart e. h.agree k u e)
              (resting h.next h.serving h.front seen note a b);
          once = once_still s.views id v at w h.once (λ n t. absurd (true≢false (sym t.0)));
          kept = λ n low high. owner_after s.views id v at w n (h.kept n low high) (λ t. no t.0 vt);
          slot = slot_still s h.front id v w s.words at vs refl h.slot;
        }

    -- a ticket is drawn
    pub draw : (seen : List E) (old : ℕ) → get_elem? s.views id ≡ some (rests seen) → h.next ≡ old
        → old + 1 < 2 ^ 64 → IsLock history (stepped s 0 (old + 1) id [] (waits old seen) keeps)
    draw seen old at is more =
        let v : View E = rests seen in
        let w : View E = waits old seen in
        let mine = h.agree id v at in
        let low : h.serving ≤ h.next = h.in_order.0 in record {
          next = old + 1;
          serving = h.serving;
          front = h.front;
          words = ap (λ ws. set ws 0 (old + 1)) h.words;
          in_order = (omega arith, more);
          agree = each_after s.views id v at w (Agrees (old + 1) h.serving h.front)
              (λ k u apart e.
              let a = h.agree k u e in record {
                drawn = λ t. ((a.drawn t).0, let high = (a.drawn t).1 in omega arith);
                served = a.served;
                seen = a.seen;
                note = a.note;
              })
              (record {
                drawn = λ t. (omega arith, omega arith);
                served = λ t. absurd (true≢false (sym t));
                seen = mine.seen;
                note = mine.note;
              });
          once = once_after s.views id v at w h.once
              (λ n t k u apart e t'.
              let high : u.ticket < h.next = ((h.agree k u e).drawn t'.0).1 in
              let a : old ≡ n = t.1 in
              let b : u.ticket ≡ n = t'.1 in
              omega arith);
          kept = λ n from to.
              dite
              (ℕ_discrete n old)
              (λ same. (id, w, here s.views id v at w, (refl, sym same)))
              (λ apart.
              let o = h.kept n from (omega arith) in
              owner_after s.views id v at w n o (λ t. absurd (true≢false (sym t.0))));
          slot = slot_still s h.front id v w (set s.words 0 (old + 1)) at refl refl h.slot;
        }

    -- the slot is taken by the pass whose ticket is served
    pub take : (ticket : ℕ) (seen : List E) (value : T) → get_elem? s.views id ≡ some (waits ticket seen)
        → h.serving ≡ ticket → s.homes ≡ some (Some value) ∷ [] → history value ≡ h.front
        → IsLock history
        (stepped s 1 (slice_index s.words 1) id [] (holds ticket (history value)) (takes 0 (Some value)))
    take ticket seen value at is home whole =
        let v : View E = waits ticket seen in
        let w : View E = holds ticket (history value) in
        let mine = h.agree id v at in record {
          next = h.next;
          serving = h.serving;
          front = h.front;
          words = word_again s.words 1 ∙ h.words;
          in_order = h.in_order;
          agree = each_after s.views id v at w (Agrees h.next h.serving h.front)
              (λ k u apart e. h.agree k u e)
              (record {
                drawn = λ t. mine.drawn refl;
                served = λ t. (sym is, whole);
                seen = subst (IsPrefix (history value)) whole (prefix_self (history value));
                note = nothing h.front;
              });
          once = once_still s.views id v at w h.once (λ n t. (refl, t.1));
          kept = λ n low high. owner_after s.views id v at w n (h.kept n low high) (λ t. (refl, t.1));
          slot = inr (ap (λ hs. set hs 0 none) home, id, w, here s.views id v at w, refl);
        }

    -- the front is set to the history of the value that was put back
    pub tell : (ticket : ℕ) (seen : List E) (value : T) (count : ℕ) (c : List (ℕ × Option T))
        → get_elem? s.views id ≡ some (holds ticket seen) → IsPrefix seen (history value)
        → count ≡ length (history value)
        → IsLock history (stepped s 2 count id c (told ticket (history value)) keeps)
    tell ticket seen value count c at grown counted =
        let v : View E = holds ticket seen in
        let w : View E = told ticket (history value) in
        let front : List E = history value in
        let mine = h.agree id v at in
        let now = mine.served refl in
        let longer : IsPrefix h.front front = subst (λ l. IsPrefix l front) now.1 grown in record {
          next = h.next;
          serving = h.serving;
          front = front;
          words = ap (λ ws. set ws 2 count) h.words ∙ ap (λ n. h.next ∷ h.serving ∷ n ∷ []) counted;
          in_order = h.in_order;
          agree = each_after s.views id v at w (Agrees h.next h.serving front)
              (λ k u apart e.
              let a = h.agree k u e in record {
                drawn = a.drawn;
                served = λ t. no t (alone v at (refl, now.0) k u apart e);
                seen = prefix_then u.seen h.front front a.seen longer;
                note = prefix_then u.note h.front front a.note longer;
              })
              (record {
                drawn = λ t. mine.drawn refl;
                served = λ t. (now.0, refl);
                seen = prefix_self front;
                note = nothing front;
              });
          once = once_still s.views id v at w h.once (λ n t. (refl, t.1));
          kept = λ n low high. owner_after s.views id v at w n (h.kept n low high) (λ t. (refl, t.1));
          slot = inr (is_out v at refl, id, w, here s.views id v at w, refl);
        }

    -- the slot comes home, and the next ticket is served
    pub leave : (ticket : ℕ) (value : T) (next : ℕ)
        → get_elem? s.views id ≡ some (told ticket (history value)) → next ≡ h.serving + 1
        → IsLock history (stepped s 1 next id ((0, Some value) ∷ []) (rests (history value)) gives)
    leave ticket value next at is =
        let v : View E = told ticket (history value) in
        let w : View E = rests (history value) in
        let mine = h.agree id v at in
        let now = mine.served refl in
        let served : ticket ≡ h.serving = now.0 in
        let high : ticket < h.next = (mine.drawn refl).1 in record {
          next = h.next;
          serving = h.serving + 1;
          front = h.front;
          words = ap (λ ws. set ws 1 next) h.words ∙ ap (λ n. h.next ∷ n ∷ length h.front ∷ []) is;
          in_order = (omega arith, h.in_order.1);
          agree = each_after s.views id v at w (Agrees h.next (h.serving + 1) h.front)
              (λ k u apart e.
              let a = h.agree k u e in record {
                drawn = λ t.
                    let low : h.serving ≤ u.ticket = (a.drawn t).0 in
                    let other : h.serving ≢ u.ticket =
                    (λ same. apart (h.once k id h.serving u v e at (t, sym same) (refl, served))) in
                    (omega arith, (a.drawn t).1);
                served = λ t. no t (alone v at (refl, served) k u apart e);
                seen = a.seen;
                note = a.note;
              })
              (resting h.next (h.serving + 1) h.front (history value) [] mine.seen (nothing h.front));
          once = once_still s.views id v at w h.once (λ n t. absurd (true≢false (sym t.0)));
          kept = λ n from to.
              let o = h.kept n (omega arith) to in
              owner_after s.views id v at w n o (λ t. let a : ticket ≡ n = t.1 in absurd (omega arith));
          slot = inl (
            value,
            ap (λ hs. set hs 0 (some (Some value))) (is_out v at refl),
            now.1,
            each_after s.views id v at w (λ x. has_slot x.stage ≡ false)
                (λ k u apart e. alone v at (refl, served) k u apart e)
                refl,
          );
        }

    -- one view more, which has no ticket and saw what another saw
    pub add_rest : (v : View E) → get_elem? s.views id ≡ some v
        → IsLock history (record { words = s.words; homes = s.homes; views = s.views ++ rests v.seen ∷ [] })
    add_rest v at =
        let w : View E = rests v.seen in record {
          next = h.next;
          serving = h.serving;
          front = h.front;
          words = h.words;
          in_order = h.in_order;
          agree = each_more s.views w (Agrees h.next h.serving h.front) h.agree
              (resting h.next h.serving h.front v.seen [] (h.agree id v at).seen (nothing h.front));
          once = once_more s.views w h.once refl;
          kept = λ n low high. owner_more s.views w n (h.kept n low high);
          slot = ⊎_elim
              (λ (x : IsAtHome history h.front s).
              inl (x.0, x.1, x.2, each_more s.views w (λ z. has_slot z.stage ≡ false) x.3 refl))
              (λ (o : IsOut history s). inr (o.0, o.1, o.2, at_longer s.views (w ∷ []) o.1 o.2 o.3, o.4))
              h.slot;
        }

  -- a new lock
  pub starts : (value : T) (count : ℕ) → count ≡ length (history value)
      → IsLock history (opening (0 ∷ 0 ∷ count ∷ []) (Some value ∷ []) (rests (history value)))
  starts value count is =
      let front : List E = history value in record {
        next = 0;
        serving = 0;
        front = front;
        words = ap (λ n. 0 ∷ 0 ∷ n ∷ []) is;
        in_order = (omega arith, omega arith);
        agree = λ k v e.
            let first = resting 0 0 front front [] (prefix_self front) (nothing front) in
            subst (Agrees 0 0 front) (only k v e) first;
        once = λ j k n v w e e' t t'. no t.0 (ap (λ x. has_ticket x.stage) (sym (only j v e)));
        kept = λ n low high. absurd (omega arith);
        slot = inl (value, refl, refl, λ k v e. ap (λ x. has_slot x.stage) (sym (only k v e)));
      }
    where
      only : (k : ℕ) (v : View E) → get_elem? (rests (history value) ∷ []) k ≡ some v
          → rests (history value) ≡ v
      only zero v e = some-injective _ _ e
      only (suc k) v e = absurd (some-ne-none v (sym e))
