-- One view of the list changes, or one is added.
use Rattle.std.proofs.Common.{◌≡◌, ◌≢◌, ℕ, zero, suc, ◌<◌, List, [], ◌∷◌, ◌++◌, length, set, Bool, true}
use Rattle.std.proofs.Common.{false, true≢false, refl, sym, ap, ◌∙◌, subst, ⊎_elim, arith}
use mathlib.Core.Option.{some, some-injective, some-ne-none}
use mathlib.Core.Logic.{dite}
use native.Mathlib.Decide.{ℕ_discrete}
use lib.ListN.{get_elem?}
use Rattle.atomic_table.proofs.Lists.{at_set, at_snoc, at_longer, set_here, set_else}
use Rattle.kb_lock.specs.declared.table.View.{View}
use Rattle.kb_lock.specs.declared.table.Stage.{Stage}
use Rattle.kb_lock.specs.declared.table.Stage.TheVariants.{Rests, Waits, Holds, Told}
use Rattle.kb_lock.specs.Rule.{has_ticket, has_slot, HasTicket, HasOwner, NoneTwice}

-- who has the slot has a ticket
pub slot_ticket : (stage : Stage) → has_slot stage ≡ true → has_ticket stage ≡ true
slot_ticket Rests e = e
slot_ticket Waits e = refl
slot_ticket Holds e = refl
slot_ticket Told e = refl

pub no : {A : Type 0} {b : Bool} → b ≡ true → b ≡ false → A
no t f = absurd (true≢false (sym t ∙ f))

bounded : {A : Type 0} (l : List A) (i : ℕ) (a : A) → get_elem? l i ≡ some a → i < length l
bounded [] i a e = absurd (some-ne-none a (sym e))
bounded (x ∷ xs) zero a e = omega arith
bounded (x ∷ xs) (suc i) a e = let more = bounded xs i a e in omega arith

module _ {E : Type 0} (views : List (View E)) where
  -- one place has one view
  pub one_view : (j k : ℕ) (u v : View E) → get_elem? views j ≡ some u → get_elem? views k ≡ some v → j ≡ k
      → u ≡ v
  one_view j k u v a b same = some-injective u v (sym a ∙ (ap (get_elem? views) same ∙ b))

  -- where a test tells two views apart, their places differ
  pub two_places : (f : View E → Bool) (j k : ℕ) (u v : View E) → get_elem? views j ≡ some u
      → get_elem? views k ≡ some v → f u ≡ true → f v ≡ false → j ≢ k
  two_places f j k u v a b t n same = true≢false (sym t ∙ (ap f (one_view j k u v a b same) ∙ n))

  module _ (by : ℕ) (v : View E) (at : get_elem? views by ≡ some v) (w : View E) where
    pub here : get_elem? (set views by w) by ≡ some w
    here = set_here views by w (bounded views by v at)

    -- a fact of each view stays where the new one has it and the others keep it
    pub each_after : (P : View E → Type 0)
        → ((k : ℕ) (u : View E) → k ≢ by → get_elem? views k ≡ some u → P u) → P w
        → (k : ℕ) (u : View E) → get_elem? (set views by w) k ≡ some u → P u
    each_after P others mine k u e =
        ⊎_elim
        (λ (t : (k ≡ by) × (w ≡ u)). subst P t.1 mine)
        (λ (t : (k ≢ by) × (get_elem? views k ≡ some u)). others k u t.0 t.1)
        (at_set views by k w u e)

    -- no ticket is that of two passes, where the new view's is that of no other
    pub once_after : NoneTwice views
        → ((n : ℕ) → HasTicket w n → (k : ℕ) (u : View E) → k ≢ by → get_elem? views k ≡ some u
        → HasTicket u n → ⊥)
        → NoneTwice (set views by w)
    once_after once apart j k n u u' e e' t t' =
        ⊎_elim
        (λ (a : (j ≡ by) × (w ≡ u)).
        ⊎_elim
        (λ (b : (k ≡ by) × (w ≡ u')). a.0 ∙ sym b.0)
        (λ (b : (k ≢ by) × (get_elem? views k ≡ some u')).
        absurd (apart n (subst (λ x. HasTicket x n) (sym a.1) t) k u' b.0 b.1 t'))
        (at_set views by k w u' e'))
        (λ (a : (j ≢ by) × (get_elem? views j ≡ some u)).
        ⊎_elim
        (λ (b : (k ≡ by) × (w ≡ u')).
        absurd (apart n (subst (λ x. HasTicket x n) (sym b.1) t') j u a.0 a.1 t))
        (λ (b : (k ≢ by) × (get_elem? views k ≡ some u')). once j k n u u' a.1 b.1 t t')
        (at_set views by k w u' e'))
        (at_set views by j w u e)

    -- the same, where the old view had the ticket
    pub once_still : NoneTwice views → ((n : ℕ) → HasTicket w n → HasTicket v n) → NoneTwice (set views by w)
    once_still once had = once_after once (λ n t k u apart e t'. apart (once k by n u v e at t' (had n t)))

    pub owner_else : (n : ℕ) (o : HasOwner views n) → o.0 ≢ by → HasOwner (set views by w) n
    owner_else n o apart = (o.0, o.1, set_else views by o.0 w apart ∙ o.2, o.3)

    -- a ticket keeps an owner, where the new view has it if the old one had
    pub owner_after : (n : ℕ) → HasOwner views n → (HasTicket v n → HasTicket w n)
        → HasOwner (set views by w) n
    owner_after n o kept =
        dite
        (ℕ_discrete o.0 by)
        (λ same.
        let mine : HasTicket v n = subst (λ x. HasTicket x n) (one_view o.0 by o.1 v o.2 at same) o.3 in
        (by, w, here, kept mine))
        (λ apart. owner_else n o apart)

  module _ (w : View E) where
    -- a fact of each view stays where one is added that has it
    pub each_more : (P : View E → Type 0) → ((k : ℕ) (u : View E) → get_elem? views k ≡ some u → P u) → P w
        → (k : ℕ) (u : View E) → get_elem? (views ++ w ∷ []) k ≡ some u → P u
    each_more P others mine k u e =
        ⊎_elim
        (λ (was : get_elem? views k ≡ some u). others k u was)
        (λ (same : w ≡ u). subst P same mine)
        (at_snoc views w u k e)

    pub once_more : NoneTwice views → has_ticket w.stage ≡ false → NoneTwice (views ++ w ∷ [])
    once_more once none j k n u u' e e' t t' =
        ⊎_elim
        (λ (a : get_elem? views j ≡ some u).
        ⊎_elim
        (λ (b : get_elem? views k ≡ some u'). once j k n u u' a b t t')
        (λ (b : w ≡ u'). no t'.0 (ap (λ x. has_ticket x.stage) (sym b) ∙ none))
        (at_snoc views w u' k e'))
        (λ (a : w ≡ u). no t.0 (ap (λ x. has_ticket x.stage) (sym a) ∙ none))
        (at_snoc views w u j e)

    pub owner_more : (n : ℕ) → HasOwner views n → HasOwner (views ++ w ∷ []) n
    owner_more n o = (o.0, o.1, at_longer views (w ∷ []) o.0 o.1 o.2, o.3)
