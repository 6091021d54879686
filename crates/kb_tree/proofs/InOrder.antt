-- What stretches in order have on a day: one value at most.
use Rattle.std.proofs.Common.{◌≡◌, ℕ, ◌<◌, ◌≤◌, ◌⊎◌, inl, inr, true, List, [], ◌∷◌, map}
use Rattle.std.proofs.Common.{option_to_list, slice_get, refl, ap, ◌∙◌, subst, arith}
use Rattle.std.proofs.lemmas.Bool.{cases_lt, and_from, and_left, and_right, le-leb, lt-ltb, lt-leb, le-ltb}
use Rattle.std.proofs.lemmas.Bool.{cond-true, cond-false}
use Rattle.kb_base.specs.Runs.{Stretch, has_day, values_on}
use Rattle.kb_days.specs.Calendar.{end_of_days}
use Rattle.kb_tree.specs.Covers.{AreInOrder}
use Rattle.kb_tree.specs.Private.Rests.{AreAhead, IsRest}

module _ {V : Type 0} where
  -- a stretch that has the day gives its value
  pub values_on-here : (d : ℕ) (first : Stretch V) (later : List (Stretch V)) → first.from ≤ d → d < first.to
      → values_on d (first ∷ later) ≡ first.value ∷ values_on d later
  values_on-here d first later begins ends =
      let has : has_day d first ≡ true = and_from _ _ (le-leb first.from d begins) (lt-ltb d first.to ends) in
      ap (map (λ stretch. stretch.value)) (cond-true (has_day d first) _ _ has)

  -- one that begins behind it gives nothing
  pub values_on-later : (d : ℕ) (first : Stretch V) (later : List (Stretch V)) → d < first.from
      → values_on d (first ∷ later) ≡ values_on d later
  values_on-later d first later before =
      ap (map (λ stretch. stretch.value))
      (cond-false (has_day d first) _ _ (and_left _ _ (lt-leb first.from d before)))

  -- and neither does one that ends by it
  pub values_on-past : (d : ℕ) (first : Stretch V) (later : List (Stretch V)) → first.to ≤ d
      → values_on d (first ∷ later) ≡ values_on d later
  values_on-past d first later after =
      ap (map (λ stretch. stretch.value))
      (cond-false (has_day d first) _ _ (and_right _ _ (le-ltb d first.to after)))

  -- stretches in order end by the end
  pub AreInOrder-ends : (from end : ℕ) (stretches : List (Stretch V)) → AreInOrder from end stretches
      → from ≤ end
  AreInOrder-ends from end [] order = order
  AreInOrder-ends from end (first ∷ later) order =
      let rest = AreInOrder-ends first.to end later order.2 in omega (arith, order.0, order.1)

  -- they have nothing before they begin
  pub AreInOrder-before : (from end d : ℕ) (stretches : List (Stretch V)) → d < from
      → AreInOrder from end stretches → values_on d stretches ≡ []
  AreInOrder-before from end d [] before order = refl
  AreInOrder-before from end d (first ∷ later) before order =
      values_on-later d first later (omega (arith, order.0))
      ∙ AreInOrder-before first.to end d later (omega (arith, order.0, order.1)) order.2

  -- and nothing from their end on
  pub AreInOrder-after : (from end d : ℕ) (stretches : List (Stretch V)) → end ≤ d
      → AreInOrder from end stretches → values_on d stretches ≡ []
  AreInOrder-after from end d [] after order = refl
  AreInOrder-after from end d (first ∷ later) after order =
      let ends = AreInOrder-ends first.to end later order.2 in
      values_on-past d first later (omega (arith, ends)) ∙ AreInOrder-after first.to end d later after order.2

  -- the first of what is left has its days alone
  pub ahead-here : (end d : ℕ) (first : Stretch V) (later : List (Stretch V)) → first.from ≤ d → d < first.to
      → AreInOrder first.to end later → values_on d (first ∷ later) ≡ first.value ∷ []
  ahead-here end d first later begins ends order =
      values_on-here d first later begins ends
      ∙ ap (λ more. first.value ∷ more) (AreInOrder-before first.to end d later ends order)

  -- before it there is nothing
  pub ahead-before : (end d : ℕ) (first : Stretch V) (later : List (Stretch V)) → d < first.from
      → first.from < first.to
      → AreInOrder first.to end later → values_on d (first ∷ later) ≡ []
  ahead-before end d first later before some order =
      values_on-later d first later before ∙ AreInOrder-before first.to end d later (omega arith) order

  -- stretches in order have one value on a day, or none
  pub AreInOrder-one : (from end d : ℕ) (stretches : List (Stretch V)) → AreInOrder from end stretches
      → values_on d stretches ≡ option_to_list (slice_get (values_on d stretches) 0)
  AreInOrder-one from end d [] order = refl
  AreInOrder-one from end d (first ∷ later) order =
      by_place (cases_lt d first.from) (cases_lt d first.to) (AreInOrder-one first.to end d later order.2)
    where
      by_place : (d < first.from) ⊎ (first.from ≤ d) → (d < first.to) ⊎ (first.to ≤ d)
          → values_on d later ≡ option_to_list (slice_get (values_on d later) 0)
          → values_on d (first ∷ later) ≡ option_to_list (slice_get (values_on d (first ∷ later)) 0)
      by_place (inl before) at_end rest =
          rw (ahead-before end d first later before order.1 order.2) refl
      by_place (inr from) (inl to) rest =
          rw (ahead-here end d first later from to order.2) refl
      by_place (inr from) (inr after) rest =
          rw (values_on-past d first later after) rest

  -- all stretches are what is left from a day on that lies before them
  pub IsRest-all : (from : ℕ) (stretches : List (Stretch V)) → AreInOrder from end_of_days stretches
      → IsRest stretches from stretches
  IsRest-all from [] order = record { ahead = tt; same = λ d low. refl }
  IsRest-all from (first ∷ later) order =
      record { ahead = (omega (arith, order.0, order.1), order.1, order.2); same = λ d low. refl }

module _ {T V : Type 0} (stretch : T → Stretch V) (items : List T) (first : T) (later : List T) (day : ℕ)
    (split : items ≡ first ∷ later) (ahead : AreAhead day end_of_days (map stretch items)) where
  -- what is left, by its first stretch and the rest
  ahead-parts : AreAhead day end_of_days (stretch first ∷ map stretch later)
  ahead-parts = subst (λ (items : List T). AreAhead day end_of_days (map stretch items)) split ahead

  -- the first stretch that is left ends behind the day
  pub first-ahead : day < (stretch first).to
  first-ahead = ahead-parts.0

  -- and by the end
  pub first-ends : (stretch first).to ≤ end_of_days
  first-ends = AreInOrder-ends (stretch first).to end_of_days (map stretch later) ahead-parts.2

  -- it begins before that
  pub first-begins : (stretch first).from ≤ end_of_days
  first-begins = omega (arith, first-ends, ahead-parts.1)

  -- on each of its days it has its value alone
  pub first-here : (d : ℕ) → (stretch first).from ≤ d → d < (stretch first).to
      → values_on d (map stretch items) ≡ (stretch first).value ∷ []
  first-here d begins ends =
      ap (λ (items : List T). values_on d (map stretch items)) split
      ∙ ahead-here end_of_days d (stretch first) (map stretch later) begins ends ahead-parts.2

  -- before it there is nothing
  pub first-later : (d : ℕ) → d < (stretch first).from → values_on d (map stretch items) ≡ []
  first-later d before =
      ap (λ (items : List T). values_on d (map stretch items)) split
      ∙ ahead-before end_of_days d (stretch first) (map stretch later) before ahead-parts.1 ahead-parts.2
