-- Places are the same or apart.
use Rattle.std.proofs.Common.{◌≡◌, ℕ, Bool, true, false, T, List, refl, ap, sym, subst, ◌∙◌}
use Rattle.std.proofs.lemmas.Bool.{and_parts, eqb-true, eq-eqb}
use Rattle.std.proofs.lemmas.Slice.Eq.{bytes_eq-Decides}
use Rattle.kb_disk.specs.Places.{is_place}

false_is_not_true : false ≡ true → ⊥
false_is_not_true e = subst T (sym e) tt

is_false : (test : Bool) → (test ≡ true → ⊥) → test ≡ false
is_false true never = absurd (never refl)
is_false false never = refl

module _ (folder : List ℕ) (lane : ℕ) where
  -- a place is one folder and one lane
  pub one_place : (other_folder : List ℕ) (other : ℕ) → is_place folder lane other_folder other ≡ true
      → (folder ≡ other_folder) × (lane ≡ other)
  one_place other_folder other is =
      let parts = and_parts _ _ is in
      ((bytes_eq-Decides folder other_folder).0 parts.0, eqb-true lane other parts.1)

  pub own_place : is_place folder lane folder lane ≡ true
  own_place = rw ((bytes_eq-Decides folder folder).1 refl) (eq-eqb lane lane refl)

  -- whoever is at a place is where that is
  pub same_place : (other_folder : List ℕ) (other : ℕ) (this_folder : List ℕ) (this : ℕ)
      → is_place folder lane other_folder other ≡ true
      → is_place folder lane this_folder this ≡ is_place other_folder other this_folder this
  same_place other_folder other this_folder this is =
      let at = one_place other_folder other is in
      ap (λ (f : List ℕ). is_place f lane this_folder this) at.0
      ∙ ap (λ (l : ℕ). is_place other_folder l this_folder this) at.1

-- whoever isn't at a place is at no place that is the same
pub apart : (folder : List ℕ) (lane : ℕ) (other_folder : List ℕ) (other : ℕ) (this_folder : List ℕ)
    (this : ℕ) → is_place folder lane other_folder other ≡ false
    → is_place folder lane this_folder this ≡ true → is_place other_folder other this_folder this ≡ false
apart folder lane other_folder other this_folder this not_there here =
    is_false (is_place other_folder other this_folder this)
    (λ same.
    let at = one_place folder lane this_folder this here in
    let with = one_place other_folder other this_folder this same in
    false_is_not_true (sym not_there
    ∙ subst (λ (f : List ℕ). is_place f lane other_folder other ≡ true) (with.0 ∙ sym at.0)
    (subst (λ (l : ℕ). is_place other_folder l other_folder other ≡ true) (with.1 ∙ sym at.1)
    (own_place other_folder other))))
