-- Names of which none stands earlier are distinct, so the names of a valid version are.
use Rattle.std.proofs.Common.{◌≡◌, ℕ, ◌<◌, Bool, true, false, List, [], ◌∷◌, length, map, take, get_or}
use Rattle.std.proofs.Common.{slice_get, bytes_eq, Some, inl, inr, refl, sym, subst, ◌∙◌, arith}
use Rattle.std.specs.List.{IsDistinct, list_any}
use Rattle.std.proofs.lemmas.Bool.{cases_Bool, or_parts, true≢false}
use Rattle.std.proofs.lemmas.Option.{slice_get-get_or}
use Rattle.std.proofs.lemmas.List.{get_or-map, get_or-take, length-map, length-take-le}
use Rattle.std.proofs.lemmas.List.Folds.{list_any_at}
use Rattle.std.proofs.lemmas.Map.Keys.{IsDistinct-from_apart}
use Rattle.std.proofs.lemmas.Slice.Eq.{bytes_eq-Decides}
use Rattle.kb_base.specs.Offenders.{passes_at, repeats_at}
use Rattle.kb_catalog.specs.declared.version.Version.{Version}
use Rattle.kb_catalog.specs.declared.product.Product.{Product}
use Rattle.kb_catalog.specs.declared.plan.Plan.{Plan}
use Rattle.kb_catalog.specs.declared.price_list.PriceList.{PriceList}
use Rattle.kb_catalog.specs.declared.rule.Rule.TheVariants.{ProductNames, PlanNames, Lists}
use Rattle.kb_catalog.specs.VersionRules.{IsValid}
use Rattle.kb_catalog.specs.ValidVersions.{HasDistinctNames}
use Rattle.kb_catalog.proofs.RulesHold.{valid-nowhere_broken}

-- names are the same from either side
pub bytes_eq-flip : (a b : List ℕ) → bytes_eq a b ≡ true → bytes_eq b a ≡ true
bytes_eq-flip a b same = (bytes_eq-Decides b a).1 (sym ((bytes_eq-Decides a b).0 same))

-- and differ from either side
pub bytes_eq-apart : (a b : List ℕ) → bytes_eq a b ≡ false → bytes_eq b a ≡ false
bytes_eq-apart a b differ =
    elim (cases_Bool (bytes_eq b a)) [
      | inl same ↦ absurd (true≢false (sym (bytes_eq-flip b a same) ∙ differ))
      | inr other ↦ other
    ]

-- what a member that is there passes
pub passes_at-some : {A : Type 0} (members : List A) (place : ℕ) (test : A → Bool) (member : A)
    → slice_get members place ≡ Some member
    → passes_at members place test ≡ test member
passes_at-some members place test member at = rw at refl

module _ {A : Type 0} (name : A → List ℕ) where
  -- the name of a member doesn't stand earlier
  not_earlier : (members : List A) (first later : ℕ) (d : A) → first < later → later < length members
      → repeats_at (λ (a : A) (b : A). bytes_eq (name a) (name b)) members later ≡ false
      → bytes_eq (name (get_or members later d)) (name (get_or members first d)) ≡ false
  not_earlier members first later d before within fresh =
      let member = get_or members later d in
      let same : A → Bool = λ other. bytes_eq (name member) (name other) in
      let at = slice_get-get_or members later d within in
      let none : list_any same (take later members) ≡ false =
      sym (passes_at-some members later (λ (m : A). list_any (λ (other : A). bytes_eq (name m) (name other))
      (take later members)) member at) ∙ fresh in
      let long = length-take-le later members (omega arith) in
      let there : get_or (take later members) first d ≡ get_or members first d =
      get_or-take later members first d before in
      elim (cases_Bool (same (get_or (take later members) first d))) [
        | inl holds ↦ absurd (true≢false (sym (list_any_at same (take later members) first d
            (omega (arith, long)) holds) ∙ none))
        | inr fails ↦ subst (λ (m : A). same m ≡ false) there fails
      ]

  -- names of which none stands earlier are distinct
  IsDistinct-fresh : (members : List A)
      → ((place : ℕ) → place < length members → repeats_at (λ (a : A) (b : A). bytes_eq (name a) (name b))
      members place ≡ false)
      → IsDistinct bytes_eq (map name members)
  IsDistinct-fresh [] fresh = IsDistinct-from_apart bytes_eq []
      (λ first later d before within. absurd (omega arith))
  IsDistinct-fresh (member ∷ members) fresh = IsDistinct-from_apart bytes_eq (map name (member ∷ members))
      apart
    where
      apart : (first later : ℕ) (d : List ℕ) → first < later → later < length (map name (member ∷ members))
          → bytes_eq (get_or (map name (member ∷ members)) first d)
          (get_or (map name (member ∷ members)) later d) ≡ false
      apart first later d before within =
          let long = length-map (member ∷ members) name in
          let there : later < length (member ∷ members) = omega (arith, long) in
          let one = get_or-map name (member ∷ members) first member d (omega arith) in
          let other = get_or-map name (member ∷ members) later member d there in
          rw (one, other) (bytes_eq-apart (name (get_or (member ∷ members) later member))
          (name (get_or (member ∷ members) first member))
          (not_earlier (member ∷ members) first later member before there (fresh later there)))

-- the names of a valid version are distinct
pub HasDistinctNames-valid : (version : Version) → IsValid version → HasDistinctNames version
HasDistinctNames-valid version valid =
    record {
      products = IsDistinct-fresh (λ (product : Product). product.name) version.products
          (λ place within. valid-nowhere_broken version valid ProductNames place within);
      plans = IsDistinct-fresh (λ (plan : Plan). plan.name) version.plans
          (λ place within. valid-nowhere_broken version valid PlanNames place within);
      lists = IsDistinct-fresh (λ (list : PriceList). list.name) version.lists
          (λ place within. (or_parts _ _ (or_parts _ _
          (valid-nowhere_broken version valid Lists place (omega arith))).0).0);
    }
