-- The plan that is found for a product, a billing period and a price list of a valid version is the only one.
use Rattle.std.proofs.Common.{◌≡◌, ℕ, suc, ◌+◌, ◌<◌, ◌≤◌, ◌&&◌, ◌||◌, Bool, true, false, List, [], ◌∷◌}
use Rattle.std.proofs.Common.{length, map, slice_get, bytes_eq, Option, Some, None, option_map, inl, inr}
use Rattle.std.proofs.Common.{refl, sym, ap, subst, ◌∙◌, arith}
use Rattle.std.specs.List.{list_any, position_from}
use Rattle.std.proofs.lemmas.Bool.{cases_Bool, cases_lt, or_parts, and_parts, and_from, true≢false}
use Rattle.std.proofs.lemmas.Option.{slice_get_within, get_or_from_slice_get}
use Rattle.std.proofs.lemmas.List.{get_or-map, length-map}
use Rattle.std.proofs.lemmas.Map.Keys.{apart_from_distinct, any_passes_from_place}
use Rattle.std.proofs.lemmas.Slice.Eq.{bytes_eq-Decides}
use Rattle.kb_base.specs.Offenders.{passes_at}
use Rattle.kb_days.specs.declared.period.Period.{Period}
use Rattle.kb_days.specs.Periods.{period_word}
use Rattle.kb_catalog.specs.declared.version.Version.{Version}
use Rattle.kb_catalog.specs.declared.plan.Plan.{Plan}
use Rattle.kb_catalog.specs.declared.price_list.PriceList.{PriceList}
use Rattle.kb_catalog.specs.declared.rule.Rule.TheVariants.{Lists}
use Rattle.kb_catalog.specs.Products.{has_name}
use Rattle.kb_catalog.specs.Plans.{plan_period, agree, is_asked}
use Rattle.kb_catalog.specs.VersionLists.{agrees_with_one, has_agreeing, sells_wrongly}
use Rattle.kb_catalog.specs.LookUp.{names_sold, both_places, plan_at}
use Rattle.kb_catalog.specs.VersionRules.{IsValid}
use Rattle.kb_catalog.specs.ValidVersions.{IsSold, IsOnlyPlan}
use Rattle.kb_catalog.proofs.RulesHold.{valid-nowhere_broken}
use Rattle.kb_catalog.proofs.DistinctNames.{HasDistinctNames-valid, bytes_eq-flip}

-- names that are the same as a third one are the same
bytes_eq-both : (name a b : List ℕ) → bytes_eq name a ≡ true → bytes_eq name b ≡ true → bytes_eq a b ≡ true
bytes_eq-both name a b one other =
    (bytes_eq-Decides a b).1 (sym ((bytes_eq-Decides name a).0 one) ∙ (bytes_eq-Decides name b).0 other)

-- the second of two, where the first is none
or_second : (a b : Bool) → (a || b) ≡ true → a ≡ false → b ≡ true
or_second true b either first = absurd (cc)
or_second false b either first = either

-- the member that a search finds
position_from-found : {A : Type 0} (test : A → Bool) (start : ℕ) (members : List A) (found : ℕ)
    → position_from test start members ≡ Some found
    → (offset : ℕ) × (member : A) × (found ≡ start + offset) × (slice_get members offset ≡ Some member)
    × (test member ≡ true)
position_from-found test start [] found is = absurd (cc)
position_from-found {A} test start (member ∷ later) found is =
    elim (cases_Bool (test member)) [
      | inl holds ↦
          let here : Some start ≡ Some found = rw holds at is in
          let same : start ≡ found = cc in
          (0, member, omega (arith, same), refl, holds)
      | inr fails ↦
          let after : position_from test (start + 1) later ≡ Some found = rw fails at is in
          let rest = position_from-found test (start + 1) later found after in
          (suc rest.0, rest.1, omega (arith, rest.2), rest.3, rest.4)
    ]

-- a pair of places has both
both_places-parts : (lists plans : Option ℕ) (list plan : ℕ) → both_places lists plans ≡ Some (list, plan)
    → plans ≡ Some plan
both_places-parts None plans list plan is = absurd (cc)
both_places-parts (Some one) None list plan is = absurd (cc)
both_places-parts (Some one) (Some other) list plan is =
    ap (λ (found : Option (ℕ × ℕ)). option_map (λ (pair : ℕ × ℕ). pair.1) found) is

-- two places of which neither is the earlier one
same-place : (place other : ℕ) → other ≤ place → place ≤ other → other ≡ place
same-place place other one two = omega arith

-- two plans that are asked for alike agree
agree-asked : (product : List ℕ) (period : Period) (names : List (List ℕ)) (plan other : Plan)
    → is_asked product period names plan ≡ true → is_asked product period names other ≡ true
    → agree plan other ≡ true
agree-asked product period names plan other one two =
    let first = and_parts _ _ (and_parts _ _ one).0 in
    let second = and_parts _ _ (and_parts _ _ two).0 in
    and_from _ _ (bytes_eq-both product plan.product other.product first.0 second.0)
    (bytes_eq-both (period_word period) (period_word (plan_period plan)) (period_word (plan_period other))
    first.1 second.1)

module _ (version : Version) where
  -- a plan of the first name agrees with one of the later names
  finds-agreeing : (name : List ℕ) (later : List (List ℕ)) (plan other : Plan) (place beside : ℕ)
      → slice_get version.plans place ≡ Some plan → slice_get version.plans beside ≡ Some other
      → bytes_eq name plan.name ≡ true → has_name later other.name ≡ true → agree plan other ≡ true
      → list_any (λ (p : Plan). bytes_eq name p.name && agrees_with_one version p later) version.plans ≡ true
  finds-agreeing name later plan other place beside at next named among alike =
      let found : agrees_with_one version plan later ≡ true =
      any_passes_from_place (λ (o : Plan). agree plan o && has_name later o.name) version.plans beside other
      next (and_from _ _ alike among) in
      any_passes_from_place (λ (p : Plan). bytes_eq name p.name && agrees_with_one version p later)
      version.plans place plan at
      (and_from _ _ named found)

  -- of names that no two plans share that agree, two plans of unlike names don't agree
  no-two : (names : List (List ℕ)) → has_agreeing version names ≡ false
      → (plan other : Plan) (place beside : ℕ)
      → slice_get version.plans place ≡ Some plan → slice_get version.plans beside ≡ Some other
      → has_name names plan.name ≡ true → has_name names other.name ≡ true
      → agree plan other ≡ true → agree other plan ≡ true → bytes_eq plan.name other.name ≡ false → ⊥
  no-two [] none plan other place beside at next one two alike back differ = cc
  no-two (name ∷ later) none plan other place beside at next one two alike back differ =
      let parts = or_parts _ _ none in
      elim (cases_Bool (bytes_eq plan.name name)) [
        | inl first ↦
            elim (cases_Bool (bytes_eq other.name name)) [
              | inl second ↦
                  let same =
                  bytes_eq-both name plan.name other.name (bytes_eq-flip plan.name name first)
                  (bytes_eq-flip other.name name second) in
                  true≢false (sym same ∙ differ)
              | inr second ↦
                  let found =
                  finds-agreeing name later plan other place beside at next
                  (bytes_eq-flip plan.name name first) (or_second _ _ two second) alike in
                  true≢false (sym found ∙ parts.0)
            ]
        | inr first ↦
            elim (cases_Bool (bytes_eq other.name name)) [
              | inl second ↦
                  let found =
                  finds-agreeing name later other plan beside place
                  next at (bytes_eq-flip other.name name second) (or_second _ _ one first) back in
                  true≢false (sym found ∙ parts.0)
              | inr second ↦
                  no-two later parts.1 plan other place beside at next (or_second _ _ one first)
                  (or_second _ _ two second) alike back differ
            ]
      ]

  -- the names that a list sells have no two plans that agree
  names_sold-apart : (lists : List PriceList) (name : List ℕ)
      → ((place : ℕ) → place < length lists → passes_at lists place (sells_wrongly version) ≡ false)
      → has_agreeing version (names_sold lists name) ≡ false
  names_sold-apart [] name right = refl
  names_sold-apart (list ∷ later) name right =
      elim (cases_Bool (bytes_eq name list.name)) [
        | inl holds ↦ let here = (or_parts _ _ (right 0 (omega arith))).1 in rw holds here
        | inr fails ↦
            let after =
            names_sold-apart later name (λ (place : ℕ) (within : place < length later). right (suc place)
            (omega arith)) in
            rw fails after
      ]

  -- two places of plans whose names are the same are one
  one-place : IsValid version → (place other : ℕ) (plan another : Plan)
      → slice_get version.plans place ≡ Some plan
      → slice_get version.plans other ≡ Some another → place < other → bytes_eq plan.name another.name ≡ false
  one-place valid place other plan another at next before =
      let name : Plan → List ℕ = λ (p : Plan). p.name in
      let distinct = (HasDistinctNames-valid version valid).plans in
      let within = slice_get_within version.plans other another next in
      let first = get_or_from_slice_get version.plans place plan plan at in
      let second = get_or_from_slice_get version.plans other another plan next in
      let long = length-map version.plans name in
      let apart = apart_from_distinct bytes_eq (map name version.plans) place other plan.name distinct before
      (omega (arith, long, within)) in
      let left = get_or-map name version.plans place plan plan.name (omega (arith, within)) ∙ ap name first in
      let right = get_or-map name version.plans other plan plan.name within ∙ ap name second in
      rw (left, right) at apart

  -- the plan that is found is sold so, and no other one
  pub IsOnlyPlan-plan_at : IsValid version → (product : List ℕ) (period : Period) (list : List ℕ)
      (found : ℕ × ℕ)
      → plan_at version product period list ≡ Some found → IsOnlyPlan version product period list found.1
  IsOnlyPlan-plan_at valid product period list found is =
      let names = names_sold version.lists list in
      let place = both_places-parts _ _ found.0 found.1 is in
      let member = position_from-found (is_asked product period names) 0 version.plans found.1 place in
      let same : member.0 ≡ found.1 = omega (arith, member.2) in
      let here : slice_get version.plans found.1 ≡ Some member.1 =
      subst (λ (p : ℕ). slice_get version.plans p ≡ Some member.1) same member.3 in
      let apart = names_sold-apart version.lists list (λ (p : ℕ) (within : p < length version.lists).
      (or_parts _ _ (or_parts _ _ (valid-nowhere_broken version valid Lists p (omega arith))).0).1) in
      let only : (other : ℕ) (another : Plan) → slice_get version.plans other ≡ Some another
      → IsSold version product period list another → other ≡ found.1 =
      λ other another next sold.
      let alike = agree-asked product period names member.1 another member.4 sold in
      let back = agree-asked product period names another member.1 sold member.4 in
      let one = (and_parts _ _ member.4).1 in
      let two = (and_parts _ _ sold).1 in
      elim (cases_lt found.1 other) [
        | inl before ↦ absurd (no-two names apart member.1 another found.1 other here next one two alike back
            (one-place valid found.1 other member.1 another here next before))
        | inr after ↦
            elim (cases_lt other found.1) [
              | inl before ↦ absurd (no-two names apart another member.1 other found.1 next here two one back
                  alike
                  (one-place valid other found.1 another member.1 next here before))
              | inr before ↦ same-place found.1 other after before
            ]
      ] in
      record { plan = member.1; here = here; sold = member.4; only = only }
