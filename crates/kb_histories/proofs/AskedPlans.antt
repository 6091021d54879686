-- A plan that is found in a catalog is one that the catalog has.
use Rattle.std.proofs.Common.{◌≡◌, ℕ, suc, ◌+◌, Bool, true, false, not, List, [], ◌∷◌, slice_get, Option}
use Rattle.std.proofs.Common.{Some, None, IsSome, is_some, bytes_eq, option_map, option_and_then, refl, sym}
use Rattle.std.proofs.Common.{subst, arith, true≢false}
use Rattle.std.specs.List.{position_from}
use Rattle.std.proofs.lemmas.Option.{none-some}
use Rattle.kb_days.specs.declared.period.Period.{Period}
use Rattle.kb_catalog.specs.declared.version.Version.{Version}
use Rattle.kb_catalog.specs.declared.plan.Plan.{Plan}
use Rattle.kb_catalog.specs.declared.price_list.PriceList.{PriceList}
use Rattle.kb_catalog.specs.Catalogs.{version_at}
use Rattle.kb_catalog.specs.LookUp.{names_sold, both_places, plan_at}
use Rattle.kb_catalog.specs.Plans.{is_asked}
use Rattle.kb_timeline.specs.declared.entry.PlanRef.{PlanRef}
use Rattle.kb_due.specs.Governing.{choice_in, choice_of}
use Rattle.kb_book.specs.declared.wish.Wish.{Wish}
use Rattle.kb_book.specs.Wishes.{plan_in, plan_asked}
use Rattle.kb_book.specs.SubscriptionCommands.{some_plan}

-- a place that a search finds has a member
position_from-there : {A : Type 0} (test : A → Bool) (start place : ℕ) (members : List A)
    → position_from test start members ≡ Some place
    → (offset : ℕ) × (place ≡ start + offset) × IsSome (slice_get members offset)
position_from-there test start place [] found = absurd (none-some place found)
position_from-there {A} test start place (member ∷ later) found =
    by_test (test member) refl (position_from-there test (start + 1) place later)
  where
    by_test : (passes : Bool) → test member ≡ passes
        → (position_from test (start + 1) later ≡ Some place
        → (offset : ℕ) × (place ≡ start + 1 + offset) × IsSome (slice_get later offset))
        → (offset : ℕ) × (place ≡ start + offset) × IsSome (slice_get (member ∷ later) offset)
    by_test true is rest =
        let here : start ≡ place = let there = rw is at found in cc in (0, omega (arith, here), refl)
    by_test false is rest =
        let behind = rest (rw is at found) in (suc behind.0, omega (arith, behind.1), behind.2)

found-there : {A : Type 0} (test : A → Bool) (place : ℕ) (members : List A)
    → position_from test 0 members ≡ Some place → IsSome (slice_get members place)
found-there {A} test place members found =
    let there = position_from-there test 0 place members found in
    let same : there.0 ≡ place = omega (arith, there.1) in
    subst (λ (one : ℕ). IsSome (slice_get members one)) same there.2

-- so have those of a list and of a plan that it sells
plan_at-there : (version : Version) (product : List ℕ) (period : Period) (list : List ℕ) (at : ℕ × ℕ)
    → plan_at version product period list ≡ Some at
    → IsSome (slice_get version.lists at.0) × IsSome (slice_get version.plans at.1)
plan_at-there version product period list at found =
    by_places (position_from of_name 0 version.lists) (position_from of_product 0 version.plans) refl refl
    found
  where
    of_name : PriceList → Bool
    of_name other = bytes_eq list other.name

    of_product : Plan → Bool
    of_product = is_asked product period (names_sold version.lists list)

    by_places : (lists plans : Option ℕ) → position_from of_name 0 version.lists ≡ lists
        → position_from of_product 0 version.plans ≡ plans → both_places lists plans ≡ Some at
        → IsSome (slice_get version.lists at.0) × IsSome (slice_get version.plans at.1)
    by_places None plans of_list of_plan is = absurd (cc)
    by_places (Some one) None of_list of_plan is = absurd (cc)
    by_places (Some one) (Some other) of_list of_plan is =
        let same : (one, other) ≡ at = cc in
        subst (λ (place : ℕ × ℕ). IsSome (slice_get version.lists place.0)
        × IsSome (slice_get version.plans place.1)) same (
          found-there of_name one version.lists of_list,
          found-there of_product other version.plans of_plan,
        )

-- a reference whose list and plan are there names them
choice_in-there : (place : PlanRef) (version : Version) → IsSome (slice_get version.lists place.list)
    → IsSome (slice_get version.plans place.plan) → IsSome (choice_in place version)
choice_in-there place version listed planned =
    by_both (slice_get version.lists place.list) (slice_get version.plans place.plan) refl refl listed planned
  where
    by_both : (list : Option PriceList) (plan : Option Plan) → slice_get version.lists place.list ≡ list
        → slice_get version.plans place.plan ≡ plan → IsSome list → IsSome plan
        → IsSome (choice_in place version)
    by_both None plan of_list of_plan some other = absurd (true≢false (sym some))
    by_both (Some list) None of_list of_plan some other = absurd (true≢false (sym other))
    by_both (Some list) (Some plan) of_list of_plan some other = rw (of_list, of_plan) refl

-- the places of a list and a plan in the version of a number, as a reference
abbrev in_version : ℕ → ℕ × ℕ → PlanRef
in_version number at = record { version = number; list = at.0; plan = at.1 }

-- what is found in that version the catalog has
in_version-held : (versions : List Version) (wish : Wish) (number : ℕ) (place : PlanRef)
    → option_map (in_version number) (option_and_then (plan_in wish) (slice_get versions number)) ≡ Some place
    → IsSome (choice_of versions place)
in_version-held versions wish number place asked = by_version (slice_get versions number) refl asked
  where
    by_plan : (version : Version) → slice_get versions number ≡ Some version → (found : Option (ℕ × ℕ))
        → plan_in wish version ≡ found → option_map (in_version number) found ≡ Some place
        → IsSome (choice_of versions place)
    by_plan version there None is none = absurd (none-some place none)
    by_plan version there (Some at) is some =
        let same : in_version number at ≡ place = cc in
        let has = plan_at-there version wish.product wish.period wish.list at is in
        rw (← same, there) (choice_in-there (in_version number at) version has.0 has.1)

    by_version : (found : Option Version) → slice_get versions number ≡ found
        → option_map (in_version number) (option_and_then (plan_in wish) found) ≡ Some place
        → IsSome (choice_of versions place)
    by_version None there none = absurd (none-some place none)
    by_version (Some version) there some = by_plan version there (plan_in wish version) refl some

-- what is found in the version of a day too
plan_asked-held : (versions : List Version) (day : ℕ) (wish : Wish) (place : PlanRef)
    → plan_asked versions day wish ≡ Some place → IsSome (choice_of versions place)
plan_asked-held versions day wish place asked = by_number (version_at versions day) refl
  where
    by_number : (found : Option ℕ) → version_at versions day ≡ found → IsSome (choice_of versions place)
    by_number None is = let none : None ≡ Some place = rw is at asked in absurd (none-some place none)
    by_number (Some number) is = in_version-held versions wish number place (rw is at asked)

-- so it has the plan that is asked for, if it sells one
pub some_plan-held : (versions : List Version) (day : ℕ) (wish : Wish)
    → not (is_some (plan_asked versions day wish)) ≡ false
    → IsSome (choice_of versions (some_plan (plan_asked versions day wish)))
some_plan-held versions day wish sold = by_plan (plan_asked versions day wish) refl
  where
    by_plan : (found : Option PlanRef) → plan_asked versions day wish ≡ found
        → IsSome (choice_of versions (some_plan (plan_asked versions day wish)))
    by_plan None is = let none : not false ≡ false = rw is at sold in absurd (true≢false none)
    by_plan (Some place) is = rw is (plan_asked-held versions day wish place is)
