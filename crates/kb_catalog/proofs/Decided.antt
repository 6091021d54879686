-- Some case of a rule list decides, since the last one has no condition.
use Rattle.std.proofs.Common.{◌≡◌, Bool, true, List, [], ◌∷◌, find, is_none, is_some, Option, Some, None}
use Rattle.std.proofs.Common.{refl}
use Rattle.std.proofs.lemmas.Bool.{and_parts, and_from, cond_both}
use Rattle.kb_catalog.specs.declared.rules.PlanCondition.{PlanCondition}
use Rattle.kb_catalog.specs.declared.ask.PlanAsk.{PlanAsk}
use Rattle.kb_catalog.specs.Cases.{Asks, asks_nothing, asks_nothing_to, is_open, ends_open}
use Rattle.kb_catalog.specs.Cases.{holds, holds_of, holds_to, fits}

-- a condition that isn't stated holds
holds-none : {A : Type 0} (same : A → A → Bool) (asked value : Option A) → is_none asked ≡ true
    → holds same asked value ≡ true
holds-none same None value none = refl
holds-none same (Some asked) value none = absurd (cc)

-- a plan condition that asks nothing holds
holds_of-nothing : (condition : PlanCondition) (ask : PlanAsk) → asks_nothing condition ≡ true
    → holds_of condition ask ≡ true
holds_of-nothing condition ask nothing =
    let three = and_parts _ _ nothing in
    let two = and_parts _ _ three.0 in
    let one = and_parts _ _ two.0 in
    and_from _ _ (and_from _ _ (and_from _ _ (holds-none _ condition.product _ one.0)
    (holds-none _ condition.category _ one.1))
    (holds-none _ condition.period _ two.1)) (holds-none _ condition.list _ three.1)

-- nothing asked of the plan asked for holds
holds_to-nothing : (condition : Option PlanCondition) (ask : PlanAsk) → asks_nothing_to condition ≡ true
    → holds_to condition ask ≡ true
holds_to-nothing None ask nothing = refl
holds_to-nothing (Some condition) ask nothing = holds_of-nothing condition ask nothing

-- a case without condition fits whatever is asked about
fits-open : (from to : PlanAsk) (asks : Asks) → is_open asks ≡ true → fits from to asks ≡ true
fits-open from to asks nothing =
    let two = and_parts _ _ nothing in
    let one = and_parts _ _ two.0 in
    and_from _ _ (and_from _ _ (holds_of-nothing asks.from from one.0) (holds-none _ asks.phase _ one.1))
    (holds_to-nothing asks.to to two.1)

-- a list that ends with a case without condition has a case that fits
pub find-open : {A : Type 0} (asks : A → Asks) (from to : PlanAsk) (cases : List A)
    → ends_open asks cases ≡ true
    → is_some (find (λ case. fits from to (asks case)) cases) ≡ true
find-open asks from to [] ends = ends
find-open asks from to (case ∷ []) ends =
    cond_both (fits from to (asks case)) (Some case) None (λ found. is_some found ≡ true) (λ _. refl)
    (λ no. let yes = fits-open from to (asks case) ends in absurd (cc))
find-open asks from to (case ∷ next ∷ later) ends =
    cond_both (fits from to (asks case)) (Some case)
    (find (λ other. fits from to (asks other)) (next ∷ later)) (λ found. is_some found ≡ true) (λ _. refl)
    (λ _. find-open asks from to (next ∷ later) ends)
