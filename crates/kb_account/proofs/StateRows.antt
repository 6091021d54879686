-- How subscriptions stand, one by one.
use Rattle.std.proofs.Common.{◌≡◌, ℕ, zero, suc, ◌+◌, ◌<◌, ◌≤◌, List, [], ◌∷◌, ◌++◌, length, take, slice_get}
use Rattle.std.proofs.Common.{Option, Some, None, refl, sym, ap, ◌∙◌, arith, subst, All, IfSome, get_or}
use Rattle.std.proofs.Math.Seq.{take-suc}
use Rattle.std.proofs.lemmas.Option.{slice_get-get_or}
use Rattle.std.proofs.lemmas.List.Elements.{All-head, All-tail}
use Rattle.kb_timeline.specs.TimelineEdits.{TimelineValue, IsTimeline}
use Rattle.kb_timeline.specs.declared.subscription.Subscription.{Subscription}
use Rattle.kb_due.specs.Facts.{FactsValue}
use Rattle.kb_account.specs.declared.view.states.StateRow.{StateRow}
use Rattle.kb_account.specs.Sums.{state_row, states_from}

-- as many rows as subscriptions
pub states-length : (facts : FactsValue) (day first : ℕ) (subscriptions : List Subscription)
    → length (states_from facts day first subscriptions) ≡ length subscriptions
states-length facts day first [] = refl
states-length facts day first (subscription ∷ later) = ap suc (states-length facts day (first + 1) later)

-- the row of the subscription at a place
pub row-at : (facts : FactsValue) (day first place : ℕ) (subscriptions : List Subscription)
    (subscription : Subscription)
    → slice_get subscriptions place ≡ Some subscription
    → slice_get (states_from facts day first subscriptions) place
    ≡ Some (state_row facts day (first + place) subscription)
row-at facts day first place [] subscription is = absurd (cc)
row-at facts day first zero (one ∷ later) subscription is =
    let same : one ≡ subscription = cc in
    ap (λ (s : Subscription). Some (state_row facts day first s)) same
    ∙ ap (λ at. Some (state_row facts day at subscription)) (let e : first ≡ first + 0 = omega arith in e)
row-at facts day first (suc place) (one ∷ later) subscription is =
    row-at facts day (first + 1) place later subscription is
    ∙ ap (λ at. Some (state_row facts day at subscription))
    (let e : first + 1 + place ≡ first + suc place = omega arith in e)

-- the bundle of a subscription that is there is there
pub placed_bundle : (timeline : TimelineValue) (place : ℕ) (subscription : Subscription) → IsTimeline timeline
    → slice_get timeline.subscriptions place ≡ Some subscription
    → subscription.bundle < length timeline.bundles
placed_bundle timeline place subscription sound is =
    member-all (λ (one : Subscription). one.bundle < length timeline.bundles) timeline.subscriptions
    place subscription
    sound.placed is
  where
    member-all : (P : Subscription → Type 0) (members : List Subscription) (place : ℕ) (member : Subscription)
        → All P members
        → slice_get members place ≡ Some member → P member
    member-all P [] place member each here = absurd (cc)
    member-all P (one ∷ later) zero member each here =
        let same : one ≡ member = cc in subst P same (All-head P one later each)
    member-all P (one ∷ later) (suc place) member each here =
        member-all P later place member (All-tail P one later each) here

-- where there is no member, the list has ended
none_within : (members : List Subscription) (place : ℕ) → slice_get members place ≡ None
    → length members ≤ place
none_within [] place none = omega arith
none_within (one ∷ later) zero none = absurd (cc)
none_within (one ∷ later) (suc place) none = let rest = none_within later place none in omega arith

-- one row more
pub rows-more : (facts : FactsValue) (day place : ℕ) (subscriptions : List Subscription)
    (rows more : List StateRow)
    (row : StateRow) → place < length subscriptions → rows
    ≡ take place (states_from facts day 0 subscriptions)
    → IfSome (slice_get subscriptions place) (λ subscription. row ≡ state_row facts day place subscription)
    → more ≡ rows ++ row ∷ [] → more ≡ take (place + 1) (states_from facts day 0 subscriptions)
rows-more facts day place subscriptions rows more row low are is pushed =
    let all = states_from facts day 0 subscriptions in
    let there : place < length all = omega (arith, low, states-length facts day 0 subscriptions) in
    let here : get_or all place row ≡ row =
    by_member (slice_get subscriptions place) refl is (slice_get-get_or all place row there) in
    pushed ∙ ap (λ (front : List StateRow). front ++ row ∷ []) are
    ∙ ap (λ (last : StateRow). take place all ++ last ∷ []) (sym here)
    ∙ sym (take-suc all place row there)
    ∙ ap (λ n. take n all) (let e : suc place ≡ place + 1 = omega arith in e)
  where
    none_past : slice_get subscriptions place ≡ None → length subscriptions ≤ place
    none_past none = none_within subscriptions place none

    by_member : (found : Option Subscription) → slice_get subscriptions place ≡ found
        → IfSome found (λ subscription. row ≡ state_row facts day place subscription)
        → slice_get (states_from facts day 0 subscriptions) place
        ≡ Some (get_or (states_from facts day 0 subscriptions) place row)
        → get_or (states_from facts day 0 subscriptions) place row ≡ row
    by_member None none is got = absurd (omega (arith, low, none_past none))
    by_member (Some subscription) there is got =
        let told = row-at facts day 0 place subscriptions subscription there in
        let e : get_or (states_from facts day 0 subscriptions) place row
        ≡ state_row facts day (0 + place) subscription = cc in
        e ∙ ap (λ at. state_row facts day at subscription) (let z : 0 + place ≡ place = omega arith in z)
        ∙ sym is
