-- An add-on is kept up to the first day on which its lead doesn't keep it, and on no day from then on.
use Rattle.std.proofs.Common.{◌≡◌, ℕ, zero, suc, ◌+◌, ◌-◌, ◌<◌, ◌≤◌, ◌⊎◌, inl, inr, Bool, true, false, not}
use Rattle.std.proofs.Common.{◌&&◌, ◌||◌, true≢false, List, [], ◌∷◌, get_or, slice_get, nat_lt, Option, Some}
use Rattle.std.proofs.Common.{None, IfSome, refl, sym, ap, subst, ◌∙◌, arith}
use Rattle.std.specs.List.{list_all, range_with_len}
use Rattle.std.proofs.lemmas.Bool.{cases_lt, leb-true, lt-ltb, le-ltb}
use Rattle.std.proofs.lemmas.List.Folds.{list_all_at}
use Rattle.std.proofs.lemmas.List.FromFn.{length-range_with_len, get_or-range_with_len}
use Rattle.kb_days.specs.Calendar.{last_charged}
use Rattle.kb_catalog.specs.declared.version.Version.{Version}
use Rattle.kb_timeline.specs.declared.entry.Entry.{Entry}
use Rattle.kb_timeline.specs.declared.subscription.Subscription.{Subscription}
use Rattle.kb_due.specs.Facts.{FactsValue}
use Rattle.kb_due.specs.Life.{has_started, is_cancelled, is_running, is_kept_on, is_kept, is_kept_by}
use Rattle.kb_due.specs.Life.{lead_subscription, is_live_of}
use Rattle.kb_due.proofs.KeptDays.{days_from_start-first}
use Rattle.kb_events.specs.Private.Ends.{IsFirstFailure, IsFailureFrom, is_kept_by_on, IsLifeEnd, is_before}

-- days of which each one passes all pass
list_all-passes : (test : ℕ → Bool) (from count : ℕ)
    → ((day : ℕ) → from ≤ day → day < from + count → test day ≡ true)
    → list_all test (range_with_len from count) ≡ true
list_all-passes test from zero passes = refl
list_all-passes test from (suc count) passes =
    let here : test from ≡ true = passes from (omega arith) (omega arith) in
    let rest : list_all test (range_with_len (from + 1) count)
    ≡ true = list_all-passes test (from + 1) count (λ day low high. passes day (omega arith)
    (omega arith)) in
    rw here rest

-- days of which one fails don't
list_all-failing : (test : ℕ → Bool) (from count day : ℕ) → from ≤ day → day < from + count → test day ≡ false
    → list_all test (range_with_len from count) ≡ false
list_all-failing test from count day low high fails =
    let place : from + (day - from) ≡ day = omega arith in
    let at : get_or (range_with_len from count) (day - from) 0
    ≡ day = get_or-range_with_len from count (day - from) 0 (omega arith) ∙ place in
    list_all_at test (range_with_len from count) (day - from) 0
    (omega (arith, length-range_with_len from count)) (ap test at ∙ fails)

-- where each day from the start up to, but not including, another keeps an add-on, it is kept until each day
-- before that
pub is_kept-before : (catalog : List Version) (lead addon : Subscription) (start : Entry) (until day : ℕ)
    → slice_get addon.entries 0 ≡ Some start
    → ((on : ℕ) → start.day ≤ on → on < until → is_kept_on catalog lead addon on ≡ true) → day < until
    → is_kept catalog lead addon day ≡ true
unfolding is_kept
is_kept-before catalog lead addon start until day first keeps before =
    ap (list_all (is_kept_on catalog lead addon)) (days_from_start-first addon.entries start day first)
    ∙ list_all-passes (is_kept_on catalog lead addon) start.day (day + 1 - start.day)
    (λ on low high. keeps on low (omega arith))

-- where a day from the start on doesn't keep an add-on, it isn't kept until that day or a later one
pub is_kept-behind : (catalog : List Version) (lead addon : Subscription) (start : Entry) (until day : ℕ)
    → slice_get addon.entries 0 ≡ Some start
    → start.day ≤ until → is_kept_on catalog lead addon until ≡ false → until ≤ day
    → is_kept catalog lead addon day ≡ false
unfolding is_kept
is_kept-behind catalog lead addon start until day first begins fails behind =
    ap (list_all (is_kept_on catalog lead addon)) (days_from_start-first addon.entries start day first)
    ∙ list_all-failing (is_kept_on catalog lead addon) start.day (day + 1 - start.day) until begins
    (omega arith) fails

-- an add-on is kept until the days before the first one that doesn't keep it
pub is_kept-until : (catalog : List Version) (lead addon : Subscription) (start : Entry) (until day : ℕ)
    → slice_get addon.entries 0 ≡ Some start
    → IsFirstFailure (is_kept_on catalog lead addon) start.day until
    → is_kept catalog lead addon day ≡ nat_lt day until
is_kept-until catalog lead addon start until day first is = by_place (cases_lt day until)
  where
    by_place : (day < until) ⊎ (until ≤ day) → is_kept catalog lead addon day ≡ nat_lt day until
    by_place (inl before) = is_kept-before catalog lead addon start until day first is.passes before
        ∙ sym (lt-ltb day until before)
    by_place (inr behind) = is_kept-behind catalog lead addon start until day first is.begins is.fails behind
        ∙ sym (le-ltb day until behind)

-- where there is no lead, the first day that doesn't keep the add-on is its start
nat_lt-no_lead : (from until day : ℕ) → IsFirstFailure (λ (on : ℕ). false) from until → from ≤ day
    → false ≡ nat_lt day until
nat_lt-no_lead from until day is begun = by_place (cases_lt day until)
  where
    by_place : (day < until) ⊎ (until ≤ day) → false ≡ nat_lt day until
    by_place (inl before) = is.passes day begun before ∙ sym (lt-ltb day until before)
    by_place (inr behind) = sym (le-ltb day until behind)

-- whether there is a lead or not, an add-on is kept from its start on up to that day
is_kept_by-until : (catalog : List Version) (lead : Option Subscription) (addon : Subscription)
    (start : Entry) (end : Option ℕ) (day : ℕ)
    → slice_get addon.entries 0 ≡ Some start → start.day ≤ day → day ≤ last_charged
    → IsFailureFrom (is_kept_by_on catalog lead addon) start.day end
    → is_kept_by catalog lead addon day ≡ is_before end day
is_kept_by-until catalog None addon start None day first begun told is = is day begun told
is_kept_by-until catalog None addon start (Some end) day first begun told is =
    nat_lt-no_lead start.day end day is begun
is_kept_by-until catalog (Some lead) addon start None day first begun told is =
    is_kept-before catalog lead addon start (day + 1) day first
    (λ on low high. is on low (omega (arith, high, told))) (omega arith)
is_kept_by-until catalog (Some lead) addon start (Some end) day first begun told is =
    is_kept-until catalog lead addon start end day first is

-- what has started by a day has a start on or before it
slice_get-started : (entries : List Entry) (day : ℕ) → has_started entries day ≡ true
    → (start : Entry) × (slice_get entries 0 ≡ Some start) × (start.day ≤ day)
slice_get-started [] day is = absurd (true≢false (sym is))
slice_get-started (start ∷ changes) day is = (start, refl, leb-true start.day day is)

-- where two tests pass, the first one does
first-both : (one other : Bool) → (one && other) ≡ true → one ≡ true
first-both true other both = refl
first-both false other both = both

-- what runs is kept exactly before its end
is_kept_by-running : (facts : FactsValue) (subscription : Subscription) (end : Option ℕ) (day : ℕ)
    → day ≤ last_charged → is_running subscription day ≡ true
    → IsLifeEnd facts subscription end
    → is_kept_by facts.catalog (lead_subscription facts subscription) subscription day ≡ is_before end day
is_kept_by-running facts subscription end day told runs ends =
    let started : has_started subscription.entries day ≡ true =
    first-both (has_started subscription.entries day) (not (is_cancelled subscription.cancel day)) runs in
    let first = slice_get-started subscription.entries day started in
    let lead = lead_subscription facts subscription in
    let from = subst (λ (found : Option Entry). IfSome found
    (λ (start : Entry). IsFailureFrom (is_kept_by_on facts.catalog lead subscription) start.day end))
    first.1 ends in
    is_kept_by-until facts.catalog lead subscription first.0 end day first.1 first.2 told from

-- two tests that agree where a third one passes agree together with it
and-agree : (here one other : Bool) → (here ≡ true → one ≡ other) → (here && one) ≡ (here && other)
and-agree true one other agree = agree refl
and-agree false one other agree = refl

-- and as what is asked only where it passes
or-agree : (here one other : Bool) → (here ≡ true → one ≡ other) → (not here || one) ≡ (not here || other)
or-agree true one other agree = agree refl
or-agree false one other agree = refl

-- a subscription is live on the days on which it runs, as an add-on on those before its end
pub is_live_of-until : (facts : FactsValue) (subscription : Subscription) (end : Option ℕ) (day : ℕ)
    → day ≤ last_charged
    → (subscription.addon ≡ true → IsLifeEnd facts subscription end)
    → is_live_of facts subscription day ≡ (is_running subscription day
    && (not subscription.addon || is_before end day))
is_live_of-until facts subscription end day told ends =
    let kept : Bool = is_kept_by facts.catalog (lead_subscription facts subscription) subscription day in
    and-agree (is_running subscription day) (not subscription.addon || kept)
    (not subscription.addon || is_before end day)
    (λ runs. or-agree subscription.addon kept (is_before end day)
    (λ is. is_kept_by-running facts subscription end day told runs (ends is)))
