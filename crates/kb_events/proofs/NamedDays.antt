-- No entry is dated before the days that commands name, so nothing is due there.
use Rattle.std.proofs.Common.{◌≡◌, ℕ, ◌<◌, ◌≤◌, ◌⊎◌, inl, inr, false, List, [], ◌∷◌, length, get_or, filter}
use Rattle.std.proofs.Common.{nat_le, ◌&&◌, None, option_and_then, All, refl, ap, arith}
use Rattle.std.specs.List.{last_or}
use Rattle.std.proofs.lemmas.Bool.{cases_lt, cond_both, lt-leb}
use Rattle.std.proofs.lemmas.List.Elements.{All-head, All-tail}
use Rattle.kb_days.specs.Calendar.{first_day, last_charged}
use Rattle.kb_catalog.specs.declared.version.Version.{Version}
use Rattle.kb_timeline.specs.declared.entry.Entry.{Entry}
use Rattle.kb_timeline.specs.declared.subscription.Subscription.{Subscription}
use Rattle.kb_timeline.specs.EntryDays.{IsEntries, entry_on}
use Rattle.kb_due.specs.Facts.{FactsValue}
use Rattle.kb_due.specs.DueDays.{due_of, fee_by, fee_of}
use Rattle.kb_due.specs.Governing.{governing_on}
use Rattle.kb_due.specs.Life.{is_live_of}

-- where the start isn't, no entry is
pub All-named : (entries : List Entry) (start : ℕ) → IsEntries entries → first_day ≤ start
    → ((place : ℕ) (d : Entry) → place < length entries → (get_or entries 0 d).day ≡ start)
    → All (λ (entry : Entry). first_day ≤ entry.day) entries
All-named entries start is named first = λ k d inside. by_place k d inside (cases_lt 0 k)
  where
    by_place : (k : ℕ) (d : Entry) → k < length entries → (0 < k) ⊎ (k ≤ 0)
        → first_day ≤ (get_or entries k d).day
    by_place k d inside (inl later) =
        let order = is.begun 0 k d later inside in
        omega (arith, order, first k d inside, named)
    by_place k d inside (inr at) =
        let same : k ≡ 0 = omega (arith, at) in
        omega (arith, ap (λ (place : ℕ). (get_or entries place d).day) same, first k d inside, named)

-- before all entries none has begun
filter-early : (entries : List Entry) (day : ℕ) → day < first_day
    → All (λ (entry : Entry). first_day ≤ entry.day) entries
    → filter (λ (entry : Entry). nat_le entry.day day) entries ≡ []
filter-early [] day early named = refl
filter-early (start ∷ changes) day early named =
    let here = All-head (λ (entry : Entry). first_day ≤ entry.day) start changes named in
    let late : nat_le start.day day ≡ false = lt-leb start.day day (omega (arith, here, early)) in
    rw late (filter-early changes day early (All-tail (λ (entry : Entry). first_day ≤ entry.day) start changes
    named))

-- so nothing governs
governing_on-early : (catalog : List Version) (entries : List Entry) (day : ℕ) → day < first_day
    → All (λ (entry : Entry). first_day ≤ entry.day) entries → governing_on catalog entries day ≡ None
governing_on-early catalog entries day early named =
    let none : entry_on entries day ≡ None = ap (last_or None) (filter-early entries day early named) in
    rw none refl

-- and nothing is due
pub due_of-early : (facts : FactsValue) (subscription : Subscription) (sub billed day : ℕ) → day < first_day
    → All (λ (entry : Entry). first_day ≤ entry.day) subscription.entries
    → due_of facts subscription sub billed day ≡ None
due_of-early facts subscription sub billed day early named =
    rw (governing_on-early facts.catalog subscription.entries day early named) refl

-- or charged once
pub fee_of-early : (facts : FactsValue) (subscription : Subscription) (billed day : ℕ) → day < first_day
    → All (λ (entry : Entry). first_day ≤ entry.day) subscription.entries
    → fee_of facts subscription billed day ≡ None
fee_of-early facts subscription billed day early named =
    cond_both (nat_le day last_charged && is_live_of facts subscription day && nat_le day billed)
    (option_and_then (fee_by facts day) (governing_on facts.catalog subscription.entries day)) None
    (λ found. found ≡ None)
    (λ _. rw (governing_on-early facts.catalog subscription.entries day early named) refl) (λ _. refl)
