-- Where a lead keeps an add-on on each cut it keeps it on each day.
use Rattle.std.proofs.Common.{◌≡◌, ℕ, ◌+◌, ◌<◌, ◌≤◌, inl, inr, true, false, List, length, get_or, Some, None}
use Rattle.std.proofs.Common.{sym, ap, ◌∙◌, subst, arith}
use Rattle.std.specs.List.Sorted.{IsNonDecreasing}
use Rattle.std.proofs.lemmas.Bool.{cases_lt}
use Rattle.std.proofs.lemmas.List.{get_or_default}
use Rattle.kb_days.specs.Calendar.{first_day, last_charged}
use Rattle.kb_catalog.specs.declared.version.Version.{Version}
use Rattle.kb_timeline.specs.declared.subscription.Subscription.{Subscription}
use Rattle.kb_due.specs.Life.{is_kept_on}
use Rattle.kb_events.specs.Private.Cuts.{HasDay, HasEntryDays, HasLead}
use Rattle.kb_events.specs.Private.Ends.{IsFailureFrom}
use Rattle.kb_events.proofs.SteadyLife.{is_kept_on-steady}
use Rattle.kb_events.proofs.QuietCuts.{HasEntryDays-quiet, IfSome-quiet}
use Rattle.kb_events.proofs.LastCuts.{last_cut}

-- of the first cuts, so many, those from the start on are days on which the lead keeps the add-on
abbrev pub AreKept : List Version → Subscription → Subscription → ℕ → List ℕ → ℕ → Type 0
AreKept catalog lead addon start cuts count =
    (place : ℕ) → place < count → start ≤ get_or cuts place 0 → get_or cuts place 0 ≤ last_charged
    → is_kept_on catalog lead addon (get_or cuts place 0) ≡ true

-- and one more cut that is kept
pub AreKept-next : (catalog : List Version) (lead addon : Subscription) (start : ℕ) (cuts : List ℕ)
    (count : ℕ) → AreKept catalog lead addon start cuts count
    → (start ≤ get_or cuts count 0 → get_or cuts count 0 ≤ last_charged → is_kept_on catalog lead addon
    (get_or cuts count 0) ≡ true)
    → AreKept catalog lead addon start cuts (count + 1)
AreKept-next catalog lead addon start cuts count kept here place within after told =
    elim (cases_lt place count) [
      | inl earlier ↦ kept place earlier after told
      | inr behind ↦
          let same : place ≡ count = omega (arith, behind, within) in
          subst (λ (at : ℕ). start ≤ get_or cuts at 0 → get_or cuts at 0 ≤ last_charged → is_kept_on catalog
          lead addon (get_or cuts at 0) ≡ true) (sym same) here after told
    ]

module _ (catalog : List Version) (lead addon : Subscription) (start : ℕ) (cuts : List ℕ)
    (rising : IsNonDecreasing cuts) (named : first_day ≤ start)
    (begun : start ≤ last_charged) (started : HasDay cuts start) (led : HasLead cuts lead)
    (added : HasEntryDays cuts addon.entries) where
  -- then so are the days that follow them up to the next cut
  is_kept_on-kept : (count day : ℕ) → AreKept catalog lead addon start cuts count → start ≤ day
      → day ≤ last_charged
      → ((place : ℕ) → place < length cuts → get_or cuts place 0 ≤ day → place < count)
      → is_kept_on catalog lead addon day ≡ true
  is_kept_on-kept count day kept after told few =
      let found = last_cut cuts start day (started named begun) after in
      let last = found.0 in
      let among = found.1 in
      let place = among.0 in
      let at : get_or cuts place 0 ≡ last = get_or_default cuts place 0 last among.1 ∙ among.2 in
      let low : first_day ≤ last = omega (arith, named, found.2) in
      let high : day + 1 ≤ last_charged + 1 = omega (arith, told) in
      let steady = is_kept_on-steady catalog lead addon last day found.3
      (HasEntryDays-quiet cuts last (day + 1) found.4 low high lead.entries day (omega arith) led.0)
      (IfSome-quiet cuts last (day + 1) found.4 low high lead.cancel day (omega arith) led.1)
      (HasEntryDays-quiet cuts last (day + 1) found.4 low high addon.entries day (omega arith) added) in
      steady
      ∙ ap (is_kept_on catalog lead addon) (sym at)
      ∙ kept place (few place among.1 (omega (arith, at, found.3))) (omega (arith, at, found.2))
      (omega (arith, at, found.3, told))

  -- where all are kept no day fails
  pub IsFailureFrom-none : AreKept catalog lead addon start cuts (length cuts)
      → IsFailureFrom (is_kept_on catalog lead addon) start None
  IsFailureFrom-none kept =
      λ day after told. is_kept_on-kept (length cuts) day kept after told (λ place inside past. inside)

  -- where those before a cut are, which isn't kept itself, it is the first one that fails
  pub IsFailureFrom-cut : (count : ℕ) → AreKept catalog lead addon start cuts count → count < length cuts
      → start ≤ get_or cuts count 0 → get_or cuts count 0 ≤ last_charged
      → is_kept_on catalog lead addon (get_or cuts count 0) ≡ false
      → IsFailureFrom (is_kept_on catalog lead addon) start (Some (get_or cuts count 0))
  IsFailureFrom-cut count kept inside after told fails = record {
    begins = after;
    passes = λ day from before.
        is_kept_on-kept count day kept from (omega (arith, before, told))
        (λ place within past.
        elim (cases_lt place count) [
          | inl earlier ↦ earlier
          | inr behind ↦ let order =
              rising count place 0 behind within in absurd (omega (arith, order, past, before))
        ]);
    fails = fails;
  }
