-- Between two events of a subscription the last one stays.
use Rattle.std.proofs.Common.{◌≡◌, ℕ, zero, suc, ◌<◌, ◌≤◌, Bool, true, false, inl, inr, true≢false, sym, ap}
use Rattle.std.proofs.Common.{◌∙◌, arith}
use Rattle.std.proofs.lemmas.Bool.{cases_lt, cond_both}
use Rattle.kb_align.specs.PeriodDays.{last_day_on}
use Rattle.kb_align.proofs.Searches.{last_day_on-back}
use Rattle.kb_timeline.specs.declared.subscription.Subscription.{Subscription}
use Rattle.kb_due.specs.Facts.{FactsValue}
use Rattle.kb_due.specs.Governing.{Governing}
use Rattle.kb_due.specs.DueDays.{is_event, event_by}

-- where no day after one passes a test, the last one that does is the same on a later day
pub last_day_on-steady : (test : ℕ → Bool) (d e : ℕ) → d ≤ e
    → ((day : ℕ) → d < day → day ≤ e → test day ≡ false)
    → last_day_on test e ≡ last_day_on test d
last_day_on-steady test d zero order quiet =
    let same : zero ≡ d = omega arith in
    ap (last_day_on test) same
last_day_on-steady test d (suc before) order quiet =
    elim (cases_lt d (suc before)) [
      | inl earlier ↦
          last_day_on-back test before (quiet (suc before) earlier (omega arith))
          ∙ last_day_on-steady test d before (omega arith) (λ day after up_to. quiet day after (omega arith))
      | inr not_earlier ↦ let same : suc before ≡ d = omega arith in ap (last_day_on test) same
    ]

-- the last day that passes a test is no earlier than one that does
pub last_day_on-begins : (test : ℕ → Bool) (from day : ℕ) → test from ≡ true → from ≤ day
    → from ≤ last_day_on test day
unfolding last_day_on
last_day_on-begins test from zero at begun = begun
last_day_on-begins test from (suc before) at begun =
    cond_both (test (suc before)) (suc before) (last_day_on test before) (λ found. from ≤ found) (λ _. begun)
    (λ fails.
    elim (cases_lt from (suc before)) [
      | inl earlier ↦ last_day_on-begins test from before at (omega arith)
      | inr not_earlier ↦
          let same : from ≡ suc before = omega arith in
          absurd (true≢false (sym at ∙ ap test same ∙ fails))
    ])

-- where no day after one has an event, the last event is the same on a later day
pub event_by-steady : (facts : FactsValue) (subscription : Subscription) (sub : ℕ) (governing : Governing)
    (d e : ℕ) → d ≤ e
    → ((day : ℕ) → d < day → day ≤ e → is_event facts subscription sub governing day ≡ false)
    → event_by facts subscription sub governing e ≡ event_by facts subscription sub governing d
event_by-steady facts subscription sub governing d e order quiet =
    last_day_on-steady (is_event facts subscription sub governing) d e order quiet
