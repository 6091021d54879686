-- What a search day by day finds.
use Rattle.std.proofs.Common.{◌≡◌, ℕ, zero, suc, ◌+◌, ◌<◌, ◌≤◌, Bool, true, false, inl, inr, refl, sym, ap}
use Rattle.std.proofs.Common.{◌∙◌, arith}
use Rattle.std.proofs.lemmas.Bool.{cases_lt}
use Rattle.kb_align.specs.PeriodDays.{last_day_on, next_day_after}

-- a day that passes the test is the last one up to itself
last_day_on-here : (test : ℕ → Bool) (day : ℕ) → test day ≡ true → last_day_on test day ≡ day
unfolding last_day_on
last_day_on-here test zero at = refl
last_day_on-here test (suc before) at = rw at refl

-- behind one that doesn't, the search goes back
pub last_day_on-back : (test : ℕ → Bool) (before : ℕ) → test (suc before) ≡ false
    → last_day_on test (suc before) ≡ last_day_on test before
unfolding last_day_on
last_day_on-back test before not_at = rw not_at refl

-- the last day is one that passes the test, if none does from there up to the day
pub last_day_on-is : (test : ℕ → Bool) (from day : ℕ) → from ≤ day → test from ≡ true
    → ((other : ℕ) → from < other → other ≤ day → test other ≡ false)
    → last_day_on test day ≡ from
last_day_on-is test from zero begun at none =
    let same : from ≡ zero = omega arith in
    last_day_on-here test zero (ap test (sym same) ∙ at) ∙ sym same
last_day_on-is test from (suc before) begun at none =
    elim (cases_lt from (suc before)) [
      | inl earlier ↦
          last_day_on-back test before (none (suc before) earlier (omega arith))
          ∙ last_day_on-is test from before (omega arith) at
          (λ other after up_to. none other after (omega arith))
      | inr not_earlier ↦
          let same : from ≡ suc before = omega arith in
          last_day_on-here test (suc before) (ap test (sym same) ∙ at) ∙ sym same
    ]

-- the day after is the next one, if it passes the test
next_day_after-here : (test : ℕ → Bool) (more day : ℕ) → test (day + 1) ≡ true
    → next_day_after test (suc more) day ≡ day + 1
unfolding next_day_after
next_day_after-here test more day at = rw at refl

-- and else the search goes on from it
next_day_after-on : (test : ℕ → Bool) (more day : ℕ) → test (day + 1) ≡ false
    → next_day_after test (suc more) day ≡ next_day_after test more (day + 1)
unfolding next_day_after
next_day_after-on test more day not_at = rw not_at refl

-- the next day is one that passes the test, if none does from the day up to there, and the search gets there
pub next_day_after-is : (test : ℕ → Bool) (most day to : ℕ) → day < to → to ≤ day + most → test to ≡ true
    → ((other : ℕ) → day < other → other < to → test other ≡ false)
    → next_day_after test most day ≡ to
next_day_after-is test zero day to after near at none = absurd (omega arith)
next_day_after-is test (suc more) day to after near at none =
    elim (cases_lt (day + 1) to) [
      | inl later ↦
          next_day_after-on test more day (none (day + 1) (omega arith) later)
          ∙ next_day_after-is test more (day + 1) to later (omega arith) at
          (λ other behind before. none other (omega arith) before)
      | inr not_later ↦
          let same : to ≡ day + 1 = omega arith in
          next_day_after-here test more day (ap test (sym same) ∙ at) ∙ sym same
    ]
