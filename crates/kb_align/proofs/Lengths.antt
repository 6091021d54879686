-- How long billing periods are.
use Rattle.std.proofs.Common.{◌≡◌, ℕ, ◌<◌, ◌≤◌, Some, None, IsSome, refl, arith}
use Rattle.std.proofs.lemmas.Option.{none-some}
use Rattle.kb_days.specs.Periods.{period_days, period_months}
use Rattle.kb_days.specs.declared.period.Period.{Period}
use Rattle.kb_days.specs.declared.period.Period.TheVariants.{Daily, Weekly, Biweekly, ThirtyDays, Monthly}
use Rattle.kb_days.specs.declared.period.Period.TheVariants.{Quarterly, Biannual, Annual, Biennial}
use Rattle.kb_days.specs.declared.period.Period.TheVariants.{NoBillingPeriod}

-- a number is some one, if the option holds it
some_low : (low a n : ℕ) → Some a ≡ Some n → low ≤ a → low ≤ n
some_low low a n e h = let same : a ≡ n = cc in omega arith

some_high : (high a n : ℕ) → Some a ≡ Some n → a ≤ high → n ≤ high
some_high high a n e h = let same : a ≡ n = cc in omega arith

-- a period that is counted in days has some
pub period_days-low : (period : Period) (n : ℕ) → period_days period ≡ Some n → 0 < n
period_days-low Daily n e = some_low 1 1 n e (omega arith)
period_days-low Weekly n e = some_low 1 7 n e (omega arith)
period_days-low Biweekly n e = some_low 1 14 n e (omega arith)
period_days-low ThirtyDays n e = some_low 1 30 n e (omega arith)
period_days-low Monthly n e = absurd (none-some n e)
period_days-low Quarterly n e = absurd (none-some n e)
period_days-low Biannual n e = absurd (none-some n e)
period_days-low Annual n e = absurd (none-some n e)
period_days-low Biennial n e = absurd (none-some n e)
period_days-low NoBillingPeriod n e = absurd (none-some n e)

-- and at most 30
pub period_days-high : (period : Period) (n : ℕ) → period_days period ≡ Some n → n ≤ 30
period_days-high Daily n e = some_high 30 1 n e (omega arith)
period_days-high Weekly n e = some_high 30 7 n e (omega arith)
period_days-high Biweekly n e = some_high 30 14 n e (omega arith)
period_days-high ThirtyDays n e = some_high 30 30 n e (omega arith)
period_days-high Monthly n e = absurd (none-some n e)
period_days-high Quarterly n e = absurd (none-some n e)
period_days-high Biannual n e = absurd (none-some n e)
period_days-high Annual n e = absurd (none-some n e)
period_days-high Biennial n e = absurd (none-some n e)
period_days-high NoBillingPeriod n e = absurd (none-some n e)

-- a period that is counted in months has some
pub period_months-low : (period : Period) (n : ℕ) → period_months period ≡ Some n → 0 < n
period_months-low Daily n e = absurd (none-some n e)
period_months-low Weekly n e = absurd (none-some n e)
period_months-low Biweekly n e = absurd (none-some n e)
period_months-low ThirtyDays n e = absurd (none-some n e)
period_months-low Monthly n e = some_low 1 1 n e (omega arith)
period_months-low Quarterly n e = some_low 1 3 n e (omega arith)
period_months-low Biannual n e = some_low 1 6 n e (omega arith)
period_months-low Annual n e = some_low 1 12 n e (omega arith)
period_months-low Biennial n e = some_low 1 24 n e (omega arith)
period_months-low NoBillingPeriod n e = absurd (none-some n e)

-- and at most 24
pub period_months-high : (period : Period) (n : ℕ) → period_months period ≡ Some n → n ≤ 24
period_months-high Daily n e = absurd (none-some n e)
period_months-high Weekly n e = absurd (none-some n e)
period_months-high Biweekly n e = absurd (none-some n e)
period_months-high ThirtyDays n e = absurd (none-some n e)
period_months-high Monthly n e = some_high 24 1 n e (omega arith)
period_months-high Quarterly n e = some_high 24 3 n e (omega arith)
period_months-high Biannual n e = some_high 24 6 n e (omega arith)
period_months-high Annual n e = some_high 24 12 n e (omega arith)
period_months-high Biennial n e = some_high 24 24 n e (omega arith)
period_months-high NoBillingPeriod n e = absurd (none-some n e)

-- one that isn't counted in days is counted in months, if there is one
pub period_months-some : (period : Period) → (period ≡ NoBillingPeriod → ⊥) → period_days period ≡ None
    → IsSome (period_months period)
period_months-some Daily billed e = absurd (cc)
period_months-some Weekly billed e = absurd (cc)
period_months-some Biweekly billed e = absurd (cc)
period_months-some ThirtyDays billed e = absurd (cc)
period_months-some Monthly billed e = refl
period_months-some Quarterly billed e = refl
period_months-some Biannual billed e = refl
period_months-some Annual billed e = refl
period_months-some Biennial billed e = refl
period_months-some NoBillingPeriod billed e = absurd (billed refl)

-- none is counted in both
pub days_or_months : (period : Period) (days months : ℕ) → period_days period ≡ Some days
    → period_months period ≡ Some months → ⊥
days_or_months Daily days months d m = none-some months m
days_or_months Weekly days months d m = none-some months m
days_or_months Biweekly days months d m = none-some months m
days_or_months ThirtyDays days months d m = none-some months m
days_or_months Monthly days months d m = none-some days d
days_or_months Quarterly days months d m = none-some days d
days_or_months Biannual days months d m = none-some days d
days_or_months Annual days months d m = none-some days d
days_or_months Biennial days months d m = none-some days d
days_or_months NoBillingPeriod days months d m = none-some days d

pub ruleset lengths =
    (period_days-low, period_days-high, period_months-low, period_months-high, period_months-some)
