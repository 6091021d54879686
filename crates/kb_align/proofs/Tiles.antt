-- The period of a day, and how periods lie to each other.
use Rattle.std.proofs.Common.{◌≡◌, ℕ, ◌<◌, ◌≤◌, ◌⊎◌, inl, inr, Some, sym, ◌∙◌, subst, arith}
use Rattle.std.proofs.lemmas.Bool.{cases_lt}
use Rattle.kb_days.specs.Periods.{period_days, period_months}
use Rattle.kb_days.specs.declared.period.Period.{Period}
use Rattle.kb_align.specs.Between.{IsBetween}
use Rattle.kb_align.specs.Boundaries.{IsDayBoundary, IsMonthBoundary, IsBoundary, IsPeriodOf}
use Rattle.kb_align.proofs.Lengths.{days_or_months}

-- one number is held
same_some : (a b : ℕ) → Some a ≡ Some b → a ≡ b
same_some a b e = cc

-- the boundaries of a period of days are those of its days
IsBoundary-days : (start : ℕ) (period : Period) (bcd count day : ℕ) → period_days period ≡ Some count
    → IsBoundary start period bcd day → IsDayBoundary count start day
IsBoundary-days start period bcd count day e (inl (other, is, bound)) =
    subst (λ (n : ℕ). IsDayBoundary n start day) (same_some other count (sym is ∙ e)) bound
IsBoundary-days start period bcd count day e (inr (months, is, bound)) =
    absurd (days_or_months period count months e is)

-- and those of a period of months are those of its months
IsBoundary-months : (start : ℕ) (period : Period) (bcd count day : ℕ) → period_months period ≡ Some count
    → IsBoundary start period bcd day → IsMonthBoundary count start bcd day
IsBoundary-months start period bcd count day e (inl (days, is, bound)) =
    absurd (days_or_months period days count is e)
IsBoundary-months start period bcd count day e (inr (other, is, bound)) =
    subst (λ (n : ℕ). IsMonthBoundary n start bcd day) (same_some other count (sym is ∙ e)) bound

-- a day lies in its period, if it lies between the boundaries of days
pub IsPeriodOf-days : (start : ℕ) (period : Period) (bcd count day from to : ℕ)
    → period_days period ≡ Some count
    → IsBetween (IsDayBoundary count start) day from to → IsPeriodOf start period bcd day from to
IsPeriodOf-days start period bcd count day from to e is = record {
  from_such = inl (count, e, is.from_such);
  to_such = inl (count, e, is.to_such);
  begun = is.begun;
  over = is.over;
  greatest = λ other bound h. is.greatest other (IsBoundary-days start period bcd count other e bound) h;
  least = λ other bound h. is.least other (IsBoundary-days start period bcd count other e bound) h;
}

-- or between those of months
pub IsPeriodOf-months : (start : ℕ) (period : Period) (bcd count day from to : ℕ)
    → period_months period ≡ Some count
    → IsBetween (IsMonthBoundary count start bcd) day from to → IsPeriodOf start period bcd day from to
IsPeriodOf-months start period bcd count day from to e is = record {
  from_such = inr (count, e, is.from_such);
  to_such = inr (count, e, is.to_such);
  begun = is.begun;
  over = is.over;
  greatest = λ other bound h. is.greatest other (IsBoundary-months start period bcd count other e bound) h;
  least = λ other bound h. is.least other (IsBoundary-months start period bcd count other e bound) h;
}

-- two periods of one start are one, or one lies before the other
pub IsPeriodOf-tiles : (start : ℕ) (period : Period) (bcd day from to other first last : ℕ)
    → IsPeriodOf start period bcd day from to
    → IsPeriodOf start period bcd other first last
    → ((first ≡ from) × (last ≡ to)) ⊎ (last ≤ from) ⊎ (to ≤ first)
IsPeriodOf-tiles start period bcd day from to other first last is is_other =
    elim (cases_lt other from) [
      | inl before ↦ inr (inl (is_other.least from is.from_such before))
      | inr begun ↦
          elim (cases_lt other to) [
            | inr over ↦ inr (inr (is_other.greatest to is.to_such over))
            | inl within ↦ inl (first_is begun within, last_is begun within)
          ]
    ]
  where
    first_is : from ≤ other → other < to → first ≡ from
    first_is begun within =
        let high = is_other.greatest from is.from_such begun in
        elim (cases_lt day first) [
          | inl later ↦
              let next = is.least first is_other.from_such later in
              let there = is_other.begun in
              absurd (omega (arith, next, there, within))
          | inr on ↦ let low = is.greatest first is_other.from_such on in omega (arith, high, low)
        ]

    last_is : from ≤ other → other < to → last ≡ to
    last_is begun within =
        let high = is_other.least to is.to_such within in
        elim (cases_lt day last) [
          | inl later ↦ let low = is.least last is_other.to_such later in omega (arith, high, low)
          | inr on ↦
              let back = is.greatest last is_other.to_such on in
              let there = is_other.over in
              absurd (omega (arith, back, there, begun))
        ]
