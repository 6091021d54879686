-- The first month whose cycle day lies on or after a day.
use Rattle.std.proofs.Common.{◌≡◌, ℕ, ◌+◌, ◌<◌, ◌≤◌, inl, inr, arith}
use Rattle.std.proofs.lemmas.Bool.{cases_lt}
use Rattle.kb_days.specs.Calendar.{mark, month_of}
use Rattle.kb_days.proofs.Marks.{month_of-first_day, month_of-last_charged, mark-order, mark-before}
use Rattle.kb_days.proofs.Marks.{mark-after}
use Rattle.kb_align.specs.Boundaries.{IsFirstMonth}

-- a day's month is the first, if its cycle day lies on or after the day
pub IsFirstMonth-here : (day bcd month : ℕ) → month ≡ month_of day → day ≤ mark (month_of day) bcd
    → IsFirstMonth day bcd month
IsFirstMonth-here day bcd month e h = record {
  reached = rw e h;
  earlier = λ other before. mark-before other day bcd (omega arith);
}

-- and else the next one is
pub IsFirstMonth-next : (day bcd month : ℕ) → month ≡ month_of day + 1 → mark (month_of day) bcd < day
    → IsFirstMonth day bcd month
IsFirstMonth-next day bcd month e h = record {
  reached = rw e (let after = mark-after day bcd in omega (arith, after));
  earlier =
      λ other before. let order = mark-order other (month_of day) bcd (omega arith) in omega (arith, order);
}

-- the next month is the first after a day, if the cycle day of the day's month lies on or before it
pub IsFirstMonth-later : (day bcd month : ℕ) → month ≡ month_of day + 1 → mark (month_of day) bcd ≤ day
    → IsFirstMonth (day + 1) bcd month
IsFirstMonth-later day bcd month e h = record {
  reached = rw e (let after = mark-after day bcd in omega (arith, after));
  earlier =
      λ other before. let order = mark-order other (month_of day) bcd (omega arith) in omega (arith, order);
}

-- and else the day's month is
pub IsFirstMonth-soon : (day bcd month : ℕ) → month ≡ month_of day → day < mark (month_of day) bcd
    → IsFirstMonth (day + 1) bcd month
IsFirstMonth-soon day bcd month e h = record {
  reached = rw e (omega arith);
  earlier = λ other before. let early = mark-before other day bcd (omega arith) in omega (arith, early);
}

-- one month is the first
pub IsFirstMonth-only : (start bcd m n : ℕ) → IsFirstMonth start bcd m → IsFirstMonth start bcd n → m ≡ n
IsFirstMonth-only start bcd m n is other =
    elim (cases_lt m n) [
      | inl before ↦
          let early = other.earlier m before in let late = is.reached in absurd (omega (arith, early, late))
      | inr rest ↦
          elim (cases_lt n m) [
            | inl after ↦
                let early =
                is.earlier n after in let late = other.reached in absurd (omega (arith, early, late))
            | inr same ↦ omega arith
          ]
    ]

-- a month whose cycle day lies before the day comes before the first
pub IsFirstMonth-before : (start bcd first month : ℕ) → IsFirstMonth start bcd first → mark month bcd < start
    → month < first
IsFirstMonth-before start bcd first month is h =
    elim (cases_lt month first) [
      | inl before ↦ before
      | inr after ↦
          let order =
          mark-order first month bcd after in let late = is.reached in absurd (omega (arith, order, late))
    ]

pub ruleset first_months = (
  month_of-first_day,
  month_of-last_charged,
  IsFirstMonth-here,
  IsFirstMonth-next,
  IsFirstMonth-later,
  IsFirstMonth-soon,
)
