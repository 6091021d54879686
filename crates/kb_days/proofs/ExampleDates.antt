-- The months of examples are those of the calendar.
use Rattle.std.proofs.Common.{◌≡◌, ℕ, ◌+◌, refl, arith}
use Rattle.kb_days.specs.Calendar.{month_in, month_start, month_length}
use Rattle.kb_days.specs.Dates.{AreDaysOf, january, february, march, april, may, june, december_2023}
use Rattle.kb_days.specs.Dates.{january_2020, february_2020, january_2025, february_2025, april_2025}
use Rattle.kb_days.specs.Dates.{february_2028}

-- the days of a month are those behind the last one of the month before it
AreDaysOf-start : (month before : ℕ) → month_start month ≡ before + 1 → AreDaysOf month (λ day. before + day)
AreDaysOf-start month before begins number first last = omega (arith, begins, first, last)

pub AreDaysOf-january : AreDaysOf (month_in 2024 1) january
unfolding month_start month_length
AreDaysOf-january = AreDaysOf-start (month_in 2024 1) 19722 refl

pub AreDaysOf-february : AreDaysOf (month_in 2024 2) february
unfolding month_start month_length
AreDaysOf-february = AreDaysOf-start (month_in 2024 2) 19753 refl

pub AreDaysOf-march : AreDaysOf (month_in 2024 3) march
unfolding month_start month_length
AreDaysOf-march = AreDaysOf-start (month_in 2024 3) 19782 refl

pub AreDaysOf-april : AreDaysOf (month_in 2024 4) april
unfolding month_start month_length
AreDaysOf-april = AreDaysOf-start (month_in 2024 4) 19813 refl

pub AreDaysOf-may : AreDaysOf (month_in 2024 5) may
unfolding month_start month_length
AreDaysOf-may = AreDaysOf-start (month_in 2024 5) 19843 refl

pub AreDaysOf-june : AreDaysOf (month_in 2024 6) june
unfolding month_start month_length
AreDaysOf-june = AreDaysOf-start (month_in 2024 6) 19874 refl

pub AreDaysOf-december_2023 : AreDaysOf (month_in 2023 12) december_2023
unfolding month_start month_length
AreDaysOf-december_2023 = AreDaysOf-start (month_in 2023 12) 19691 refl

pub AreDaysOf-january_2020 : AreDaysOf (month_in 2020 1) january_2020
unfolding month_start month_length
AreDaysOf-january_2020 = AreDaysOf-start (month_in 2020 1) 18261 refl

pub AreDaysOf-february_2020 : AreDaysOf (month_in 2020 2) february_2020
unfolding month_start month_length
AreDaysOf-february_2020 = AreDaysOf-start (month_in 2020 2) 18292 refl

pub AreDaysOf-january_2025 : AreDaysOf (month_in 2025 1) january_2025
unfolding month_start month_length
AreDaysOf-january_2025 = AreDaysOf-start (month_in 2025 1) 20088 refl

pub AreDaysOf-february_2025 : AreDaysOf (month_in 2025 2) february_2025
unfolding month_start month_length
AreDaysOf-february_2025 = AreDaysOf-start (month_in 2025 2) 20119 refl

pub AreDaysOf-april_2025 : AreDaysOf (month_in 2025 4) april_2025
unfolding month_start month_length
AreDaysOf-april_2025 = AreDaysOf-start (month_in 2025 4) 20178 refl

pub AreDaysOf-february_2028 : AreDaysOf (month_in 2028 2) february_2028
unfolding month_start month_length
AreDaysOf-february_2028 = AreDaysOf-start (month_in 2028 2) 21214 refl
