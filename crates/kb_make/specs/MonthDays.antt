-- The days on which the commands of a seed come.
use Rattle.std.specs.Prelude.{ℕ, ◌+◌, ◌%◌, ◌≡◌, refl}
use Rattle.kb_days.specs.Calendar.{mark, month_in, month_start, month_length}
use Rattle.kb_days.specs.Dates.{january, february, january_2025}

-- the first day of the month that comes so many months after January 2024
unfoldable pub first_of_month : ℕ → ℕ
first_of_month months = mark (month_in 2024 1 + months) 1

a_month_later : first_of_month 1 ≡ february 1
unfolding first_of_month month_start month_length
a_month_later = refl

a_year_later : first_of_month 12 ≡ january_2025 1
unfolding first_of_month month_start month_length
a_year_later = refl

-- the day on which an account begins: one of the first 28 of January 2024, by its second draw
abbrev pub start_day : ℕ → ℕ
start_day second = first_of_month 0 + second % 28

on_the_19th : start_day 5758 ≡ january 19
unfolding first_of_month month_start month_length
on_the_19th = refl
