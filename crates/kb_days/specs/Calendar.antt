-- The civil calendar. Days are counted from 1970-01-01 and months from January 1970; the first of each is 0.
use Rattle.std.specs.Prelude.{ℕ, zero, suc, ◌+◌, ◌-◌, ◌*◌, ◌/◌, ◌%◌, ◌≡◌, min, pos, nat_lt, if◌then◌else◌}
use Rattle.std.specs.Prelude.{refl}
use Rattle.jiff_core.specs.Calendar.{days_in_month}

-- 2000-01-01 and 2099-12-31: the days that a command may name
abbrev pub first_day : ℕ
first_day = 10957

abbrev pub last_day : ℕ
last_day = 47481

-- 2102-01-31: the last day that may be charged, since a period that begins on a day that commands name is
-- over by then
abbrev pub last_charged : ℕ
last_charged = 48242

-- 2102-02-01: from this day on nothing is ever charged
abbrev pub end_of_days : ℕ
end_of_days = last_charged + 1

-- how many days may be charged, from the first one that commands name on
abbrev pub charged_days : ℕ
charged_days = end_of_days - first_day

all_charged_days : charged_days ≡ 37286
all_charged_days = refl

-- the days that may follow from those, as the end of a period does
abbrev pub first_reach : ℕ
first_reach = 10000

abbrev pub last_reach : ℕ
last_reach = 49000

-- a month by its year, and its number in that
abbrev pub month_in : ℕ → ℕ → ℕ
month_in year number = 12 * (year - 1970) + (number - 1)

march_of_2024 : month_in 2024 3 ≡ 650
march_of_2024 = refl

-- how many days a month has
unfoldable pub month_length : ℕ → ℕ
month_length month = days_in_month (pos (1970 + month / 12)) (month % 12 + 1)

february_of_a_leap_year : month_length (month_in 2024 2) ≡ 29
unfolding month_length
february_of_a_leap_year = refl

-- the day on which a month begins: the days of all months before it are over
unfoldable pub month_start : ℕ → ℕ
month_start zero = 0
month_start (suc month) = month_start month + month_length month

march_2024 : month_start (month_in 2024 3) ≡ 19783
unfolding month_start month_length
march_2024 = refl

-- the day of a month with this number, or the month's last day where the month is shorter
abbrev pub mark : ℕ → ℕ → ℕ
mark month number = month_start month + (min number (month_length month) - 1)

the_31st_of_february : mark (month_in 2024 2) 31 ≡ mark (month_in 2024 2) 29
unfolding month_start month_length
the_31st_of_february = refl

-- the month of the day that comes so many days after the start of a month: whole months are counted off
unfoldable pub month_after : ℕ → ℕ → ℕ → ℕ
month_after zero month days = month
month_after (suc most) month days =
    if nat_lt days (month_length month) then month else month_after most (month + 1)
    (days - month_length month)

-- the month in which a day lies
unfoldable pub month_of : ℕ → ℕ
month_of day = month_after day 0 day

-- the number of a day in its month, from 1
unfoldable pub day_of_month : ℕ → ℕ
day_of_month day = day - month_start (month_of day) + 1

the_10th_of_march : day_of_month (mark (month_in 2024 3) 10) ≡ 10
unfolding day_of_month month_of month_after month_start month_length
the_10th_of_march = refl
