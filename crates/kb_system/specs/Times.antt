-- On which day a time falls.
use Rattle.std.specs.Prelude.{ℕ, ◌/◌, min, max, ◌≡◌, refl}
use Rattle.kb_days.specs.Calendar.{first_day, last_day}

-- the day of a time in seconds since 1970 began, or the nearest day that a command may name
abbrev pub day_at : ℕ → ℕ
day_at seconds = max first_day (min (seconds / 86400) last_day)

-- 2024-03-01, from midnight to midnight
first_second : day_at 1709251200 ≡ 19783
first_second = refl

last_second : day_at 1709337599 ≡ 19783
last_second = refl

-- 1999-12-31 is too early
too_early : day_at 946684799 ≡ 10957
too_early = refl

-- 2100-01-01 is too late
too_late : day_at 4102444800 ≡ 47481
too_late = refl
