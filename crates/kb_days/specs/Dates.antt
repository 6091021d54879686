-- The dates of examples: a month is a function of the day in it, and march 10 is 2024-03-10.
use Rattle.std.specs.Prelude.{ℕ, ◌+◌, ◌≡◌, ◌≤◌, codes, refl}
use Rattle.kb_days.specs.Calendar.{mark, month_start, month_length, month_after, month_of}
use Rattle.kb_days.specs.Calendar.{day_of_month}
use Rattle.kb_days.specs.DateText.{date_text, civil_text}

-- a function gives the days of a month by their numbers, up to its last one
abbrev pub AreDaysOf : ℕ → (ℕ → ℕ) → Type 0
AreDaysOf month days =
    (number : ℕ) → 1 ≤ number → number ≤ month_length month → days number ≡ mark month number

-- the months of 2024
abbrev pub january : ℕ → ℕ
january day = 19722 + day

abbrev pub february : ℕ → ℕ
february day = 19753 + day

abbrev pub march : ℕ → ℕ
march day = 19782 + day

abbrev pub april : ℕ → ℕ
april day = 19813 + day

abbrev pub may : ℕ → ℕ
may day = 19843 + day

abbrev pub june : ℕ → ℕ
june day = 19874 + day

-- and some of other years
abbrev pub december_2023 : ℕ → ℕ
december_2023 day = 19691 + day

abbrev pub january_2020 : ℕ → ℕ
january_2020 day = 18261 + day

abbrev pub february_2020 : ℕ → ℕ
february_2020 day = 18292 + day

abbrev pub january_2025 : ℕ → ℕ
january_2025 day = 20088 + day

abbrev pub february_2025 : ℕ → ℕ
february_2025 day = 20119 + day

abbrev pub april_2025 : ℕ → ℕ
april_2025 day = 20178 + day

abbrev pub february_2028 : ℕ → ℕ
february_2028 day = 21214 + day

the_10th_of_march : date_text (march 10) ≡ codes "2024-03-10"
unfolding date_text civil_text day_of_month month_of month_after month_start month_length
the_10th_of_march = refl
