-- The day that is named, or today.
use Rattle.std.specs.Prelude.{ℕ, ◌≡◌, ◌≤◌, Option, Some, None, IfSome, refl}
use Rattle.kb_days.specs.Calendar.{first_day, last_day}

-- The day that is named, or one that a clock gave: the one day that it gives, where it tells that.
abbrev pub IsDayOf : {C : Type 0} → (C → Option ℕ) → C → Option ℕ → ℕ → Type 0
IsDayOf told clock (Some named) day = day ≡ named
IsDayOf told clock None day = (first_day ≤ day) × (day ≤ last_day)
    × IfSome (told clock) (λ today. day ≡ today)

-- 2024-03-01 is named
the_first_of_march : IsDayOf (λ (clock : ℕ). Some clock) 19790 (Some 19783) 19783
the_first_of_march = refl
