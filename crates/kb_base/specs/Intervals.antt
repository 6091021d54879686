-- Stretches of days, told one after another, and joined where they go on.
use Rattle.std.specs.Prelude.{ℕ, Bool, ◌&&◌, ◌==◌, nat_eq, if◌then◌else◌, List, [], ◌∷◌, Option, Some, None}
use Rattle.std.specs.Prelude.{refl, ◌≡◌}
use Rattle.kb_base.specs.Runs.{Stretch}

-- two stretches: one longer, where the next begins at the end of the last, with its value
abbrev pub last_two : {V : Type 0} → (V → V → Bool) → Stretch V → Stretch V → List (Stretch V)
last_two same last next =
    if (last.to == next.from) && same last.value next.value
    then record { from = last.from; to = next.to; value = last.value } ∷ []
    else last ∷ next ∷ []

-- stretches with one more behind them, which makes the last one longer where it goes on
abbrev pub push_stretch : {V : Type 0} → (V → V → Bool) → List (Stretch V) → Stretch V → List (Stretch V)
push_stretch same [] next = next ∷ []
push_stretch same (last ∷ []) next = last_two same last next
push_stretch same (first ∷ second ∷ later) next = first ∷ push_stretch same (second ∷ later) next

-- stretches with the days from one up to another behind them, where these have a value
abbrev pub push_run : {V : Type 0} → (V → V → Bool) → List (Stretch V) → ℕ → ℕ → Option V → List (Stretch V)
push_run same found from to None = found
push_run same found from to (Some value) =
    push_stretch same found (record { from = from; to = to; value = value })

pushed : push_run nat_eq (push_run nat_eq (push_run nat_eq [] 3 5 (Some 7)) 5 6 None) 6 8 (Some 7)
    ≡ record { from = 3; to = 5; value = 7 } ∷ record { from = 6; to = 8; value = 7 } ∷ []
pushed = refl

pushed_longer : push_run nat_eq (push_run nat_eq [] 3 5 (Some 7)) 5 8 (Some 7)
    ≡ record { from = 3; to = 8; value = 7 } ∷ []
pushed_longer = refl
