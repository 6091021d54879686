-- What is left of stretches in order, once those are passed that end by a day.
use Rattle.std.specs.Prelude.{ℕ, ◌≡◌, ◌<◌, ◌≤◌, List, [], ◌∷◌}
use Rattle.kb_base.specs.Runs.{Stretch, values_on}
use Rattle.kb_days.specs.Calendar.{end_of_days}
use Rattle.kb_tree.specs.Covers.{AreInOrder}

-- the first of the stretches ends behind a day, and the rest follow in order, up to but not including another
-- day
abbrev pub AreAhead : {V : Type 0} → ℕ → ℕ → List (Stretch V) → Type 0
AreAhead day end [] = Unit {0}
AreAhead day end (stretch ∷ later) =
    (day < stretch.to) × (stretch.from < stretch.to) × AreInOrder stretch.to end later

-- the same, where the first may also end on the day
abbrev pub AreNear : {V : Type 0} → ℕ → ℕ → List (Stretch V) → Type 0
AreNear day end [] = Unit {0}
AreNear day end (stretch ∷ later) =
    (day ≤ stretch.to) × (stretch.from < stretch.to) × AreInOrder stretch.to end later

-- what is left of stretches: it has the same from a day on
pub record IsRest {V : Type 0} (all : List (Stretch V)) (day : ℕ) (rest : List (Stretch V)) : Type 0 where
  pub ahead : AreAhead day end_of_days rest
  pub same : (d : ℕ) → day ≤ d → values_on d rest ≡ values_on d all

-- stretches are in order from some day on
abbrev pub AreLeft : {V : Type 0} → ℕ → List (Stretch V) → Type 0
AreLeft end stretches = (from : ℕ) × AreInOrder from end stretches
