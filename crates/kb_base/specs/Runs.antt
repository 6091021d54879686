-- Longest runs of a key over days. A key gives each day a value or none, and a run is a stretch of days,
-- as long as can be, with one value.
use Rattle.std.specs.Prelude.{ℕ, zero, suc, ◌+◌, ◌*◌, ◌≡◌, ◌<◌, ◌≤◌, ◌/◌, Bool, true, IsFalse, ◌&&◌, ◌==◌}
use Rattle.std.specs.Prelude.{nat_eq, nat_le, nat_lt, if◌then◌else◌, List, [], ◌∷◌, map, filter, Option, Some}
use Rattle.std.specs.Prelude.{None, refl}

-- the days from one up to, but not including, another, and the value that they have
pub record Stretch (V : Type 0) : Type 0 where
  pub from : ℕ
  pub to : ℕ
  pub value : V

-- a stretch has this day
abbrev pub has_day : {V : Type 0} → ℕ → Stretch V → Bool
has_day day stretch = nat_le stretch.from day && nat_lt day stretch.to

-- the values of those stretches that have this day
abbrev pub values_on : {V : Type 0} → ℕ → List (Stretch V) → List V
values_on day stretches = map (λ stretch. stretch.value) (filter (has_day day) stretches)

-- the runs from a day on, where those from the next day on are known: the first of them grows or not
abbrev pub with_day : {V : Type 0} → (V → V → Bool) → ℕ → Option V → List (Stretch V) → List (Stretch V)
with_day same day None later = later
with_day same day (Some value) [] = record { from = day; to = day + 1; value = value } ∷ []
with_day same day (Some value) (next ∷ later) =
    if (next.from == day + 1) && same value next.value
    then record { from = day; to = next.to; value = value } ∷ later
    else record { from = day; to = day + 1; value = value } ∷ next ∷ later

-- the runs of a key over a number of days from one on, by first day
unfoldable pub runs : {V : Type 0} → (V → V → Bool) → (ℕ → Option V) → ℕ → ℕ → List (Stretch V)
runs same key day zero = []
runs same key day (suc count) = with_day same day (key day) (runs same key (day + 1) count)

two_runs : runs nat_eq (λ day. if day == 4 then None else Some (day / 6)) 3 5
    ≡ record {
      from = 3;
      to = 4;
      value = 0;
    } ∷ record { from = 5; to = 6; value = 0 } ∷ record { from = 6; to = 8; value = 1 } ∷ []
unfolding runs
two_runs = refl

-- a test for the same value tells just that
pub record IsSame {V : Type 0} (same : V → V → Bool) : Type 0 where
  pub sound : (a b : V) → same a b ≡ true → a ≡ b
  pub complete : (a : V) → same a a ≡ true

-- the key has no value from a day on up to, but not including, another
abbrev pub HasNone : {V : Type 0} → (ℕ → Option V) → ℕ → ℕ → Type 0
HasNone key from to = (day : ℕ) → from ≤ day → day < to → key day ≡ None

-- a stretch lies between two days, has some day, and each of its days has its value
pub record IsStretch {V : Type 0} (key : ℕ → Option V) (day end : ℕ) (stretch : Stretch V) : Type 0 where
  pub begins : day ≤ stretch.from
  pub some_day : stretch.from < stretch.to
  pub ends : stretch.to ≤ end
  pub valued : (on : ℕ) → stretch.from ≤ on → on < stretch.to → key on ≡ Some stretch.value

-- what a day has is not this value: it has none, or another one
abbrev pub IsOther : {V : Type 0} → (V → V → Bool) → V → Option V → Type 0
IsOther same value None = Unit {0}
IsOther same value (Some found) = IsFalse (same value found)

-- these are a key's longest runs between two days: none before the first, which can't go on, and the rest
-- likewise
abbrev pub AreRuns : {V : Type 0} → (V → V → Bool) → (ℕ → Option V) → ℕ → ℕ → List (Stretch V) → Type 0
AreRuns same key day end [] = HasNone key day end
AreRuns same key day end (stretch ∷ later) =
    IsStretch key day end stretch × HasNone key day stretch.from
    × (stretch.to < end → IsOther same stretch.value (key stretch.to)) × AreRuns same key stretch.to end later

-- the weight of what a day has: none weighs nothing
abbrev pub weight_of : {V : Type 0} → (V → ℕ → ℕ) → Option V → ℕ → ℕ
weight_of weight None day = 0
weight_of weight (Some value) day = weight value day

one_weight : weight_of (λ value day. 10 * value + day) (Some 2) 7 ≡ 27
one_weight = refl
