-- A day between two days of some kind that are next to each other.
use Rattle.std.specs.Prelude.{ℕ, ◌<◌, ◌≤◌}

-- from the greatest such day on or before a day to the least one after it
pub record IsBetween (IsSuch : ℕ → Type 0) (day from to : ℕ) : Type 0 where
  pub from_such : IsSuch from
  pub to_such : IsSuch to
  pub begun : from ≤ day
  pub over : day < to
  pub greatest : (other : ℕ) → IsSuch other → other ≤ day → other ≤ from
  pub least : (other : ℕ) → IsSuch other → day < other → to ≤ other
