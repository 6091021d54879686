-- What is told of real connections: counts alone.
use Rattle.std.specs.Prelude.{ℕ}

-- how many reads and writes of a link have failed
pub record LinkCounts : Type 0 where
  pub reads : ℕ
  pub writes : ℕ

-- how many links a door has handed out and got back, and how many of its calls have failed
pub record DoorCounts : Type 0 where
  pub handed_out : ℕ
  pub given_back : ℕ
  pub faults : ℕ
