-- What contracts see of a pass.
use Rattle.std.specs.Prelude.{List, Bool, true, false}
use Rattle.atomic_table.specs.Seated.{TableId}

-- the name of a lock, which no other has
abbrev pub LockId : Type 0
LockId = TableId

-- which lock it is for, what it saw of the history, and whether it has the turn
pub record Known (E : Type 0) : Type 0 where
  pub lock : TableId
  pub seen : List E
  pub has_turn : Bool

-- a pass without a turn
abbrev pub idle : {E : Type 0} → TableId → List E → Known E
idle lock seen = record { lock = lock; seen = seen; has_turn = false }

-- a pass with the turn
abbrev pub at_turn : {E : Type 0} → TableId → List E → Known E
at_turn lock seen = record { lock = lock; seen = seen; has_turn = true }
