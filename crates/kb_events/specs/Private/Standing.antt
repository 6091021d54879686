-- How the billing flag stands on a day.
use Rattle.std.specs.Prelude.{ℕ, ◌≡◌, ◌<◌, ◌≤◌, ◌⊎◌, ◌↔◌, Bool, true, false, List, Contains}
use Rattle.kb_days.specs.Calendar.{first_day}
use Rattle.kb_blocking.specs.declared.state.BlockState.{BlockState}
use Rattle.kb_blocking.specs.declared.state.Chain.{Chain}
use Rattle.kb_blocking.specs.declared.state.Flag.TheVariants.{Billing}
use Rattle.kb_blocking.specs.Blocking.{is_on, turns}

-- these are the days on which the billing flag turns
abbrev pub AreTurns : List BlockState → Chain → List ℕ → Type 0
AreTurns states chain turning = (day : ℕ) → Contains turning day ↔ (turns states chain Billing day ≡ true)

-- on a day the flag is on or not, and no later day than one turned it by then; where none did, that one is
-- the first day that may be charged
pub record IsStanding (states : List BlockState) (chain : Chain) (day : ℕ) (blocked : Bool) (turn : ℕ) : Type
    0 where
  pub on : is_on states chain Billing day ≡ blocked
  pub past : turn ≤ day
  pub turned : (turn ≡ first_day) ⊎ (turns states chain Billing turn ≡ true)
  pub quiet : (other : ℕ) → turn < other → other ≤ day → turns states chain Billing other ≡ false

-- the flag turns on no day between two
abbrev pub KeepsFlag : List BlockState → Chain → ℕ → ℕ → Type 0
KeepsFlag states chain from to = (day : ℕ) → from < day → day < to → turns states chain Billing day ≡ false
