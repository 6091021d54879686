-- Payments that are to be looked up, one after another.
use Rattle.std.specs.Prelude.{ℕ, ◌≡◌, not, true, List, [], ◌∷◌, ◌++◌, filter, if◌then◌else◌, All, Option}
use Rattle.std.specs.Prelude.{Some, None}
use Rattle.std.specs.List.{list_any}
use Rattle.kb_payment.specs.declared.attempt.Attempt.{Attempt}
use Rattle.kb_payment.specs.Attempts.{is_open}
use Rattle.kb_gateway.specs.declared.order.Asked.{Asked}
use Rattle.kb_machine.specs.Machines.{MachineValue, book_of}
use Rattle.kb_lane.specs.Asking.{asked_for, asks_in, attempt_asked, AreApart}
use Rattle.kb_lane.specs.Lanes.{LaneValue, machine_of}
use Rattle.kb_lane.specs.LookingUp.{open_in, is_ask}

-- an attempt is there, and open
abbrev pub IsOpen : Option Attempt → Type 0
IsOpen None = ⊥
IsOpen (Some attempt) = is_open attempt.status ≡ true

-- a payment is none of those that an outbox is yet to ask for
abbrev pub IsBeside : List Asked → Asked → Type 0
IsBeside waiting one = All (λ (other : Asked). other ≡ one → ⊥) waiting

-- those of an account are open, and none is among them twice
abbrev pub AreOpenIn : MachineValue → List ℕ → Type 0
AreOpenIn machine account = All (λ (one : Asked). IsOpen (attempt_asked machine one))
    (open_in account (book_of machine account))
    × AreApart (open_in account (book_of machine account))

-- what holds of payments that are to be looked up
pub record AreToLookUp {D G : Type 0} (lane : LaneValue D G) (payments : List Asked) : Type 0 where
  pub opened : All (λ (one : Asked). IsOpen (attempt_asked (machine_of lane) one)) payments
  pub apart : AreApart payments
  pub beside : All (IsBeside (asks_in lane.outbox)) payments

-- a payment, unless an outbox is yet to ask for it
abbrev pub left_one : {D G : Type 0} → LaneValue D G → Asked → List Asked
left_one lane one = if list_any (is_ask one) lane.outbox then [] else one ∷ []

-- the payments of an account under some keys, but for those that an outbox is yet to ask for
abbrev pub left_of : {D G : Type 0} → LaneValue D G → List ℕ → List (List ℕ) → List Asked
left_of lane account [] = []
left_of lane account (key ∷ later) = left_one lane (asked_for (account, key)) ++ left_of lane account later

-- those of an account that are open
abbrev pub left_in : {D G : Type 0} → LaneValue D G → List ℕ → List Asked
left_in lane account = filter (λ one. not (list_any (is_ask one) lane.outbox))
    (open_in account (book_of (machine_of lane) account))

-- and those of some accounts
abbrev pub left_each : {D G : Type 0} → LaneValue D G → List (List ℕ) → List Asked
left_each lane [] = []
left_each lane (account ∷ later) = left_in lane account ++ left_each lane later
