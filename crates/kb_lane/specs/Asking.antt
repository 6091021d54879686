-- What a lane asked of its gateway, and what it is yet to ask.
use Rattle.std.specs.Prelude.{ℕ, ◌≡◌, List, [], ◌∷◌, ◌++◌, All, IsSome, Option, None, Some, codes, refl}
use Rattle.std.specs.List.{AllPairs}
use Rattle.kb_payment.specs.declared.attempt.Attempt.{Attempt}
use Rattle.kb_payment.specs.declared.attempt.Status.TheVariants.{Unknown}
use Rattle.kb_gateway.specs.declared.order.Asked.{Asked}
use Rattle.kb_machine.specs.Machines.{MachineValue}
use Rattle.kb_histories.specs.Attempts.{attempt_at}
use Rattle.kb_lane.specs.declared.work.Work.{Work}
use Rattle.kb_lane.specs.declared.work.Work.TheVariants.{Ask, Check}

-- a payment that was asked for: of an account, by its key
abbrev pub asked_for : List ℕ × List ℕ → Asked
asked_for (account, key) = record { account = account; key = key }

-- the payments that an outbox is yet to ask for, from the front
abbrev pub asks_in : List Work → List Asked
asks_in [] = []
asks_in (Ask account key ∷ later) = record { account = account; key = key } ∷ asks_in later
asks_in (Check account ∷ later) = asks_in later

one_of_two : asks_in (Check (codes "a1") ∷ Ask (codes "a1") (codes "p1") ∷ [])
    ≡ record { account = codes "a1"; key = codes "p1" } ∷ []
one_of_two = refl

-- no two of them are the same
abbrev pub AreApart : List Asked → Type 0
AreApart asked = AllPairs (λ (one other : Asked). one ≡ other → ⊥) asked

-- the attempt of a payment that was asked for
abbrev pub attempt_asked : MachineValue → Asked → Option Attempt
attempt_asked machine asked = attempt_at machine asked.account asked.key

-- each of them has an attempt
abbrev pub HaveAttempts : MachineValue → List Asked → Type 0
HaveAttempts machine asked = All (λ (one : Asked). IsSome (attempt_asked machine one)) asked

-- an attempt of which nothing is known
abbrev pub IsBegun : Option Attempt → Type 0
IsBegun None = ⊥
IsBegun (Some attempt) = attempt.status ≡ Unknown

-- A lane that led from one machine to a later one asked for these payments on the way, and is yet to ask for
-- those that are left: no payment is among them twice, each has an attempt, of those that are left nothing is
-- known, and none had an attempt on the first machine, whose attempts are all still there.
pub record AsksOnce (first later : MachineValue) (own left : List Asked) : Type 0 where
  pub apart : AreApart (own ++ left)
  pub asked : HaveAttempts later own
  pub waiting : All (λ (one : Asked). IsBegun (attempt_asked later one)) left
  pub since : All (λ (one : Asked). attempt_asked first one ≡ None) (own ++ left)
  pub stay : (one : Asked) → IsSome (attempt_asked first one) → IsSome (attempt_asked later one)

-- what a gateway was asked, where it tells it, ends with these
abbrev pub EndsWith : Option (List Asked) → List Asked → Type 0
EndsWith asked own = (all : List Asked) → asked ≡ Some all → (before : List Asked) × (all ≡ before ++ own)

-- A gateway that tells what it was asked was asked for no payment twice, if what it had been asked before
-- these was asked once each, for attempts of the first machine.
abbrev pub WasAskedOnce : MachineValue → Option (List Asked) → List Asked → Type 0
WasAskedOnce first asked own = (all before : List Asked) → asked ≡ Some all → all ≡ before ++ own
    → AreApart before → HaveAttempts first before → AreApart all
