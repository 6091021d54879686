-- What a gateway over a link does at a call.
use Rattle.std.specs.Prelude.{ℕ, ◌≡◌, ◌≢◌, ◌≤◌, Bool, false, List, ◌++◌, length, Option, None, Some, codes}
use Rattle.std.specs.Prelude.{refl}
use Rattle.kb_base.specs.Stream.{Reads, Writes}
use Rattle.kb_gateway.specs.declared.order.Order.{Order}
use Rattle.kb_gateway.specs.GatewayLines.{line}
use Rattle.kb_gateway.specs.Told.{GatewayTold}

-- A gateway over a link: the link, whether the exchanges over it have ended, since one has failed, and how
-- many calls have failed.
pub record LineValue (L : Type 0) : Type 0 where
  pub link : L
  pub ended : Bool
  pub faults : ℕ

-- this link, before any call
abbrev pub new_value : {L : Type 0} → L → LineValue L
new_value link = record { link = link; ended = false; faults = 0 }

-- it tells neither what it was asked nor what it heard
abbrev pub orders_untold : Option (List Order)
orders_untold = None

abbrev pub line_told : {L : Type 0} → GatewayTold (LineValue L)
line_told = record {
  asked = λ gateway. orders_untold;
  said = λ gateway. None;
  faults = λ gateway. gateway.faults;
  cancels = λ gateway. false;
}

-- the most bytes of a line that answers, with its line feed
abbrev pub max_answer : ℕ
max_answer = 10

of_processed : length (line (codes "PROCESSED")) ≡ max_answer
of_processed = refl

-- a first part of a text was written, and perhaps all of it
abbrev pub WritesPart : Option (List ℕ) → Option (List ℕ) → List ℕ → Type 0
WritesPart old new text = Writes old new (λ part. (rest : List ℕ) × (part ++ rest ≡ text))

-- no more was read than a line that answers may have
abbrev pub ReadsFew : Option (List ℕ) → Option (List ℕ) → Type 0
ReadsFew old new = Reads old new (λ bytes. length bytes ≤ max_answer)

-- what a link gives, where it tells that, doesn't begin with the line of any answer
abbrev pub HasNoAnswer : {A : Type 0} → (A → List ℕ) → Option (List ℕ) → Type 0
HasNoAnswer {A} line_of left = (answer : A) (rest : List ℕ) → left ≢ Some (line_of answer ++ rest)
