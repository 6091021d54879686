-- What a door hands out and gets back.
use Rattle.std.specs.Prelude.{◌≡◌, ℕ, ◌+◌, ⊤, List, [], ◌∷◌, ◌++◌, Option, None, Some, Result, Ok, Err}

-- a list of links, where it is told, gets one more at its end
abbrev pub Gets : {L : Type 0} → Option (List L) → Option (List L) → L → Type 0
Gets None new link = ⊤
Gets (Some old) None link = ⊥
Gets (Some old) (Some new) link = new ≡ old ++ link ∷ []

-- a list of links, where it is told, stays as it is
abbrev pub Stays : {L : Type 0} → Option (List L) → Option (List L) → Type 0
Stays None new = ⊤
Stays (Some old) None = ⊥
Stays (Some old) (Some new) = new ≡ old

-- what a door hands out is noted: the link of an Ok, and nothing of an Err
abbrev pub HandsOut : {L E : Type 0} → Option (List L) → Option (List L) → Result L E → Type 0
HandsOut old new (Ok link) = Gets old new link
HandsOut old new (Err failed) = Stays old new

-- a count of links after a call that hands one out, or fails
abbrev pub count_after : {L E : Type 0} → ℕ → Result L E → ℕ
count_after count (Ok link) = count + 1
count_after count (Err failed) = count

-- A door in memory: the links that wait, those that were handed out and given back, each as it was then, the
-- calls that fail, the calls so far, and how many failed.
pub record DoorValue (L : Type 0) : Type 0 where
  pub waiting : List L
  pub handed_out : List L
  pub given_back : List L
  pub failing : List ℕ
  pub calls : ℕ
  pub faults : ℕ

-- these links wait, before any call
abbrev pub new_door : {L : Type 0} → List L → List ℕ → DoorValue L
new_door links failing = record {
  waiting = links;
  handed_out = [];
  given_back = [];
  failing = failing;
  calls = 0;
  faults = 0;
}
