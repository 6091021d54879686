-- Machines. A machine is fed inputs, one after another: lines, or requests. It is the relation of its
-- steps: in a state and to an input, it may say a text and go on in another state. It may choose.
use Rattle.std.specs.Prelude.{ℕ, ◌≡◌, List, [], ◌∷◌, ◌++◌}

-- A machine: what a step says and where it goes on, and what a step that a fault cut short may have said and
-- left.
pub record Machine (S I : Type 0) : Type 1 where
  pub step : S → I → List ℕ → S → Type 0
  pub cut : S → I → List ℕ → S → Type 0

-- from the first state the machine may answer these inputs, one after another, by this text, and then be in
-- the last state
abbrev pub IsRun : {S I : Type 0} → Machine S I → S → List I → List ℕ → S → Type 0
IsRun machine first [] text last = (text ≡ []) × (last ≡ first)
IsRun {S} machine first (input ∷ inputs) text last =
    (said : List ℕ) × (more : List ℕ) × (next : S)
    × machine.step first input said next × (text ≡ said ++ more) × IsRun machine next inputs more last

-- each whole step of the machine is determined by the state and the input
abbrev pub IsDetermined : {S I : Type 0} → Machine S I → Type 0
IsDetermined {S} {I} machine =
    (state : S) (input : I) (said found : List ℕ) (next other : S)
    → machine.step state input said next → machine.step state input found other → (said ≡ found)
    × (next ≡ other)
