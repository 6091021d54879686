-- What a pass knows at each stage.
use Rattle.std.specs.Prelude.{ℕ, List, []}
use Rattle.kb_lock.specs.declared.table.View.{View}
use Rattle.kb_lock.specs.declared.table.Stage.TheVariants.{Rests, Waits, Holds, Told}

module _ {E : Type 0} where
  abbrev pub rests : List E → View E
  rests seen = record { stage = Rests; ticket = 0; seen = seen; note = [] }

  -- and it has a note of what another saw
  abbrev pub noting : List E → List E → View E
  noting seen note = record { stage = Rests; ticket = 0; seen = seen; note = note }

  abbrev pub waits : ℕ → List E → View E
  waits ticket seen = record { stage = Waits; ticket = ticket; seen = seen; note = [] }

  abbrev pub holds : ℕ → List E → View E
  holds ticket seen = record { stage = Holds; ticket = ticket; seen = seen; note = [] }

  abbrev pub told : ℕ → List E → View E
  told ticket seen = record { stage = Told; ticket = ticket; seen = seen; note = [] }
