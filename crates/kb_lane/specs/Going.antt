-- How a log goes on over a run of steps.
use Rattle.std.specs.Prelude.{ℕ, ◌≡◌, ◌⊎◌, ◌++◌, Bool, true, false, IsTrue, List, length}
use Rattle.kb_disk.specs.Moments.{AtEachMoment}
use Rattle.kb_codec.specs.Entries.{History}
use Rattle.kb_lane.specs.Logs.{LogValue}
use Rattle.kb_lane.specs.Lanes.{IsPast, StandsWithin}

-- a history goes on from another
abbrev pub GoesOn : History → History → Type 0
GoesOn old new = (more : History) × (new ≡ old ++ more)

-- `StandsWithin` of a run in which no append failed: no image stands for more than the later history.
abbrev pub StandsPast : {D : Type 0} → (D → Bool) → (D → ℕ) → (D → ℕ → List ℕ → Type 0) → LogValue D
    → LogValue D → Type 0
StandsPast honest moment left_since old new = old.journal.stopped ≡ false
    → IsTrue (honest old.journal.disk)
    → (new.journal.disk ≡ old.journal.disk)
    ⊎ AtEachMoment moment left_since old.journal.disk new.journal.disk (IsPast (length old.history) new)

-- What each step does to a log, and so each run of steps: the history goes on; each image stands for what
-- it may, and for no more than the later history if no append failed; and a log that has stopped stays as
-- it is.
pub record GoesWell {D : Type 0} (honest : D → Bool) (moment : D → ℕ) (left_since : D → ℕ → List ℕ → Type 0)
    (old new : LogValue D) : Type 0 where
  pub further : GoesOn old.history new.history
  pub within : StandsWithin honest moment left_since old new
  pub past : new.journal.stopped ≡ false → StandsPast honest moment left_since old new
  pub still : old.journal.stopped ≡ true → new ≡ old
