-- Moments of a disk: what a crash at some moment since a given one may have left, within a call or between
-- two.
use Rattle.std.specs.Prelude.{ℕ, ◌≤◌, ◌⊎◌, List}

-- Time goes on by a call, which leaves these images: a crash since a moment may have left what it may have
-- left before the call, or one of them.
pub record Elapses (old new : ℕ) (before after : ℕ → List ℕ → Type 0)
    (images : List ℕ → Type 0) : Type 0 where
  pub later : old ≤ new
  pub nothing_else : (time : ℕ) (image : List ℕ) → time ≤ old → after time image
      → before time image ⊎ images image
  pub keeps : (time : ℕ) (image : List ℕ) → time ≤ old → before time image → after time image

-- At each moment from one state of a disk to a later one a crash leaves an image of which this holds. The
-- last line says the same of what was left since an earlier moment, so that runs of calls can be joined.
pub record AtEachMoment {D : Type 0} (moment : D → ℕ) (left_since : D → ℕ → List ℕ → Type 0) (old new : D)
    (P : List ℕ → Type 0) : Type 0 where
  pub later : moment old ≤ moment new
  pub each : (image : List ℕ) → left_since new (moment old) image → P image
  pub before : (time : ℕ) (image : List ℕ) → time ≤ moment old → left_since new time image
      → left_since old time image ⊎ P image
