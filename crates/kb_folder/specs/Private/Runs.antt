-- What a run over the lanes of a folder leaves, by what it answers.
use Rattle.std.specs.Prelude.{ℕ, ◌≡◌, ◌<◌, ◌+◌, false, List, Option, Result, Ok, Err}
use Rattle.kb_disk.specs.Places.{is_place}
use Rattle.kb_folder.specs.declared.unfounded.Unfounded.{Unfounded}
use Rattle.kb_folder.specs.declared.unfounded.Unfounded.TheVariants as faults
use Rattle.kb_folder.specs.Foundings.{Bytes, IsFounded, IsLeft, IsUnharmed, FoundsFirst, FailsAtOne}
use Rattle.kb_folder.specs.Foundings.{StopsBeforeOne}

-- of all lanes but one the same is told
abbrev pub SameElsewhere : {A : Type 0} → List ℕ → ℕ → (List ℕ → ℕ → A) → (List ℕ → ℕ → A) → Type 0
SameElsewhere folder lane old new = (this_folder : List ℕ) (this : ℕ)
    → is_place folder lane this_folder this ≡ false
    → new this_folder this ≡ old this_folder this

-- what becomes of one lane
abbrev pub FoundsOne : ℕ → ℕ → List (List ℕ) → Option (List ℕ) → Option (List ℕ) → Result (Unit {0}) Unfounded
    → Type 0
FoundsOne lanes lane records old new (Ok done) = IsFounded lanes lane records old new
FoundsOne lanes lane records old new (Err (faults.NotEmpty at)) = (at ≡ lane) × IsLeft old new
FoundsOne lanes lane records old new (Err faults.NoMemory) = new ≡ old
FoundsOne lanes lane records old new (Err faults.Disk) = IsUnharmed lanes lane records old new
FoundsOne lanes lane records old new (Err (faults.Text fault)) = ⊥

-- What becomes of all: each is made; or those up to one that wasn't empty; or those up to one for which
-- memory ran out; or those up to one whose disk failed, which isn't harmed.
abbrev pub Founds : List ℕ → ℕ → List (List ℕ) → Bytes → Bytes → Result (Unit {0}) Unfounded → Type 0
Founds folder lanes records old new (Ok done) = FoundsFirst folder lanes lanes lanes records old new
Founds folder lanes records old new (Err (faults.NotEmpty lane)) = (lane < lanes)
    × FoundsFirst folder lanes lane (lane + 1) records old new × IsLeft (old folder lane) (new folder lane)
Founds folder lanes records old new (Err faults.NoMemory) = StopsBeforeOne folder lanes records old new
Founds folder lanes records old new (Err faults.Disk) = FailsAtOne folder lanes records old new
Founds folder lanes records old new (Err (faults.Text fault)) = ⊥
