-- No lane is out of the vault after a run of the program, if none was before.
use Rattle.std.proofs.Common.{◌≡◌, ◌∙◌, ℕ, Bool, false, List}
use Rattle.kb_disk.specs.Places.{SameLanes}

-- the same lanes are out as before, so if none was, none is
pub still_inside : (old new : List ℕ → ℕ → Bool) → SameLanes new old
    → ((folder : List ℕ) (lane : ℕ) → old folder lane ≡ false) → (folder : List ℕ) (lane : ℕ)
    → new folder lane ≡ false
still_inside old new same before folder lane = same folder lane ∙ before folder lane
