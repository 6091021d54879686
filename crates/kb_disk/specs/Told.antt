-- What disks and vaults tell.
use Rattle.std.specs.Prelude.{ℕ, Bool, List, Option}

-- What is told of disks: whether reads give what was written, what they give, and what a crash may leave; the
-- moment, and what a crash since one may have left; and how many calls have failed.
pub record DiskTold (D : Type 0) : Type 1 where
  pub honest : D → Bool
  pub seen : D → List ℕ
  pub images : D → List ℕ → Type 0
  pub moment : D → ℕ
  pub left_since : D → ℕ → List ℕ → Type 0
  pub fault_count : D → ℕ

-- What is told of a vault: which lanes are out; the bytes of a lane, none of one that is out; the disks of a
-- lane that came back, in order, each as it was then; the bytes of a text; and how many calls have failed.
pub record VaultTold (D : Type 0) : Type 0 where
  pub is_out : List ℕ → ℕ → Bool
  pub lane_bytes : List ℕ → ℕ → Option (List ℕ)
  pub came_back : List ℕ → ℕ → Option (List D)
  pub file_bytes : List ℕ → Option (List ℕ)
  pub faults : ℕ
