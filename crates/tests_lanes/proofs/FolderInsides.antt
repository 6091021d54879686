-- Lanes that are in their vault.
use Rattle.std.proofs.Common.{◌≡◌, ℕ, Bool, true, false, cond, List, [], ◌∷◌, Some, None, refl}
use Rattle.std.specs.Option.{is_none, unwrap_or}
use Rattle.kb_disk.specs.Places.{is_place}
use Rattle.kb_disk.specs.VaultMemory.{LaneValue, empty_file, is_out}

-- no lane is out of two files that have bytes
pub two_inside : (one other : LaneValue) (folder : List ℕ) (lane : ℕ) → is_none one.bytes ≡ false
    → is_none other.bytes ≡ false → is_out (one ∷ other ∷ []) folder lane ≡ false
two_inside one other folder lane first second =
    by_test (is_place one.folder one.lane folder lane) (is_place other.folder other.lane folder lane)
  where
    by_test : (here there : Bool)
        → is_none ((unwrap_or (cond here (Some one) (cond there (Some other) None))
        (empty_file folder lane)).bytes) ≡ false
    by_test true there = first
    by_test false true = second
    by_test false false = refl
