-- No lane is out of a vault whose files have their bytes.
use Rattle.std.proofs.Common.{◌≡◌, ℕ, Bool, true, false, cond, List, [], ◌∷◌, Option, None, Some, refl, ap}
use Rattle.std.proofs.Common.{◌∙◌}
use Rattle.std.specs.Option.{is_none, unwrap_or}
use Rattle.std.specs.List.{find}
use Rattle.kb_disk.specs.Places.{is_place}
use Rattle.kb_disk.specs.VaultMemory.{LaneValue, VaultValue, empty_file, is_out}
use Rattle.tests_lanes.specs.Insides.{AllInside}

module _ (folder : List ℕ) (lane : ℕ) where
  -- whether the lane is out, by the file that is found
  abbrev is_out_of : Option LaneValue → Bool
  is_out_of file = is_none ((unwrap_or file (empty_file folder lane)).bytes)

  -- the file of the lane comes first, or another one does
  in-first : (same : Bool) (file : LaneValue) (bytes : List ℕ) (rest : Option LaneValue)
      → file.bytes ≡ Some bytes
      → is_out_of rest ≡ false → is_out_of (cond same (Some file) rest) ≡ false
  in-first true file bytes rest is later = ap is_none is
  in-first false file bytes rest is later = later

  in-one : (file : LaneValue) (bytes : List ℕ) → file.bytes ≡ Some bytes
      → is_out (file ∷ []) folder lane ≡ false
  in-one file bytes is = in-first (is_place file.folder file.lane folder lane) file bytes None is refl

  in-two : (first second : LaneValue) (bytes later : List ℕ) → first.bytes ≡ Some bytes
      → second.bytes ≡ Some later
      → is_out (first ∷ second ∷ []) folder lane ≡ false
  in-two first second bytes later is behind = in-first (is_place first.folder first.lane folder lane) first
      bytes
      (find (λ file. is_place file.folder file.lane folder lane) (second ∷ [])) is
      (in-one second later behind)

-- no lane is out of a vault of one file
pub one_inside : (vault : VaultValue) (file : LaneValue) (bytes : List ℕ) → vault.lanes ≡ file ∷ []
    → file.bytes ≡ Some bytes → AllInside vault
one_inside vault file bytes are is folder lane =
    ap (λ (lanes : List LaneValue). is_out lanes folder lane) are ∙ in-one folder lane file bytes is

-- and none out of a vault of two
pub two_inside : (vault : VaultValue) (first second : LaneValue) (bytes later : List ℕ)
    → vault.lanes ≡ first ∷ second ∷ [] → first.bytes ≡ Some bytes → second.bytes ≡ Some later
    → AllInside vault
two_inside vault first second bytes later are is behind folder lane =
    ap (λ (lanes : List LaneValue). is_out lanes folder lane) are
    ∙ in-two folder lane first second bytes later is behind
