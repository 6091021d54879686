-- How the file of a lane is found and changed.
use Rattle.std.proofs.Common.{◌≡◌, ℕ, zero, suc, ◌<◌, ◌≤◌, Bool, true, false, T, List, [], ◌∷◌, ◌++◌, length}
use Rattle.std.proofs.Common.{Option, None, Some, set, get_or, refl, ap, sym, subst, arith, ◌∙◌}
use Rattle.std.specs.Option.{is_none, unwrap_or}
use Rattle.std.specs.List.{find, position, position_or_len}
use Rattle.std.proofs.lemmas.Grind.{common_steps}
use Rattle.std.proofs.lemmas.List.Quantifiers.{position-Some}
use Rattle.std.proofs.lemmas.List.Sums.{fails_before_first}
use Rattle.kb_disk.specs.Places.{is_place}
use Rattle.kb_disk.specs.VaultMemory.{LaneValue, empty_file, is_out, with_file}

module _ (folder : List ℕ) (lane : ℕ) where
  -- whether a file is that of the lane
  abbrev is_of : LaneValue → Bool
  is_of file = is_place file.folder file.lane folder lane

  -- the first file of the lane is changed
  first : (change : LaneValue → LaneValue) (lanes : List LaneValue) (place : ℕ) (file : LaneValue)
      → place < length lanes → is_of (get_or lanes place file) ≡ true
      → ((k : ℕ) → k < place → is_of (get_or lanes k file) ≡ false)
      → with_file lanes folder lane change ≡ set lanes place (change (get_or lanes place file))
  first change [] place file inside is before = absurd (omega (arith, inside))
  first change (one ∷ lanes) zero file inside is before = rw is refl
  first change (one ∷ lanes) (suc place) file inside is before =
      rw (before 0 (omega arith))
      (ap (λ rest. one ∷ rest)
      (first change lanes place file (omega (arith, inside)) is
      (λ k lt. before (suc k) (omega (arith, lt)))))

  -- where there is none, a file is added
  added : (change : LaneValue → LaneValue) (lanes : List LaneValue) (file : LaneValue)
      → ((k : ℕ) → k < length lanes → is_of (get_or lanes k file) ≡ false)
      → with_file lanes folder lane change ≡ lanes ++ change (empty_file folder lane) ∷ []
  added change [] file none = refl
  added change (one ∷ lanes) file none =
      rw (none 0 (omega arith))
      (ap (λ rest. one ∷ rest) (added change lanes file (λ k lt. none (suc k) (omega (arith, lt)))))

  -- where there is none, the first place is past the last
  past : (lanes : List LaneValue) → position is_of lanes ≡ None → length lanes ≤ position_or_len is_of lanes
  past lanes none = grind (arith, common_steps, none)

  not_found : (lanes : List LaneValue) → length lanes ≤ position_or_len is_of lanes
      → find is_of lanes ≡ None
  not_found [] past = refl
  not_found (file ∷ lanes) past = grind (arith, common_steps, past, not_found lanes)

  pub with_file-found : (change : LaneValue → LaneValue) (lanes : List LaneValue) (place : ℕ)
      (file : LaneValue) → position is_of lanes ≡ Some place
      → with_file lanes folder lane change ≡ set lanes place (change (get_or lanes place file))
  with_file-found change lanes place file at =
      let is = position-Some is_of lanes place file at in
      first change lanes place file is.0 is.1 is.2

  pub with_file-new : (change : LaneValue → LaneValue) (lanes : List LaneValue) → position is_of lanes ≡ None
      → with_file lanes folder lane change ≡ lanes ++ change (empty_file folder lane) ∷ []
  with_file-new change lanes none =
      let beyond = past lanes none in
      added change lanes (empty_file folder lane)
      (λ k lt. fails_before_first is_of lanes k (empty_file folder lane) (omega (arith, beyond, lt)))

  -- a lane without a file isn't out
  pub not_out : (lanes : List LaneValue) → position is_of lanes ≡ None → is_out lanes folder lane ≡ true → ⊥
  not_out lanes none out =
      let inside : is_out lanes folder lane ≡ false =
      ap (λ (file : Option LaneValue). is_none (unwrap_or file (empty_file folder lane)).bytes)
      (not_found lanes (past lanes none)) in
      subst T (sym (sym inside ∙ out)) tt
