-- Which lanes are out when one is added or struck.
use Rattle.std.proofs.Common.{◌≡◌, ℕ, Bool, true, false, ◌||◌, cond, List, [], ◌∷◌, ◌++◌, refl}
use Rattle.kb_disk.specs.Places.{is_place, with_lane}
use Rattle.kb_disk.proofs.Places.{same_place, apart}
use Rattle.kb_system.specs.Folders.{PlaceValue, is_among, without}

module _ (folder : List ℕ) (lane : ℕ) (this_folder : List ℕ) (this : ℕ) where
  abbrev own : Bool
  own = is_place folder lane this_folder this

  first_added : (same : Bool) → same || false ≡ cond same true false
  first_added true = refl
  first_added false = refl

  later_added : (here same : Bool) (new old : Bool) → new ≡ cond same true old
      → (here || new) ≡ cond same true (here || old)
  later_added true true new old is = refl
  later_added true false new old is = refl
  later_added false same new old is = is

  -- the lane that is added is out, and so is what was
  pub among_added : (places : List PlaceValue)
      → is_among (places ++ record { folder = folder; lane = lane } ∷ []) this_folder this
      ≡ with_lane (is_among places) folder lane true this_folder this
  among_added [] = first_added own
  among_added (place ∷ places) =
      later_added (is_place place.folder place.lane this_folder this) own
      (is_among (places ++ record { folder = folder; lane = lane } ∷ []) this_folder this)
      (is_among places this_folder this) (among_added places)

  none_struck : (same : Bool) → false ≡ cond same false false
  none_struck true = refl
  none_struck false = refl

  gone : (same new old : Bool) → new ≡ cond same false old → new ≡ cond same false (same || old)
  gone true new old is = is
  gone false new old is = is

  stays : (here same new old : Bool) → (here ≡ true → same ≡ false) → new ≡ cond same false old
      → (here || new) ≡ cond same false (here || old)
  stays true same new old other is = rw (other refl) refl
  stays false same new old other is = is

  one_struck : (here : Bool) (place : PlaceValue) (places : List PlaceValue)
      → is_place place.folder place.lane folder lane ≡ here
      → is_among (without places folder lane) this_folder this
      ≡ with_lane (is_among places) folder lane false this_folder this
      → is_among (without (place ∷ places) folder lane) this_folder this
      ≡ with_lane (is_among (place ∷ places)) folder lane false this_folder this
  one_struck true place places is later = rw is
      (rw (same_place place.folder place.lane folder lane this_folder this is)
      (gone own (is_among (without places folder lane) this_folder this)
      (is_among places this_folder this) later))
  one_struck false place places is later = rw is
      (stays (is_place place.folder place.lane this_folder this) own
      (is_among (without places folder lane) this_folder this) (is_among places this_folder this)
      (apart place.folder place.lane folder lane this_folder this is) later)

  -- the lane that is struck isn't out, and the others are as before
  pub among_struck : (places : List PlaceValue)
      → is_among (without places folder lane) this_folder this
      ≡ with_lane (is_among places) folder lane false this_folder this
  among_struck [] = none_struck own
  among_struck (place ∷ places) =
      one_struck (is_place place.folder place.lane folder lane) place places refl (among_struck places)
