-- Lanes that were opened, and that are given back later: which are out, and what is told of them.
use Rattle.std.proofs.Common.{◌≡◌, ◌<◌, ℕ, true, false, Bool, List, length, None, refl, sym, subst, ◌∙◌}
use Rattle.kb_disk.specs.Places.{is_among, SameLanes}
use Rattle.kb_disk.specs.Told.{DiskTold, VaultTold}
use Rattle.kb_lane.specs.Lanes.{LaneValue}
use Rattle.kb_folder.specs.Openings.{AreOpened, AreBack}
use Rattle.kb_folder.proofs.Amongs.{among, of_folder, told_before, told_now}

-- lanes that are open are out
pub are_out : {D G : Type 0} (disks : DiskTold D) (folder : List ℕ) (count : ℕ) (old mid : VaultTold D)
    (lanes : List (LaneValue D G)) → AreOpened disks folder count old mid lanes
    → (place : ℕ) → place < length lanes → mid.is_out folder place ≡ true
are_out disks folder count old mid lanes opened place inside =
    opened.out folder place
    ∙ told_now old.is_out folder (length lanes) true folder place (among folder (length lanes) place inside)

module _ {D G : Type 0} (disks : DiskTold D) (folder : List ℕ) (count : ℕ) (old mid new : VaultTold D)
    (first last : List (LaneValue D G)) (opened : AreOpened disks folder count old mid first)
    (back : AreBack disks folder mid new last) (all : length last ≡ length first) where
  same_test : (this_folder : List ℕ) (this : ℕ) (there : Bool)
      → is_among folder (length last) this_folder this ≡ there
      → is_among folder (length first) this_folder this ≡ there
  same_test this_folder this there is = subst (λ (n : ℕ). is_among folder n this_folder this ≡ there) all is

  -- once as many are given back, the same lanes are out as before they were opened
  pub as_out_as_before : ((lane : ℕ) → old.is_out folder lane ≡ false) → SameLanes new.is_out old.is_out
  as_out_as_before inside this_folder this = by_test (is_among folder (length last) this_folder this) refl
    where
      by_test : (there : Bool) → is_among folder (length last) this_folder this ≡ there
          → new.is_out this_folder this ≡ old.is_out this_folder this
      by_test true there = back.inside this_folder this
          ∙ told_now mid.is_out folder (length last) false this_folder this there
          ∙ subst (λ (f : List ℕ). false ≡ old.is_out f this)
          (of_folder folder (length last) this_folder this there).0 (sym (inside this))
      by_test false there = back.inside this_folder this
          ∙ told_before mid.is_out folder (length last) false this_folder this there
          ∙ opened.out this_folder this
          ∙ told_before old.is_out folder (length first) true this_folder this
          (same_test this_folder this false there)

  -- and the other lanes have their bytes
  pub others_as_before : (this_folder : List ℕ) (this : ℕ)
      → is_among folder (length last) this_folder this ≡ false
      → new.lane_bytes this_folder this ≡ old.lane_bytes this_folder this
  others_as_before this_folder this there =
      back.others this_folder this there
      ∙ opened.bytes this_folder this
      ∙ told_before old.lane_bytes folder (length first) None this_folder this
      (same_test this_folder this false there)
