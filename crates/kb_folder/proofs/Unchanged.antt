-- Lanes that were opened, and given back with nothing done on them, leave the folder as it was.
use Rattle.std.proofs.Common.{◌≡◌, ◌≤◌, ℕ, true, false, Bool, List, length, Option, inl, inr, arith, refl}
use Rattle.std.proofs.Common.{subst, ◌∙◌}
use Rattle.kb_ports.specs.Notes.{Notes}
use Rattle.kb_lane.specs.Lanes.{LaneValue}
use Rattle.kb_disk.specs.Places.{is_among}
use Rattle.kb_disk.specs.Told.{DiskTold, VaultTold}
use Rattle.kb_folder.specs.OneLane.{ComesBackWhole, TellsNoOther}
use Rattle.kb_folder.specs.Openings.{AreOpened, AreBack, IsAsBefore}
use Rattle.kb_folder.proofs.Amongs.{of_folder, not_among_fewer}
use Rattle.kb_folder.proofs.Closing.{as_out_as_before, others_as_before}
use Rattle.kb_folder.proofs.GivenBack.{reads_them, same_tells, tells_no_other}
use Rattle.kb_folder.proofs.Places.{some_at}

module _ {D G : Type 0} (disks : DiskTold D) (folder : List ℕ) (count : ℕ) (old mid new : VaultTold D)
    (lanes : List (LaneValue D G)) (opened : AreOpened disks folder count old mid lanes)
    (back : AreBack disks folder mid new lanes) where
  -- no call has failed
  pub uncounted : new.faults ≡ old.faults
  uncounted = back.calm (λ place lane is. (opened.each place lane is).calm) ∙ opened.calm

  bytes : (this_folder : List ℕ) (this : ℕ)
      → TellsNoOther (old.lane_bytes this_folder this) (new.lane_bytes this_folder this)
  bytes this_folder this = by_test (is_among folder (length lanes) this_folder this) refl
    where
      by_test : (there : Bool) → is_among folder (length lanes) this_folder this ≡ there
          → TellsNoOther (old.lane_bytes this_folder this) (new.lane_bytes this_folder this)
      by_test true there =
          let at = of_folder folder (length lanes) this_folder this there in
          let lane = some_at lanes this at.1 in
          subst (λ (f : List ℕ). TellsNoOther (old.lane_bytes f this) (new.lane_bytes f this)) at.0
          (tells_no_other (old.lane_bytes folder this) (new.lane_bytes folder this)
          (disks.seen lane.0.log.journal.disk)
          (reads_them disks.honest disks.seen disks.images lane.0.log.journal.disk
          (old.lane_bytes folder this)
          (opened.each this lane.0 lane.1).bytes) (back.bytes this lane.0 lane.1))
      by_test false there = same_tells _ _
          (others_as_before disks folder count old mid new lanes lanes opened back refl
          this_folder this there)

  -- their disks came back unharmed
  comes_back : (this_folder : List ℕ) (this : ℕ) → ComesBackWhole disks (old.lane_bytes this_folder this)
      (old.came_back this_folder this) (new.came_back this_folder this)
  comes_back this_folder this = by_test (is_among folder (length lanes) this_folder this) refl
    where
      Back : List ℕ → Type 0
      Back f = ComesBackWhole disks (old.lane_bytes f this) (old.came_back f this) (new.came_back f this)

      by_test : (there : Bool) → is_among folder (length lanes) this_folder this ≡ there → Back this_folder
      by_test true there =
          let at = of_folder folder (length lanes) this_folder this there in
          let lane = some_at lanes this at.1 in
          subst Back at.0 (inr (
            lane.0.log.journal.disk,
            subst (λ (before : Option (List D)). Notes before lane.0.log.journal.disk
                (new.came_back folder this)) (opened.came_back folder this) (back.noted this lane.0 lane.1),
            (opened.each this lane.0 lane.1).unharmed,
          ))
      by_test false there = inl (back.others_back this_folder this there ∙ opened.came_back this_folder this)

  pub unchanged : length lanes ≤ 64 → ((lane : ℕ) → old.is_out folder lane ≡ false)
      → IsAsBefore disks folder old new
  unchanged few inside = record {
    out = as_out_as_before disks folder count old mid new lanes lanes opened back refl inside;
    bytes = bytes;
    others = λ this_folder this not_there.
        others_as_before disks folder count old mid new lanes lanes opened back refl this_folder this
        (not_among_fewer folder (length lanes) 64 this_folder this few not_there);
    back = comes_back;
    files = λ name. back.files name ∙ opened.files name;
    rising = let calm = uncounted in omega (arith, calm);
  }
