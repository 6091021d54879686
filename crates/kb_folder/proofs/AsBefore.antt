-- Where not all lanes can be opened, the folder is as it was.
use Rattle.std.proofs.Common.{◌≡◌, ◌<◌, ℕ, true, false, Bool, List, length, Option, inr, arith, refl, sym}
use Rattle.std.proofs.Common.{subst, ◌∙◌}
use Rattle.kb_base.specs.Faults.{Rose}
use Rattle.kb_ports.specs.Notes.{Notes}
use Rattle.kb_lane.specs.Lanes.{LaneValue}
use Rattle.kb_folder.specs.declared.unopened.Unopened.{Unopened}
use Rattle.kb_folder.specs.declared.unopened.Unopened.TheVariants as faults
use Rattle.kb_disk.specs.Places.{is_among}
use Rattle.kb_disk.specs.Told.{DiskTold, VaultTold}
use Rattle.kb_folder.specs.OneLane.{ComesBackWhole, TellsNoOther}
use Rattle.kb_folder.specs.Openings.{AreBack, IsAsBefore, IsCause}
use Rattle.kb_folder.specs.Private.AllLanes.{HasStopped}
use Rattle.kb_folder.proofs.Amongs.{among, of_folder, not_among_fewer, told_before, told_now}
use Rattle.kb_folder.proofs.GivenBack.{tells_no_other}
use Rattle.kb_folder.proofs.Places.{some_at}

module _ {D G : Type 0} (disks : DiskTold D) (folder : List ℕ) (old mid new : VaultTold D)
    (lanes : List (LaneValue D G)) (stopped : HasStopped disks folder old mid lanes) where
  -- the lanes that are open are out
  pub are_out : (place : ℕ) → place < length lanes → mid.is_out folder place ≡ true
  are_out place inside = stopped.out folder place
      ∙ told_now old.is_out folder (length lanes) true folder place (among folder (length lanes) place inside)

  module _ (back : AreBack disks folder mid new lanes) where
    out : ((lane : ℕ) → old.is_out folder lane ≡ false) → (this_folder : List ℕ) (this : ℕ)
        → new.is_out this_folder this ≡ old.is_out this_folder this
    out inside this_folder this = by_test (is_among folder (length lanes) this_folder this) refl
      where
        by_test : (there : Bool) → is_among folder (length lanes) this_folder this ≡ there
            → new.is_out this_folder this ≡ old.is_out this_folder this
        by_test true there = back.inside this_folder this
            ∙ told_now mid.is_out folder (length lanes) false this_folder this there
            ∙ subst (λ (f : List ℕ). false ≡ old.is_out f this)
            (of_folder folder (length lanes) this_folder this there).0 (sym (inside this))
        by_test false there = back.inside this_folder this
            ∙ told_before mid.is_out folder (length lanes) false this_folder this there
            ∙ stopped.out this_folder this
            ∙ told_before old.is_out folder (length lanes) true this_folder this there

    bytes : (this_folder : List ℕ) (this : ℕ)
        → TellsNoOther (old.lane_bytes this_folder this) (new.lane_bytes this_folder this)
    bytes this_folder this = by_test (is_among folder (length lanes) this_folder this) refl
      where
        by_test : (there : Bool) → is_among folder (length lanes) this_folder this ≡ there
            → TellsNoOther (old.lane_bytes this_folder this) (new.lane_bytes this_folder this)
        by_test true there =
            let at = of_folder folder (length lanes) this_folder this there in
            let lane = some_at lanes this at.1 in
            subst (λ (f : List ℕ). TellsNoOther (old.lane_bytes f this) (new.lane_bytes f this)) at.0
            (tells_no_other (old.lane_bytes folder this) (new.lane_bytes folder this)
            (disks.seen lane.0.log.journal.disk)
            (stopped.seen this lane.0 lane.1) (back.bytes this lane.0 lane.1))
        by_test false there =
            subst (TellsNoOther (old.lane_bytes this_folder this)) (sym (back.others this_folder this there))
            (stopped.others this_folder this there)

    -- the disks of all came back unharmed
    comes_back : (this_folder : List ℕ) (this : ℕ) → ComesBackWhole disks (old.lane_bytes this_folder this)
        (old.came_back this_folder this) (new.came_back this_folder this)
    comes_back this_folder this = by_test (is_among folder (length lanes) this_folder this) refl
      where
        Back : List ℕ → Type 0
        Back f = ComesBackWhole disks (old.lane_bytes f this) (old.came_back f this) (new.came_back f this)

        by_test : (there : Bool) → is_among folder (length lanes) this_folder this ≡ there → Back this_folder
        by_test true there =
            let at = of_folder folder (length lanes) this_folder this there in
            let lane = some_at lanes this at.1 in
            subst Back at.0 (inr (
              lane.0.log.journal.disk,
              subst (λ (before : Option (List D)). Notes before lane.0.log.journal.disk
                  (new.came_back folder this)) (stopped.not_back this at.1) (back.noted this lane.0 lane.1),
              stopped.unharmed this lane.0 lane.1,
            ))
        by_test false there = subst
            (ComesBackWhole disks (old.lane_bytes this_folder this) (old.came_back this_folder this))
            (sym (back.others_back this_folder this there)) (stopped.back this_folder this)

    pub as_before : ((lane : ℕ) → old.is_out folder lane ≡ false) → IsAsBefore disks folder old new
    as_before inside = record {
      out = out inside;
      bytes = bytes;
      others = λ this_folder this not_there.
          let few = stopped.few in
          back.others this_folder this
          (not_among_fewer folder (length lanes) 64 this_folder this (omega (arith, few)) not_there)
          ∙ stopped.outside this_folder this not_there;
      back = comes_back;
      files = λ name. back.files name ∙ stopped.files name;
      rising = let first = stopped.rising in let last = back.rising in omega (arith, first, last);
    }

    -- the cause is still one
    pub cause_still : (market_old market_new : ℕ) (fault : Unopened)
        → IsCause folder old mid market_old market_new fault
        → IsCause folder old new market_old market_new fault
    cause_still market_old market_new faults.Disk cause =
        (subst (λ (n : ℕ). Rose old.faults n) (sym (back.calm stopped.calm)) cause.0, cause.1)
    cause_still market_old market_new faults.NoMemory cause = (back.calm stopped.calm ∙ cause.0, cause.1)
    cause_still market_old market_new (faults.Journal lane at) cause =
        (cause.0, back.calm stopped.calm ∙ cause.1, cause.2)
    cause_still market_old market_new faults.Market cause = (back.calm stopped.calm ∙ cause.0, cause.1)
