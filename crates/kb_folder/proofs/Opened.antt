-- One lane more is open, or the next one isn't.
use Rattle.std.proofs.Common.{◌≡◌, ◌≢◌, ◌⊎◌, ◌<◌, ◌≤◌, ◌+◌, ℕ, true, false, Bool, List, [], ◌∷◌, ◌++◌, length}
use Rattle.std.proofs.Common.{Option, Some, None, IfSome, inl, inr, arith, refl, ap, sym, subst, ◌∙◌}
use Rattle.std.specs.List.{slice_get}
use Rattle.kb_base.specs.Faults.{Rose}
use Rattle.kb_disk.specs.Places.{is_among, is_place, SameLanes}
use Rattle.kb_disk.specs.Told.{DiskTold, VaultTold}
use Rattle.kb_journal.specs.Format.{StandsFor}
use Rattle.kb_journal.specs.Reading.{number_at}
use Rattle.kb_codec.specs.Entries.{History, payloads}
use Rattle.kb_machine.specs.Machines.{no_machine}
use Rattle.kb_machine.specs.Histories.{AreNewFrom}
use Rattle.kb_lane.specs.Lanes.{LaneValue}
use Rattle.kb_lane.specs.Loads.{IsNoLane}
use Rattle.kb_folder.specs.declared.unopened.Unopened.{Unopened}
use Rattle.kb_folder.specs.declared.unopened.Unopened.TheVariants as faults
use Rattle.kb_folder.specs.Folders.{with_lanes}
use Rattle.kb_folder.specs.OneLane.{ComesBackWhole, IsOpened, TellsNoOther, TakesOut, IsLeftIn, IsLaneCause}
use Rattle.kb_folder.specs.OneLane.{IsLaneOf}
use Rattle.kb_folder.specs.Openings.{AreOpened, TellsOtherLanes, IsCause, IsLaneBeside, IsFirstOfThem}
use Rattle.kb_folder.specs.Private.AllLanes.{AddsLane, HasStopped}
use Rattle.kb_folder.proofs.Amongs.{apart, not_among, not_among_fewer, not_place, one_place, told_at, told_before}
use Rattle.kb_folder.proofs.Amongs.{told_elsewhere, told_more}
use Rattle.kb_folder.proofs.GivenBack.{reads_them, same_tells}
use Rattle.kb_folder.proofs.LeftIn.{tells_lanes}
use Rattle.kb_folder.proofs.Places.{at_snoc, length_snoc, some_at}

-- no lane is open yet
pub none_open : {D G : Type 0} (disks : DiskTold D) (folder : List ℕ) (count : ℕ) (old : VaultTold D)
    (lanes : List (LaneValue D G)) → lanes ≡ [] → AreOpened disks folder count old old lanes
none_open {D = D} {G = G} disks folder count old lanes none =
    subst (AreOpened disks folder count old old) (sym none) (record {
      each = λ place lane is. absurd (cc);
      out = λ this_folder this. sym (told_before old.is_out folder 0 true this_folder this
          (not_among folder 0 this_folder this (omega arith)));
      bytes = λ this_folder this. sym (told_before old.lane_bytes folder 0 None this_folder this
          (not_among folder 0 this_folder this (omega arith)));
      came_back = λ this_folder this. refl;
      files = λ name. refl;
      calm = refl;
    })

module _ {D G : Type 0} (disks : DiskTold D) (folder : List ℕ) (count : ℕ) (old mid new : VaultTold D)
    (lanes : List (LaneValue D G)) (so_far : AreOpened disks folder count old mid lanes) where
  -- the next lane is as it was at first
  next_bytes : mid.lane_bytes folder (length lanes) ≡ old.lane_bytes folder (length lanes)
  next_bytes = so_far.bytes folder (length lanes)
      ∙ told_before old.lane_bytes folder (length lanes) None folder (length lanes)
      (not_among folder (length lanes) folder (length lanes) (omega arith))

  snoc : (lane : LaneValue D G) → TakesOut disks folder count (length lanes) mid new lane
      → AreOpened disks folder count old new (lanes ++ lane ∷ [])
  snoc lane takes = record {
    each = λ place item is. by_place place item (at_snoc lanes lane place item is);
    out = subst (λ (n : ℕ). SameLanes new.is_out (with_lanes old.is_out folder n true))
        (sym (length_snoc lanes lane))
        (told_more old.is_out mid.is_out new.is_out folder (length lanes) true so_far.out takes.out);
    bytes = subst (λ (n : ℕ). SameLanes new.lane_bytes (with_lanes old.lane_bytes folder n None))
        (sym (length_snoc lanes lane))
        (told_more old.lane_bytes mid.lane_bytes new.lane_bytes folder (length lanes) None
        so_far.bytes takes.bytes);
    came_back = λ this_folder this. takes.came_back this_folder this ∙ so_far.came_back this_folder this;
    files = λ name. takes.files name ∙ so_far.files name;
    calm = takes.calm ∙ so_far.calm;
  }
    where
      by_place : (place : ℕ) (item : LaneValue D G)
          → (slice_get lanes place ≡ Some item) ⊎ ((place ≡ length lanes) × (lane ≡ item))
          → IsOpened disks count place (old.lane_bytes folder place) item
      by_place place item (inl there) = so_far.each place item there
      by_place place item (inr (end, same)) =
          subst (λ (l : LaneValue D G). IsOpened disks count place (old.lane_bytes folder place) l) same
          (subst (λ (n : ℕ). IsOpened disks count n (old.lane_bytes folder n) lane) (sym end)
          (subst (λ (b : Option (List ℕ)). IsOpened disks count (length lanes) b lane) next_bytes
          takes.opened))

  -- one lane more is open
  pub one_more_open : (more : List (LaneValue D G)) → AddsLane disks folder count mid new lanes more
      → AreOpened disks folder count old new more
  one_more_open more adds = subst (AreOpened disks folder count old new) (sym adds.1) (snoc adds.0 adds.2)

  pub one_longer : (more : List (LaneValue D G)) → AddsLane disks folder count mid new lanes more
      → length more ≡ length lanes + 1
  one_longer more adds = ap (λ (l : List (LaneValue D G)). length l) adds.1 ∙ length_snoc lanes adds.0

  -- what is told of a lane that isn't open is no other than at first
  tells : IsLeftIn disks folder (length lanes) mid new → (this_folder : List ℕ) (this : ℕ)
      → is_among folder (length lanes) this_folder this ≡ false
      → TellsNoOther (old.lane_bytes this_folder this) (new.lane_bytes this_folder this)
  tells left this_folder this not_there = by_place (is_place folder (length lanes) this_folder this) refl
    where
      same : mid.lane_bytes this_folder this ≡ old.lane_bytes this_folder this
      same = so_far.bytes this_folder this ∙ told_before old.lane_bytes folder (length lanes) None this_folder
          this not_there

      by_place : (here : Bool) → is_place folder (length lanes) this_folder this ≡ here
          → TellsNoOther (old.lane_bytes this_folder this) (new.lane_bytes this_folder this)
      by_place true here =
          subst (λ (b : Option (List ℕ)). TellsNoOther b (new.lane_bytes this_folder this))
          (told_at mid.lane_bytes folder (length lanes) this_folder this here ∙ same)
          (subst (TellsNoOther (mid.lane_bytes folder (length lanes)))
          (told_at new.lane_bytes folder (length lanes) this_folder this here) left.bytes)
      by_place false here = same_tells _ _ (left.others this_folder this
          ∙ told_elsewhere mid.lane_bytes folder (length lanes) (new.lane_bytes folder (length lanes))
          this_folder this here
          ∙ same)

  -- the disk of the next one came back unharmed, and no other
  comes_back : IsLeftIn disks folder (length lanes) mid new → (this_folder : List ℕ) (this : ℕ)
      → ComesBackWhole disks (old.lane_bytes this_folder this) (old.came_back this_folder this)
      (new.came_back this_folder this)
  comes_back left this_folder this = by_place (is_place folder (length lanes) this_folder this) refl
    where
      Back : List ℕ → ℕ → Type 0
      Back f n = ComesBackWhole disks (old.lane_bytes f n) (old.came_back f n) (new.came_back f n)

      here : Back folder (length lanes)
      here = subst (λ (before : Option (List D)). ComesBackWhole disks (old.lane_bytes folder (length lanes))
          before (new.came_back folder (length lanes))) (so_far.came_back folder (length lanes))
          (subst (λ (b : Option (List ℕ)). ComesBackWhole disks b (mid.came_back folder (length lanes))
          (new.came_back folder (length lanes))) next_bytes left.back)

      by_place : (same : Bool) → is_place folder (length lanes) this_folder this ≡ same → Back this_folder
          this
      by_place true is =
          let at = one_place folder (length lanes) this_folder this is in
          subst (λ (f : List ℕ). Back f this) at.0 (subst (λ (n : ℕ). Back folder n) at.1 here)
      by_place false is = inl (left.others_back this_folder this
          ∙ told_elsewhere mid.came_back folder (length lanes) (new.came_back folder (length lanes))
          this_folder this is
          ∙ so_far.came_back this_folder this)

  -- the next one can't be opened
  pub stopped_next : length lanes < 64 → IsLeftIn disks folder (length lanes) mid new
      → HasStopped disks folder old new lanes
  stopped_next few left = record {
    few = few;
    out = λ this_folder this. left.out this_folder this ∙ so_far.out this_folder this;
    others = tells left;
    outside = λ this_folder this not_there.
        left.others this_folder this
        ∙ told_elsewhere mid.lane_bytes folder (length lanes) (new.lane_bytes folder (length lanes))
        this_folder this
        (not_place folder (length lanes) 64 this_folder this few not_there)
        ∙ so_far.bytes this_folder this
        ∙ told_before old.lane_bytes folder (length lanes) None this_folder this
        (not_among_fewer folder (length lanes) 64 this_folder this (omega (arith, few)) not_there);
    back = comes_back left;
    not_back = λ place inside. left.others_back folder place
        ∙ told_elsewhere mid.came_back folder (length lanes) (new.came_back folder (length lanes)) folder
        place
        (apart folder (length lanes) folder place inside)
        ∙ so_far.came_back folder place;
    unharmed = λ place lane is. (so_far.each place lane is).unharmed;
    files = λ name. left.files name ∙ so_far.files name;
    rising = subst (λ (before : ℕ). before ≤ new.faults) so_far.calm left.rising;
    calm = λ place lane is. (so_far.each place lane is).calm;
    seen = λ place lane is. reads_them disks.honest disks.seen disks.images lane.log.journal.disk
        (old.lane_bytes folder place) (so_far.each place lane is).bytes;
  }

  -- the header of lane 0 tells the number of lanes
  pub first_tells : count ≤ 64 → 0 < length lanes → IfSome (old.lane_bytes folder 0)
      (λ first. number_at 8 first ≡ count)
  first_tells few some =
      let first = some_at lanes 0 some in
      by_told first.0 (old.lane_bytes folder 0) (so_far.each 0 first.0 first.1).stands
    where
      by_told : (lane : LaneValue D G) (told : Option (List ℕ))
          → IfSome told (StandsFor count 0 (payloads lane.log.history))
          → IfSome told (λ first. number_at 8 first ≡ count)
      by_told lane None stands = tt
      by_told lane (Some bytes) stands = tells_lanes count 0 (payloads lane.log.history) bytes few stands

  -- each lane that is open is one, of as many as lane 0 tells
  stand_before : count ≤ 64 → (place : ℕ) → place < length lanes
      → IfSome (old.lane_bytes folder place) (IsLaneBeside (old.lane_bytes folder 0) place)
  stand_before few place inside =
      let lane = some_at lanes place inside in
      let opened = so_far.each place lane.0 lane.1 in
      by_told lane.0.log.history (old.lane_bytes folder place) (first_tells few (omega (arith, inside)))
      opened.stands opened.fresh
    where
      by_told : (history : History) (told : Option (List ℕ))
          → IfSome (old.lane_bytes folder 0) (λ first. number_at 8 first ≡ count)
          → IfSome told (StandsFor count place (payloads history)) → AreNewFrom no_machine history
          → IfSome told (IsLaneBeside (old.lane_bytes folder 0) place)
      by_told history None first stands fresh = tt
      by_told history (Some bytes) first stands fresh = (count, (history, stands, fresh), first)

  -- so the one that is told is the first that can't be opened
  pub first_of_next : (market_mid market_new : ℕ) (fault : Unopened) → count ≤ 64
      → IsLaneCause count (length lanes) (mid.lane_bytes folder (length lanes)) mid.faults new.faults
      market_mid market_new fault
      → IsFirstOfThem folder old fault
  first_of_next market_mid market_new faults.Disk few cause = tt
  first_of_next market_mid market_new faults.NoMemory few cause = tt
  first_of_next market_mid market_new (faults.Journal lane at) few cause =
      λ place before. stand_before few place (subst (λ (n : ℕ). place < n) cause.0 before)
  first_of_next market_mid market_new faults.Market few cause = tt

  told_lanes : (first told : Option (List ℕ)) (number at : ℕ)
      → IfSome first (λ bytes. number_at 8 bytes ≡ count)
      → IfSome told (λ bytes. IsNoLane number bytes at
      ⊎ ((at ≡ 8) × (number_at 8 bytes ≢ count) × IsLaneOf (number_at 8 bytes) number bytes))
      → IfSome told (λ bytes. IsNoLane number bytes at
      ⊎ ((at ≡ 8) × TellsOtherLanes first bytes × IsLaneOf (number_at 8 bytes) number bytes))
  told_lanes first None number at is shows = tt
  told_lanes first (Some bytes) number at is (inl shows) = inl shows
  told_lanes None (Some bytes) number at is (inr shows) = inr (shows.0, tt, shows.2)
  told_lanes (Some first) (Some bytes) number at is (inr shows) =
      inr (shows.0, (λ same. shows.1 (same ∙ is)), shows.2)

  -- its cause is the cause of all
  pub cause_of_next : (market_old market_mid market_new : ℕ) (fault : Unopened) → market_mid ≡ market_old
      → IfSome (old.lane_bytes folder 0) (λ first. number_at 8 first ≡ count)
      → IsLaneCause count (length lanes) (mid.lane_bytes folder (length lanes)) mid.faults new.faults
      market_mid market_new fault
      → IsCause folder old new market_old market_new fault
  cause_of_next market_old market_mid market_new faults.Disk market first cause =
      (subst (λ (n : ℕ). Rose n new.faults) so_far.calm cause.0, cause.1 ∙ market)
  cause_of_next market_old market_mid market_new faults.NoMemory market first cause =
      (cause.0 ∙ so_far.calm, cause.1 ∙ market)
  cause_of_next market_old market_mid market_new (faults.Journal lane at) market first cause = (
    subst
        (λ (l : ℕ). IfSome (old.lane_bytes folder l) (λ bytes. IsNoLane l bytes at
        ⊎ ((at ≡ 8) × TellsOtherLanes (old.lane_bytes folder 0) bytes
        × IsLaneOf (number_at 8 bytes) l bytes))) (sym cause.0)
        (told_lanes (old.lane_bytes folder 0) (old.lane_bytes folder (length lanes)) (length lanes) at first
        (subst
        (λ (b : Option (List ℕ)). IfSome b (λ bytes. IsNoLane (length lanes) bytes at
        ⊎ ((at ≡ 8) × (number_at 8 bytes ≢ count)
        × IsLaneOf (number_at 8 bytes) (length lanes) bytes))) next_bytes cause.1)),
    cause.2 ∙ so_far.calm,
    cause.3 ∙ market,
  )
  cause_of_next market_old market_mid market_new faults.Market market first cause =
      (cause.0 ∙ so_far.calm, subst (λ (n : ℕ). Rose n market_new) market cause.1)

-- how many lanes the header of the first tells
abbrev pub lanes_in : Option (List ℕ) → ℕ
lanes_in None = 0
lanes_in (Some first) = number_at 8 first

pub lanes_told : (first : Option (List ℕ)) → IfSome first (λ bytes. number_at 8 bytes ≡ lanes_in first)
lanes_told None = tt
lanes_told (Some first) = refl
