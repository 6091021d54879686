-- One lane more is given back.
use Rattle.std.proofs.Common.{◌≡◌, ◌⊎◌, ◌<◌, ◌≤◌, ℕ, true, false, IsTrue, List, [], ◌∷◌, ◌++◌, length, Option}
use Rattle.std.proofs.Common.{Some, None, IfSome, inl, inr, arith, refl, sym, subst, ◌∙◌}
use Rattle.std.specs.List.{slice_get}
use Rattle.kb_base.specs.Faults.{Rose}
use Rattle.kb_ports.specs.Notes.{Notes}
use Rattle.kb_disk.specs.Places.{SameLanes}
use Rattle.kb_disk.specs.Told.{DiskTold, VaultTold}
use Rattle.kb_lane.specs.Logs.{KeepsAll, StandsForLog}
use Rattle.kb_gateway.specs.declared.order.Asked.{Asked}
use Rattle.kb_lane.specs.Asking.{HaveAttempts, WasAskedOnce}
use Rattle.kb_lane.specs.Lanes.{LaneValue, machine_of, opened_of}
use Rattle.kb_folder.specs.Folders.{with_lanes}
use Rattle.kb_folder.specs.Openings.{AreBack, AskedOnceEach, HaveAttemptsEach}
use Rattle.kb_folder.specs.OneLane.{TakesBack}
use Rattle.kb_folder.proofs.Amongs.{not_among, not_among_fewer, not_place, apart, told_before}
use Rattle.kb_folder.proofs.Amongs.{told_elsewhere, told_more}
use Rattle.kb_folder.proofs.Places.{at_snoc, at_before, at_end, within, length_snoc}

-- none is back yet
pub none_back : {D G : Type 0} (disks : DiskTold D) (folder : List ℕ) (old : VaultTold D)
    (lanes : List (LaneValue D G))
    → lanes ≡ [] → AreBack disks folder old old lanes
none_back {D = D} {G = G} disks folder old lanes none =
    subst (AreBack disks folder old old) (sym none) (record {
      inside = λ this_folder this. sym (told_before old.is_out folder 0 false this_folder this
          (not_among folder 0 this_folder this (omega arith)));
      bytes = λ place lane is. absurd (cc);
      stand = λ place lane is. absurd (cc);
      others = λ this_folder this not_there. refl;
      durable = λ place lane is. absurd (cc);
      quiet = λ place lane is. absurd (cc);
      noted = λ place lane is. absurd (cc);
      others_back = λ this_folder this not_there. refl;
      files = λ name. refl;
      risen = λ place lane is. absurd (cc);
      stopped = λ place lane is. absurd (cc);
      calm = λ each. refl;
      rising = omega arith;
    })

rose_later : (old mid new : ℕ) → Rose old mid → mid ≤ new → Rose old new
rose_later old mid new rose later below =
    let risen : old < mid = rose (omega (arith, later, below)) in omega (arith, later, risen)

rose_before : (old mid new : ℕ) → old ≤ mid → Rose mid new → Rose old new
rose_before old mid new before rose below = let risen : mid < new = rose below in omega (arith, before, risen)

module _ {D G : Type 0} (disks : DiskTold D) (folder : List ℕ) (old mid new : VaultTold D)
    (lanes : List (LaneValue D G)) (so_far : AreBack disks folder old mid lanes) where
  -- the next one is still out
  pub next_out : old.is_out folder (length lanes) ≡ true → mid.is_out folder (length lanes) ≡ true
  next_out outside = so_far.inside folder (length lanes)
      ∙ told_before old.is_out folder (length lanes) false folder (length lanes)
      (not_among folder (length lanes) folder (length lanes) (omega arith)) ∙ outside

  module _ (lane : LaneValue D G) (takes : TakesBack disks folder (length lanes) mid new
      lane.log.journal.disk)
      (stands : IsTrue (disks.honest lane.log.journal.disk)
      → StandsForLog lane.log (disks.seen lane.log.journal.disk))
      (caused : lane.log.journal.stopped ≡ true → 0 < disks.fault_count lane.log.journal.disk)
      (durable : IsTrue (disks.honest lane.log.journal.disk) → lane.log.journal.stopped ≡ false
      → KeepsAll disks.images lane.log)
      (quiet : lane.log.journal.stopped ≡ false
      → disks.fault_count lane.log.journal.disk ≡ lane.log.faults) where
    -- an earlier lane has the bytes that it had
    earlier : (place : ℕ) → place < length lanes → new.lane_bytes folder place ≡ mid.lane_bytes folder place
    earlier place less = takes.others folder place
        ∙ told_elsewhere mid.lane_bytes folder (length lanes)
        (new.lane_bytes folder (length lanes)) folder place
        (apart folder (length lanes) folder place less)

    bytes_at : (place : ℕ) (item : LaneValue D G)
        → (slice_get lanes place ≡ Some item) ⊎ ((place ≡ length lanes) × (lane ≡ item))
        → IfSome (new.lane_bytes folder place) (λ bytes. bytes ≡ disks.seen item.log.journal.disk)
    bytes_at place item (inl there) =
        subst (λ (b : Option (List ℕ)). IfSome b (λ bytes. bytes ≡ disks.seen item.log.journal.disk))
        (sym (earlier place (within lanes place item there))) (so_far.bytes place item there)
    bytes_at place item (inr (end, same)) =
        subst (λ (n : ℕ). IfSome (new.lane_bytes folder n)
        (λ bytes. bytes ≡ disks.seen item.log.journal.disk)) (sym end)
        (subst
        (λ (l : LaneValue D G). IfSome (new.lane_bytes folder (length lanes))
        (λ bytes. bytes ≡ disks.seen l.log.journal.disk))
        same takes.bytes)

    stands_as_seen : (told : Option (List ℕ)) → IfSome told
        (λ bytes. bytes ≡ disks.seen lane.log.journal.disk)
        → StandsForLog lane.log (disks.seen lane.log.journal.disk) → IfSome told (StandsForLog lane.log)
    stands_as_seen None is stands = tt
    stands_as_seen (Some bytes) is stands = subst (StandsForLog lane.log) (sym is) stands

    stand_at : (place : ℕ) (item : LaneValue D G)
        → (slice_get lanes place ≡ Some item) ⊎ ((place ≡ length lanes) × (lane ≡ item))
        → IsTrue (disks.honest item.log.journal.disk) → IfSome (new.lane_bytes folder place)
        (StandsForLog item.log)
    stand_at place item (inl there) honest =
        subst (λ (b : Option (List ℕ)). IfSome b (StandsForLog item.log))
        (sym (earlier place (within lanes place item there))) (so_far.stand place item there honest)
    stand_at place item (inr (end, same)) honest =
        subst (λ (l : LaneValue D G). IfSome (new.lane_bytes folder place) (StandsForLog l.log)) same
        (subst (λ (n : ℕ). IfSome (new.lane_bytes folder n) (StandsForLog lane.log)) (sym end)
        (stands_as_seen (new.lane_bytes folder (length lanes)) takes.bytes
        (stands (subst (λ (l : LaneValue D G). IsTrue (disks.honest l.log.journal.disk)) (sym same) honest))))

    risen_at : (place : ℕ) (item : LaneValue D G)
        → (slice_get lanes place ≡ Some item) ⊎ ((place ≡ length lanes) × (lane ≡ item))
        → 0 < disks.fault_count item.log.journal.disk → Rose old.faults new.faults
    risen_at place item (inl there) failed =
        rose_later old.faults mid.faults new.faults (so_far.risen place item there failed) takes.rising
    risen_at place item (inr (end, same)) failed = rose_before old.faults mid.faults new.faults so_far.rising
        (takes.risen (subst (λ (l : LaneValue D G). 0 < disks.fault_count l.log.journal.disk)
        (sym same) failed))

    stopped_at : (place : ℕ) (item : LaneValue D G)
        → (slice_get lanes place ≡ Some item) ⊎ ((place ≡ length lanes) × (lane ≡ item))
        → item.log.journal.stopped ≡ true → Rose old.faults new.faults
    stopped_at place item (inl there) stopped =
        rose_later old.faults mid.faults new.faults (so_far.stopped place item there stopped) takes.rising
    stopped_at place item (inr (end, same)) stopped = rose_before old.faults mid.faults
        new.faults so_far.rising
        (takes.risen (caused (subst (λ (l : LaneValue D G). l.log.journal.stopped ≡ true)
        (sym same) stopped)))

    durable_at : (place : ℕ) (item : LaneValue D G)
        → (slice_get lanes place ≡ Some item) ⊎ ((place ≡ length lanes) × (lane ≡ item))
        → IsTrue (disks.honest item.log.journal.disk) → item.log.journal.stopped ≡ false
        → KeepsAll disks.images item.log
    durable_at place item (inl there) = so_far.durable place item there
    durable_at place item (inr (end, same)) =
        subst (λ (l : LaneValue D G). IsTrue (disks.honest l.log.journal.disk) → l.log.journal.stopped ≡ false
        → KeepsAll disks.images l.log) same durable

    quiet_at : (place : ℕ) (item : LaneValue D G)
        → (slice_get lanes place ≡ Some item) ⊎ ((place ≡ length lanes) × (lane ≡ item))
        → item.log.journal.stopped ≡ false → disks.fault_count item.log.journal.disk ≡ item.log.faults
    quiet_at place item (inl there) = so_far.quiet place item there
    quiet_at place item (inr (end, same)) =
        subst (λ (l : LaneValue D G). l.log.journal.stopped ≡ false
        → disks.fault_count l.log.journal.disk ≡ l.log.faults) same quiet

    noted_at : (place : ℕ) (item : LaneValue D G)
        → (slice_get lanes place ≡ Some item) ⊎ ((place ≡ length lanes) × (lane ≡ item))
        → Notes (old.came_back folder place) item.log.journal.disk (new.came_back folder place)
    noted_at place item (inl there) =
        subst (Notes (old.came_back folder place) item.log.journal.disk)
        (sym (takes.others_back folder place
        ∙ told_elsewhere mid.came_back folder (length lanes) (new.came_back folder (length lanes)) folder
        place
        (apart folder (length lanes) folder place (within lanes place item there))))
        (so_far.noted place item there)
    noted_at place item (inr (end, same)) =
        subst (λ (l : LaneValue D G). Notes (old.came_back folder place) l.log.journal.disk
        (new.came_back folder place)) same
        (subst (λ (n : ℕ). Notes (old.came_back folder n) lane.log.journal.disk (new.came_back folder n))
        (sym end)
        (subst (λ (before : Option (List D)). Notes before lane.log.journal.disk
        (new.came_back folder (length lanes)))
        (so_far.others_back folder (length lanes)
        (not_among folder (length lanes) folder (length lanes) (omega arith))) takes.noted))

    -- with it one more is back
    pub one_more_back : AreBack disks folder old new (lanes ++ lane ∷ [])
    one_more_back = record {
      inside = subst (λ (n : ℕ). SameLanes new.is_out (with_lanes old.is_out folder n false))
          (sym (length_snoc lanes lane))
          (told_more old.is_out mid.is_out new.is_out folder (length lanes) false so_far.inside takes.inside);
      bytes = λ place item is. bytes_at place item (at_snoc lanes lane place item is);
      stand = λ place item is. stand_at place item (at_snoc lanes lane place item is);
      others = λ this_folder this not_there.
          let longer = length_snoc lanes lane in
          takes.others this_folder this
          ∙ told_elsewhere mid.lane_bytes folder (length lanes) (new.lane_bytes folder (length lanes))
          this_folder this
          (not_place folder (length lanes) (length (lanes ++ lane ∷ [])) this_folder this
          (omega (arith, longer)) not_there)
          ∙ so_far.others this_folder this
          (not_among_fewer folder (length lanes) (length (lanes ++ lane ∷ [])) this_folder this
          (omega (arith, longer))
          not_there);
      durable = λ place item is. durable_at place item (at_snoc lanes lane place item is);
      quiet = λ place item is. quiet_at place item (at_snoc lanes lane place item is);
      noted = λ place item is. noted_at place item (at_snoc lanes lane place item is);
      others_back = λ this_folder this not_there.
          let longer = length_snoc lanes lane in
          takes.others_back this_folder this
          ∙ told_elsewhere mid.came_back folder (length lanes) (new.came_back folder (length lanes))
          this_folder this
          (not_place folder (length lanes) (length (lanes ++ lane ∷ [])) this_folder this
          (omega (arith, longer)) not_there)
          ∙ so_far.others_back this_folder this
          (not_among_fewer folder (length lanes) (length (lanes ++ lane ∷ [])) this_folder this
          (omega (arith, longer))
          not_there);
      files = λ name. takes.files name ∙ so_far.files name;
      risen = λ place item is. risen_at place item (at_snoc lanes lane place item is);
      stopped = λ place item is. stopped_at place item (at_snoc lanes lane place item is);
      calm = λ each.
          takes.calm (each (length lanes) lane (at_end lanes lane))
          ∙ so_far.calm (λ place item is. each place item (at_before lanes lane place item is));
      rising = let first = so_far.rising in let last = takes.rising in omega (arith, first, last);
    }

-- a gateway more was asked for no payment twice
pub asked_more : {D G : Type 0} (asked : G → Option (List Asked)) (lanes : List (LaneValue D G))
    (lane : LaneValue D G)
    → AskedOnceEach asked lanes → WasAskedOnce (opened_of lane) (asked lane.gateway) lane.own
    → AskedOnceEach asked (lanes ++ lane ∷ [])
asked_more asked lanes lane so_far once place item is = by_place (at_snoc lanes lane place item is)
  where
    by_place : (slice_get lanes place ≡ Some item) ⊎ ((place ≡ length lanes) × (lane ≡ item))
        → WasAskedOnce (opened_of item) (asked item.gateway) item.own
    by_place (inl there) = so_far place item there
    by_place (inr (end, same)) =
        subst (λ (l : LaneValue _ _). WasAskedOnce (opened_of l) (asked l.gateway) l.own) same once

-- the payments that a lane more asked for have attempts
pub attempts_more : {D G : Type 0} (lanes : List (LaneValue D G)) (lane : LaneValue D G)
    → HaveAttemptsEach lanes → HaveAttempts (machine_of lane) lane.own → HaveAttemptsEach (lanes ++ lane ∷ [])
attempts_more lanes lane so_far there place item is = by_place (at_snoc lanes lane place item is)
  where
    by_place : (slice_get lanes place ≡ Some item) ⊎ ((place ≡ length lanes) × (lane ≡ item))
        → HaveAttempts (machine_of item) item.own
    by_place (inl before) = so_far place item before
    by_place (inr (end, same)) = subst (λ (l : LaneValue _ _). HaveAttempts (machine_of l) l.own) same there
