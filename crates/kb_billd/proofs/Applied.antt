-- A run over lines of lanes that were opened and are given back.
use Rattle.std.proofs.Common.{◌≡◌, ℕ, suc, ◌≤◌, Bool, true, false, IsTrue, List, [], ◌∷◌, ◌++◌, length, map}
use Rattle.std.proofs.Common.{Option, None, Some, IfSome, Result, Err, arith, refl, sym, ap, subst, ◌∙◌}
use Rattle.std.specs.List.{slice_get}
use Rattle.kb_base.specs.Faults.{Rose}
use Rattle.kb_disk.specs.Vaults.{Opens}
use Rattle.kb_disk.specs.Told.{VaultTold}
use Rattle.kb_gateway.specs.Answers.{asked_of}
use Rattle.kb_gateway.specs.declared.order.Asked.{Asked}
use Rattle.kb_gateway.specs.declared.order.Order.{Order}
use Rattle.kb_gateway.specs.Told.{GatewayTold, MarketTold, payments_asked, payments_in}
use Rattle.kb_lane.specs.Asking.{AreApart, HaveAttempts}
use Rattle.kb_lane.specs.Logs.{HasNoRoom, StandsForLog}
use Rattle.kb_histories.proofs.BilledNow.{replays_are_billed_now}
use Rattle.kb_histories.proofs.EvenNow.{replays_are_even_now}
use Rattle.kb_histories.specs.OnlyAdded.{BooksGoOn}
use Rattle.kb_histories.proofs.AddUp.{replays_add_up}
use Rattle.kb_histories.proofs.OnlyAdded.{histories_only_add}
use Rattle.kb_histories.proofs.Shown.{replays_are_shown}
use Rattle.kb_codec.specs.Entries.{History}
use Rattle.kb_machine.specs.Histories.{replay}
use Rattle.kb_lane.specs.Lanes.{LaneValue, machine_of}
use Rattle.kb_runs.specs.Reading.{Known}
use Rattle.kb_runs.specs.declared.stop.Stop.{Stop}
use Rattle.kb_runs.specs.declared.stop.Stop.TheVariants as stops
use Rattle.kb_apply.specs.Applying.{Applies}
use Rattle.kb_desk.specs.Stops.{any_stopped}
use Rattle.kb_desk.specs.Continuing.{Continues, ContinueAll}
use Rattle.kb_apply.specs.LaneRuns.{LanesValue, Outside, lanes_machine}
use Rattle.kb_apply.proofs.AskedOn.{AsksOn, run_asks_on}
use Rattle.kb_apply.proofs.Continuing.{run_continues}
use Rattle.kb_apply.proofs.Filled.{run_fills}
use Rattle.kb_apply.proofs.Found.{found_beside, none_stopped}
use Rattle.kb_apply.proofs.RunsAlike.{runs_are_determined}
use Rattle.kb_ports.specs.Notes.{Notes}
use Rattle.kb_folder.specs.OneLane.{IsOpened}
use Rattle.kb_folder.specs.Openings.{AreOpened, AreServed, AreUnasked}
use Rattle.kb_folder.proofs.Closing.{as_out_as_before, others_as_before}
use Rattle.kb_billd.specs.Runs.{LeavesPrefix, RunsLanes}
use Rattle.kb_billd.proofs.Prefixes.{prefix_left}
use Rattle.kb_billd.specs.Private.OpenRuns.{RunsOpen}

-- a place with a lane that has stopped
abbrev HasStopped : {D G : Type 0} → List (LaneValue D G) → Type 0
HasStopped lanes = (place : ℕ) × (lane : LaneValue _ _) × (slice_get lanes place ≡ Some lane)
    × (lane.log.journal.stopped ≡ true)

stopped_among : {D G : Type 0} (lane : LaneValue D G) (later : List (LaneValue D G)) (stopped : Bool)
    → lane.log.journal.stopped ≡ stopped → any_stopped (lane ∷ later) ≡ true
    → (any_stopped later ≡ true → HasStopped later) → HasStopped (lane ∷ later)
stopped_among lane later true first is found = (0, lane, refl, first)
stopped_among lane later false first is found =
    let there = found (rw first at is) in (suc there.0, there.1, there.2, there.3)

stopped_at : {D G : Type 0} (lanes : List (LaneValue D G)) → any_stopped lanes ≡ true → HasStopped lanes
stopped_at [] is = absurd (cc)
stopped_at (lane ∷ later) is =
    stopped_among lane later lane.log.journal.stopped refl is (λ rest. stopped_at later rest)

-- lanes are begun with as they are made
pub begun_is : {D G C : Type 0} (made : LanesValue D G C) (lanes : List (LaneValue D G)) (clock : C)
    → made.lanes ≡ lanes → made.clock ≡ clock → made.full ≡ false
    → made ≡ record { lanes = lanes; clock = clock; full = false }
begun_is {D} {G} {C} made lanes clock are is none =
    let one : made ≡ record { lanes = made.lanes; clock = made.clock; full = false }
    = subst (λ full. made ≡ record { lanes = made.lanes; clock = made.clock; full = full }) none refl in
    let two : made ≡ record { lanes = made.lanes; clock = clock; full = false }
    = subst (λ time. made ≡ record { lanes = made.lanes; clock = time; full = false }) is one in
    subst (λ all. made ≡ record { lanes = all; clock = clock; full = false }) are two

the_same : {D G : Type 0} (one other : LaneValue D G) → Some one ≡ Some other → one ≡ other
the_same one other same = cc

-- a gateway that was asked nothing when its lane was opened was asked since then what the lane asked for
since_opened : {D G : Type 0} (gateways : GatewayTold G) (first last : LaneValue D G) → AsksOn gateways first last
    → first.own ≡ [] → IfSome (gateways.asked first.gateway) (λ asked. asked ≡ [])
    → IfSome (payments_asked gateways last.gateway) (λ all. all ≡ last.own)
since_opened {D} {G} gateways first last asks unasked none =
    by_told (payments_asked gateways last.gateway) refl
  where
    by_first : (orders : Option (List Order)) (some : List Asked)
        → IfSome orders (λ asked. asked ≡ []) → payments_in orders ≡ Some some → some ≡ []
    by_first None some none is = absurd (cc)
    by_first (Some orders) some none is = by_none orders some none (cc)
      where
        by_none : (orders : List Order) (some : List Asked) → orders ≡ [] → map asked_of orders ≡ some
            → some ≡ []
        by_none [] some none is = sym is
        by_none (order ∷ later) some none is = absurd (cc)

    by_told : (told : Option (List Asked)) → payments_asked gateways last.gateway ≡ told
        → IfSome told (λ all. all ≡ last.own)
    by_told None is = tt
    by_told (Some all) is =
        let before = asks.told all is in
        let none_before = by_first (gateways.asked first.gateway) before.0 none before.1 in
        let all_more : all ≡ asks.more = before.2 ∙ ap (λ some. some ++ asks.more) none_before in
        let own_more : last.own ≡ asks.more = asks.own ∙ ap (λ some. some ++ asks.more) unasked in
        all_more ∙ sym own_more

module _ {D G C : Type 0} (outside : Outside D G C) (begun : LanesValue D G C)
    (left left_after written written_after : Known) where
  -- there are as many lanes as before
  pub as_many : (last : LanesValue D G C) (outcome : Result (Unit {0}) Stop)
      → Applies (lanes_machine outside) begun left left_after written written_after last outcome
      → length last.lanes ≡ length begun.lanes
  as_many last outcome ran =
      (run_continues outside begun last left left_after written written_after outcome ran).count

module _ {D G C : Type 0} (outside : Outside D G C) (folder : List ℕ) (clock : C)
    (old mid new : VaultTold D) (market market_mid market_after : MarketTold G)
    (left left_after written written_after : Known) (first : List (LaneValue D G)) where
  abbrev begun : LanesValue D G C
  begun = record { lanes = first; clock = clock; full = false }

  module _ (opened : AreOpened outside.disks folder (length first) old mid first)
      (outcome : Result (Unit {0}) Stop)
      (run : RunsOpen outside folder first clock mid new market_mid market_after left left_after written
      written_after outcome)
    where
      abbrev Goes : LaneValue D G → LaneValue D G → Type 0
      Goes = Continues outside.disks.honest outside.disks.moment outside.disks.left_since
          outside.disks.fault_count

      on : ContinueAll Goes first run.last.lanes
      on = run_continues outside begun run.last left left_after written written_after outcome run.ran

      -- the lane from which one went on
      was : (place : ℕ) (lane : LaneValue D G) → slice_get run.last.lanes place ≡ Some lane
          → (one : LaneValue D G) × (slice_get first place ≡ Some one) × Goes one lane
      was place lane is =
          let one = found_beside run.last.lanes first place lane is on.count in
          let next = on.each place one.0 one.1 in
          (one.0, one.1, subst (Goes one.0) (the_same next.0 lane (sym next.1 ∙ is)) next.2)

      -- its gateway was asked for what the lane asked for since it was opened
      asked : AreUnasked outside.gateways first → (place : ℕ) (lane : LaneValue D G)
          → slice_get run.last.lanes place ≡ Some lane
          → IfSome (payments_asked outside.gateways lane.gateway) (λ all. all ≡ lane.own)
      asked unasked place lane is =
          let one = was place lane is in
          let asks = run_asks_on outside begun run.last left left_after written written_after outcome run.ran in
          let next = asks.each place one.0 one.1 in
          since_opened outside.gateways one.0 lane
          (subst (AsksOn outside.gateways one.0) (the_same next.0 lane (sym next.1 ∙ is)) next.2)
          (opened.each place one.0 one.1).unasked (unasked place one.0 one.1).asked

      -- so for no payment twice, and only for attempts
      apart : (place : ℕ) (lane : LaneValue D G) → slice_get run.last.lanes place ≡ Some lane
          → (told : Option (List Asked)) → payments_asked outside.gateways lane.gateway ≡ told
          → IfSome told (λ all. all ≡ lane.own) → IfSome told AreApart
      apart place lane is None told same = tt
      apart place lane is (Some all) told same = run.once place lane is all [] told same
          (λ i j d low high alike. absurd (omega (arith, low, high)))
          (λ k d less. absurd (omega (arith, less)))

      attempts : (place : ℕ) (lane : LaneValue D G) → slice_get run.last.lanes place ≡ Some lane
          → (told : Option (List Asked)) → IfSome told (λ all. all ≡ lane.own)
          → IfSome told (HaveAttempts (machine_of lane))
      attempts place lane is None same = tt
      attempts place lane is (Some all) same =
          subst (HaveAttempts (machine_of lane)) (sym same) (run.attempts place lane is)

      -- a lane's disk is honest if it was when it was opened, as where its bytes were told
      stays_honest : (place : ℕ) (lane : LaneValue D G) → slice_get run.last.lanes place ≡ Some lane
          → (before : List ℕ) → old.lane_bytes folder place ≡ Some before
          → IsTrue (outside.disks.honest lane.log.journal.disk)
      stays_honest place lane is before told =
          let one = was place lane is in
          subst IsTrue (sym one.2.itself.as_honest)
          (subst (λ bytes. IfSome bytes (Opens outside.disks.honest outside.disks.seen outside.disks.images
          one.0.log.journal.disk)) told (opened.each place one.0 one.1).bytes).true_to_them

      stands : (place : ℕ) (lane : LaneValue D G) → slice_get run.last.lanes place ≡ Some lane
          → (told : Option (List ℕ))
          → old.lane_bytes folder place ≡ told
          → IfSome told (λ before. IfSome (new.lane_bytes folder place) (StandsForLog lane.log))
      stands place lane is None told = tt
      stands place lane is (Some before) told = run.back.stand place lane is
          (stays_honest place lane is before told)

      -- a crash leaves a prefix
      crash : (place : ℕ) (lane : LaneValue D G) → slice_get run.last.lanes place ≡ Some lane
          → (told : Option (List ℕ)) → old.lane_bytes folder place ≡ told
          → IfSome told (λ before. LeavesPrefix outside.disks lane)
      crash place lane is None told = tt
      crash place lane is (Some before) told =
          let one = was place lane is in
          let first_opened = opened.each place one.0 one.1 in
          let honest = stays_honest place lane is before told in
          record {
            always = prefix_left outside.disks (length first) place before one.0 lane
                (subst (λ bytes. IsOpened outside.disks (length first) place bytes one.0) told first_opened)
                one.2;
            at_end = run.back.durable place lane is honest;
          }

      -- a lane has stopped: the vault's count rose
      caused : any_stopped run.last.lanes ≡ true → Rose old.faults new.faults
      caused any = let found = stopped_at run.last.lanes any in
          rw (← opened.calm) (run.back.stopped found.0 found.1 found.2 found.3)

      -- none has: no call of a disk failed
      calm : any_stopped run.last.lanes ≡ false → new.faults ≡ old.faults
      calm none = run.back.calm quiet ∙ opened.calm
        where
          quiet : (place : ℕ) (lane : LaneValue D G) → slice_get run.last.lanes place ≡ Some lane
              → outside.disks.fault_count lane.log.journal.disk ≡ 0
          quiet place lane is =
              let one = was place lane is in
              run.back.quiet place lane is (none_stopped run.last.lanes none place lane is)
              ∙ one.2.itself.faults ∙ (opened.each place one.0 one.1).faults

      disk_rose : outcome ≡ Err stops.Disk → Rose old.faults new.faults
      disk_rose is = caused (subst (Applies (lanes_machine outside) begun left left_after written written_after
          run.last) is run.ran).1

      -- there was no room: some lane has none
      filled : outcome ≡ Err stops.Full → (place : ℕ) × (lane : LaneValue D G)
          × (slice_get run.last.lanes place ≡ Some lane) × HasNoRoom lane.log 65536
      filled is = run_fills outside begun run.last left left_after written written_after outcome run.ran refl
          (subst (Applies (lanes_machine outside) begun left left_after written written_after run.last) is
          run.ran).1.1

      -- items are only added to invoices
      invoices : ContinueAll (λ lane next. BooksGoOn (machine_of lane) (machine_of next)) first run.last.lanes
      invoices = record {
        count = on.count;
        each = λ place lane is.
            let next = on.each place lane is in
            let more = next.2.well.further in (
              next.0,
              next.1,
              subst (λ (history : History). BooksGoOn (replay lane.log.history) (replay history)) (sym more.1)
                  (histories_only_add lane.log.history more.0),
            );
      }

      pub runs_lanes : (serves : G → ℕ → Type 0) → AreServed serves first
          → AreUnasked outside.gateways first
          → ((number : ℕ) → market_mid.came_back number ≡ market.came_back number)
          → market_mid.faults ≡ market.faults → 1 ≤ length first
          → length first ≤ 64
          → ((lane : ℕ) → old.is_out folder lane ≡ false)
          → RunsLanes outside serves folder clock old new market market_after left left_after written
          written_after outcome
      runs_lanes serves served unasked same still some few inside = record {
        first = first;
        last = run.last;
        some = some;
        few = few;
        opened = opened.each;
        served = served;
        unasked = unasked;
        ran = run.ran;
        determined = runs_are_determined outside;
        further = on;
        invoices = invoices;
        sound = λ place lane is. record {
          billed = replays_are_billed_now lane.log.history;
          shown = replays_are_shown lane.log.history;
          added = replays_add_up lane.log.history;
          even = replays_are_even_now lane.log.history;
          once = run.once place lane is;
          apart = apart place lane is (payments_asked outside.gateways lane.gateway) refl
              (asked unasked place lane is);
          attempts = attempts place lane is (payments_asked outside.gateways lane.gateway)
              (asked unasked place lane is);
        };
        disks_back = λ place lane is. subst (λ (before : Option (List D)).
            Notes before lane.log.journal.disk (new.came_back folder place)) (opened.came_back folder place)
            (run.back.noted place lane is);
        gateways_back = record {
          noted = λ place lane is. subst (λ (before : Option (List G)).
              Notes before lane.gateway (market_after.came_back place)) (same place)
              (run.gateways_back.noted place lane is);
          others = λ place past. run.gateways_back.others place past ∙ same place;
          calm = run.gateways_back.calm ∙ still;
        };
        crash = λ place lane is. crash place lane is (old.lane_bytes folder place) refl;
        stands = λ place lane is. stands place lane is (old.lane_bytes folder place) refl;
        counted = disk_rose;
        caused = caused;
        calm = calm;
        filled = filled;
        inside = as_out_as_before outside.disks folder (length first) old mid new first run.last.lanes opened
            run.back on.count
            inside;
        others = λ this_folder this there. others_as_before outside.disks folder (length first) old mid new
            first run.last.lanes
            opened run.back on.count this_folder this (rw on.count there);
        others_back = λ this_folder this there.
            run.back.others_back this_folder this (rw on.count there) ∙ opened.came_back this_folder this;
        files = λ name. run.back.files name ∙ opened.files name;
      }
