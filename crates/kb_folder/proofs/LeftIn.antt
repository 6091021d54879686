-- A lane that was taken out and isn't opened is where it was.
use Rattle.std.proofs.Common.{◌≡◌, ◌≢◌, ◌⊎◌, ◌≤◌, ℕ, true, false, List, Option, Some, None, IfSome, Result}
use Rattle.std.proofs.Common.{Ok, Err, IfOk, IfErr, OnOk, OnErr, inr, arith, refl, ap, sym, subst, ◌∙◌}
use Rattle.std.proofs.lemmas.Nat.{from_be_bytes-to_be_bytes_2}
use Rattle.kb_disk.specs.Places.{with_lane, SameLanes, SameFiles}
use Rattle.kb_disk.specs.Told.{DiskTold, VaultTold}
use Rattle.kb_journal.specs.Format.{StandsFor}
use Rattle.kb_journal.specs.Reading.{number_at}
use Rattle.kb_codec.specs.Entries.{History, payloads}
use Rattle.kb_machine.specs.Machines.{no_machine}
use Rattle.kb_machine.specs.Histories.{AreNewFrom}
use Rattle.kb_lane.specs.Lanes.{LaneValue}
use Rattle.kb_lane.specs.Loads.{IsNoLane}
use Rattle.kb_folder.specs.declared.unopened.Unopened.{Unopened}
use Rattle.kb_folder.specs.declared.unopened.Unopened.TheVariants as faults
use Rattle.kb_folder.specs.OneLane.{ComesBackWhole, TakesOut, TakesBack, IsLeftIn, IsLaneCause, IsLaneOf}
use Rattle.kb_folder.specs.OneLane.{IsRefused}
use Rattle.kb_folder.specs.Private.Unmade.{IsGivenBack, IsUnmade}
use Rattle.kb_folder.proofs.Amongs.{told_again, told_over, told_same}
use Rattle.kb_folder.proofs.GivenBack.{given_back, reads_them}

-- bytes that stand for records of one lane among some tell how many these are
pub tells_lanes : (lanes lane : ℕ) (records : List (List ℕ)) (bytes : List ℕ) → lanes ≤ 64
    → StandsFor lanes lane records bytes → number_at 8 bytes ≡ lanes
tells_lanes lanes lane records bytes few stands =
    ap (λ (l : List ℕ). number_at 8 l) stands.parts ∙ from_be_bytes-to_be_bytes_2 lanes (omega (arith, few))

-- so they are the lane of as many as they tell
lane_as_told : (lanes lane : ℕ) (history : History) (bytes : List ℕ) → lanes ≤ 64
    → StandsFor lanes lane (payloads history) bytes → AreNewFrom no_machine history
    → IsLaneOf (number_at 8 bytes) lane bytes
lane_as_told lanes lane history bytes few stands fresh =
    subst (λ (l : ℕ). IsLaneOf l lane bytes) (sym (tells_lanes lanes lane (payloads history) bytes few stands))
    (history, stands, fresh)

module _ {D V : Type 0} (disks : DiskTold D) (tell : V → VaultTold D) (folder : List ℕ) (number : ℕ)
    (old mid new : V)
    (inside : (tell old).is_out folder number ≡ false)
    (out : SameLanes (tell mid).is_out (with_lane (tell old).is_out folder number true))
    (bytes : SameLanes (tell mid).lane_bytes (with_lane (tell old).lane_bytes folder number None))
    (came : SameLanes (tell mid).came_back (tell old).came_back)
    (files : SameFiles (tell mid).file_bytes (tell old).file_bytes)
    (calm : (tell mid).faults ≡ (tell old).faults) where
  pub left_in : IsGivenBack disks folder number ((tell old).lane_bytes folder number) (tell mid) (tell new)
      → IsLeftIn disks folder number (tell old) (tell new)
  left_in back = record {
    out = told_same (tell old).is_out (tell new).is_out folder number false inside
        (told_again (tell old).is_out (tell mid).is_out (tell new).is_out folder number true false
        out back.inside);
    bytes = back.bytes;
    others = told_again (tell old).lane_bytes (tell mid).lane_bytes (tell new).lane_bytes folder number None
        ((tell new).lane_bytes folder number) bytes back.others;
    back = subst (λ (before : Option (List D)). ComesBackWhole disks ((tell old).lane_bytes folder number)
        before ((tell new).came_back folder number)) (came folder number) back.back;
    others_back = told_over (tell old).came_back (tell mid).came_back (tell new).came_back folder number
        ((tell new).came_back folder number) came back.others_back;
    files = λ name. back.files name ∙ files name;
    rising = subst (λ (before : ℕ). before ≤ (tell new).faults) calm back.rising;
  }

  pub refused_in : {A : Type 0} (result : Result A Unopened) (count market_old market_new : ℕ)
      → IfErr result (IsUnmade disks folder count number ((tell old).lane_bytes folder number) (tell mid)
      (tell new) market_old market_new)
      → IfErr result (IsRefused disks folder count number (tell old) (tell new) market_old market_new)
  refused_in (Ok lane) count market_old market_new unmade = tt
  refused_in (Err fault) count market_old market_new unmade = (
    left_in unmade.0,
    subst
        (λ (before : ℕ). IsLaneCause count number ((tell old).lane_bytes folder number) before
        (tell new).faults
        market_old market_new fault) calm unmade.1,
  )

module _ {D G V : Type 0} (disks : DiskTold D) (tell : V → VaultTold D) (folder : List ℕ) (count number : ℕ)
    (old mid new : V) (lane : LaneValue D G) (takes : TakesOut disks folder count number (tell old)
    (tell mid) lane) where
  -- an open lane is one of those that are wanted
  pub one_of_in : (wanted : ℕ) (result : Result (LaneValue D G) Unopened) → IfOk result (λ kept. kept ≡ lane)
      → OnOk result (new ≡ mid) → OnOk result (count ≡ wanted)
      → IfOk result (TakesOut disks folder wanted number (tell old) (tell new))
  one_of_in wanted (Ok kept) same still is =
      subst (λ (l : LaneValue D G). TakesOut disks folder wanted number (tell old) (tell new) l) (sym same)
      (subst (λ (v : V). TakesOut disks folder wanted number (tell old) (tell v) lane) (sym still)
      (subst (λ (c : ℕ). TakesOut disks folder c number (tell old) (tell mid) lane) is takes))
  one_of_in wanted (Err fault) same still is = tt

  -- an open lane that is given back is where it was
  pub returned : (tell old).is_out folder number ≡ false
      → TakesBack disks folder number (tell mid) (tell new) lane.log.journal.disk
      → IsLeftIn disks folder number (tell old) (tell new)
  returned inside back = left_in disks tell folder number old mid new inside takes.out takes.bytes
      takes.came_back takes.files takes.calm
      (given_back disks folder number (tell mid) (tell new) lane.log.journal.disk
      ((tell old).lane_bytes folder number) back
      (reads_them disks.honest disks.seen disks.images lane.log.journal.disk
      ((tell old).lane_bytes folder number)
      takes.opened.bytes) takes.opened.unharmed)

  uncounted : TakesBack disks folder number (tell mid) (tell new) lane.log.journal.disk
      → (tell new).faults ≡ (tell old).faults
  uncounted back = back.calm takes.opened.calm ∙ takes.calm

  -- it is for want of memory
  pub unadded : (any market_old market_new : ℕ) (fault : Unopened) → fault ≡ faults.NoMemory
      → market_new ≡ market_old → (tell old).is_out folder number ≡ false
      → TakesBack disks folder number (tell mid) (tell new) lane.log.journal.disk
      → IsRefused disks folder any number (tell old) (tell new) market_old market_new fault
  unadded any market_old market_new fault is market inside back =
      subst (λ (f : Unopened). IsRefused disks folder any number (tell old) (tell new) market_old market_new
      f)
      (sym is)
      (returned inside back, (uncounted back, market))

  pub unadded_in : {A : Type 0} (any market_old market_new : ℕ) (result : Result A Unopened)
      → IfErr result (λ fault. fault ≡ faults.NoMemory) → OnErr result (market_new ≡ market_old)
      → (tell old).is_out folder number ≡ false
      → OnErr result (TakesBack disks folder number (tell mid) (tell new) lane.log.journal.disk)
      → IfErr result (IsRefused disks folder any number (tell old) (tell new) market_old market_new)
  unadded_in any market_old market_new (Ok done) is market inside back = tt
  unadded_in any market_old market_new (Err fault) is market inside back =
      unadded any market_old market_new fault is market inside back

  other : (wanted : ℕ) (told : Option (List ℕ)) → count ≤ 64 → (count ≡ wanted → ⊥)
      → IfSome told (StandsFor count number (payloads lane.log.history))
      → IfSome told (λ bytes. IsNoLane number bytes 8
      ⊎ (◌≡◌ {A = ℕ} 8 8 × (number_at 8 bytes ≢ wanted) × IsLaneOf (number_at 8 bytes) number bytes))
  other wanted None few differs stands = tt
  other wanted (Some bytes) few differs stands = inr (
    refl,
    λ same. differs (sym (tells_lanes count number (payloads lane.log.history) bytes few stands) ∙ same),
    lane_as_told count number lane.log.history bytes few stands takes.opened.fresh,
  )

  -- it is as one of another number of lanes
  pub of_others_in : {A : Type 0} (wanted market_old market_new : ℕ) (result : Result A Unopened)
      → IfErr result (λ fault. fault ≡ faults.Journal number 8) → OnErr result (count ≡ wanted → ⊥)
      → count ≤ 64
      → OnErr result (market_new ≡ market_old) → (tell old).is_out folder number ≡ false
      → OnErr result (TakesBack disks folder number (tell mid) (tell new) lane.log.journal.disk)
      → IfErr result (IsRefused disks folder wanted number (tell old) (tell new) market_old market_new)
  of_others_in wanted market_old market_new (Ok done) is differs few market inside back = tt
  of_others_in wanted market_old market_new (Err fault) is differs few market inside back =
      subst (λ (f : Unopened). IsRefused disks folder wanted number (tell old) (tell new) market_old
      market_new f)
      (sym is) (
        returned inside back,
        (
          refl,
          other wanted ((tell old).lane_bytes folder number) few differs takes.opened.stands,
          uncounted
              back,
          market,
        ),
      )
