-- A lane added to others.
use Rattle.std.proofs.Common.{◌≡◌, ℕ, List, [], ◌∷◌, ◌++◌, length, Result, Ok, Err, OnOk, refl, sym, subst}
use Rattle.kb_disk.specs.Told.{DiskTold, VaultTold}
use Rattle.kb_lane.specs.Lanes.{LaneValue}
use Rattle.kb_folder.specs.declared.unopened.Unopened.{Unopened}
use Rattle.kb_folder.specs.OneLane.{TakesOut}
use Rattle.kb_folder.specs.Private.AllLanes.{AddsLane}

module _ {D G V : Type 0} (disks : DiskTold D) (tell : V → VaultTold D) (folder : List ℕ) (count number : ℕ)
    (old mid new : V) (lane : LaneValue D G) (takes : TakesOut disks folder count number (tell old)
    (tell mid) lane) where
  -- it is added to others
  pub added : (wanted : ℕ) (lanes more : List (LaneValue D G)) → more ≡ lanes ++ lane ∷ [] → new ≡ mid
      → wanted ≡ count → length lanes ≡ number → AddsLane disks folder wanted (tell old) (tell new) lanes more
  added wanted lanes more is still same next = (
    lane,
    is,
    subst (λ (n : ℕ). TakesOut disks folder wanted n (tell old) (tell new) lane) (sym next)
        (subst (λ (v : V). TakesOut disks folder wanted number (tell old) (tell v) lane) (sym still)
        (subst (λ (c : ℕ). TakesOut disks folder c number (tell old) (tell mid) lane) (sym same) takes)),
  )

  pub added_in : {A : Type 0} (lanes more : List (LaneValue D G)) (result : Result A Unopened)
      → OnOk result (more ≡ lanes ++ lane ∷ []) → OnOk result (new ≡ mid) → length lanes ≡ number
      → OnOk result (AddsLane disks folder count (tell old) (tell new) lanes more)
  added_in lanes more (Ok done) is still next = added count lanes more is still refl next
  added_in lanes more (Err fault) is still next = tt
