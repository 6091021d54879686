-- Disks that come back while the lanes of a folder are made.
use Rattle.std.proofs.Common.{◌≡◌, ◌<◌, ◌≤◌, ◌+◌, ◌⊎◌, ℕ, IsTrue, List, Option, None, Some, IfSome}
use Rattle.std.proofs.Common.{Result, Ok, Err, arith, sym, subst, ◌∙◌, inl, inr}
use Rattle.std.proofs.lemmas.Bool.{cases_lt}
use Rattle.kb_disk.specs.Images.{Only}
use Rattle.kb_disk.specs.Moments.{AtEachMoment}
use Rattle.kb_disk.specs.Places.{SameLanes}
use Rattle.kb_disk.specs.Told.{DiskTold, VaultTold}
use Rattle.kb_disk.specs.Vaults.{Opens}
use Rattle.kb_catalog_text.specs.Texts.{CatalogText, OverdueText}
use Rattle.kb_codec.specs.Entries.{payloads}
use Rattle.kb_journal.specs.Beginnings.{HasOrBegins}
use Rattle.kb_journal.specs.Format.{StandsFor}
use Rattle.kb_folder.specs.declared.unfounded.Unfounded.{Unfounded}
use Rattle.kb_folder.specs.Foundings.{AreTextsOf, SameFrom, first_commands}
use Rattle.kb_folder.specs.Private.Runs.{SameElsewhere}
use Rattle.kb_folder.specs.Begun.{AllComeBackBy, ComesBackBegun, ComesBackBy, ComesBackMade, CrashesBegin}
use Rattle.kb_folder.specs.Begun.{CrashesWhole, CrashesWith}
use Rattle.kb_folder.proofs.Amongs.{apart, not_among, not_among_fewer, not_place}

module _ {D : Type 0} (disks : DiskTold D) (lanes lane : ℕ) (records : List (List ℕ)) (told : Option (List ℕ))
    (opened disk : D) where
  -- what was so at each moment of a disk that is taken out anew is so since then
  pub crashes_begin : disks.moment opened ≡ 0
      → IfSome told (Opens disks.honest disks.seen disks.images opened)
      → (IsTrue (disks.honest opened) → Only (disks.seen opened) (disks.images opened)
      → AtEachMoment disks.moment disks.left_since opened disk
      (HasOrBegins lanes lane records (disks.seen opened)))
      → CrashesBegin disks lanes lane records told disk
  crashes_begin unmoved opens moments = by_told told opens
    where
      by_told : (told : Option (List ℕ)) → IfSome told (Opens disks.honest disks.seen disks.images opened)
          → CrashesBegin disks lanes lane records told disk
      by_told None opens = tt
      by_told (Some bytes) opens = λ image left.
          subst (λ (b : List ℕ). HasOrBegins lanes lane records b image) opens.read
          ((moments opens.true_to_them (subst (λ (b : List ℕ). Only b (disks.images opened)) (sym opens.read)
          opens.synced)).each image
          (subst (λ (time : ℕ). disks.left_since disk time image) (sym unmoved) left))

  -- one that keeps what it reads is whole
  pub crashes_whole : IfSome told (Opens disks.honest disks.seen disks.images opened)
      → (IsTrue (disks.honest opened) → StandsFor lanes lane records (disks.seen disk))
      → (IsTrue (disks.honest opened) → Only (disks.seen disk) (disks.images disk))
      → CrashesWhole disks lanes lane records told disk
  crashes_whole opens stands durable = by_told told opens
    where
      by_told : (told : Option (List ℕ)) → IfSome told (Opens disks.honest disks.seen disks.images opened)
          → CrashesWhole disks lanes lane records told disk
      by_told None opens = tt
      by_told (Some bytes) opens = λ image now.
          subst (StandsFor lanes lane records) (sym (durable opens.true_to_them image now))
          (stands opens.true_to_them)

-- the disks of lanes that were made so far
abbrev pub MadeSoFar : {D : Type 0} → DiskTold D → List ℕ → ℕ → ℕ → List (List ℕ) → VaultTold D → VaultTold D
    → Type 0
MadeSoFar disks folder lanes count records old new = (lane : ℕ) → lane < count
    → ComesBackMade disks lanes lane records (old.lane_bytes folder lane) (old.came_back folder lane)
    (new.came_back folder lane)

module _ {D : Type 0} (disks : DiskTold D) (folder : List ℕ) (lanes count : ℕ) (records : List (List ℕ))
    (old mid new : VaultTold D)
    (untold : SameFrom folder count old.lane_bytes mid.lane_bytes)
    (others : SameFrom folder count old.came_back mid.came_back)
    (elsewhere : SameElsewhere folder count mid.came_back new.came_back) where
  -- an earlier lane, and a later one, are told as before
  before_it : (lane : ℕ) → lane < count → new.came_back folder lane ≡ mid.came_back folder lane
  before_it lane less = elsewhere folder lane (apart folder count folder lane less)

  -- of that lane what was told at first was told until then
  this_one : (result : Result (Unit {0}) Unfounded)
      → ComesBackBy disks lanes count records (mid.lane_bytes folder count) (mid.came_back folder count)
      (new.came_back folder count) result
      → ComesBackBy disks lanes count records (old.lane_bytes folder count) (old.came_back folder count)
      (new.came_back folder count) result
  this_one result back =
      let none = not_among folder count folder count (omega arith) in
      subst (λ (told : Option (List ℕ)). ComesBackBy disks lanes count records told
      (old.came_back folder count) (new.came_back folder count) result) (untold folder count none)
      (subst (λ (before : Option (List D)). ComesBackBy disks lanes count records (mid.lane_bytes folder count)
      before (new.came_back folder count) result) (others folder count none) back)

  -- one more is made
  pub made_one_more : MadeSoFar disks folder lanes count records old mid
      → ComesBackMade disks lanes count records (mid.lane_bytes folder count) (mid.came_back folder count)
      (new.came_back folder count)
      → MadeSoFar disks folder lanes (count + 1) records old new
  made_one_more so_far back lane less = by_place (cases_lt lane count)
    where
      by_place : (lane < count) ⊎ (count ≤ lane) → ComesBackMade disks lanes lane records
          (old.lane_bytes folder lane) (old.came_back folder lane) (new.came_back folder lane)
      by_place (inl earlier) = subst (λ (after : Option (List D)). ComesBackMade disks lanes lane records
          (old.lane_bytes folder lane) (old.came_back folder lane) after) (sym (before_it lane earlier))
          (so_far lane earlier)
      by_place (inr from) =
          let same : count ≡ lane = omega (arith, less, from) in
          subst (λ (l : ℕ). ComesBackMade disks lanes l records (old.lane_bytes folder l)
          (old.came_back folder l) (new.came_back folder l)) same (this_one (Ok tt) back)

  -- the others stay as they were
  pub others_one_more : SameFrom folder (count + 1) old.came_back new.came_back
  others_one_more this_folder this none =
      elsewhere this_folder this (not_place folder count (count + 1) this_folder this (omega arith) none)
      ∙ others this_folder this (not_among_fewer folder count (count + 1) this_folder this (omega arith) none)

  -- the next one isn't made, and none is behind it
  pub all_by_fault : (fault : Unfounded) → MadeSoFar disks folder lanes count records old mid
      → ComesBackBy disks lanes count records (mid.lane_bytes folder count) (mid.came_back folder count)
      (new.came_back folder count) (Err fault)
      → AllComeBackBy disks folder lanes records old new (Err fault)
  all_by_fault fault so_far back lane less = by_place (cases_lt lane count)
    where
      by_place : (lane < count) ⊎ (count ≤ lane) → ComesBackBegun disks lanes lane records
          (old.lane_bytes folder lane) (old.came_back folder lane) (new.came_back folder lane)
      by_place (inl earlier) =
          let made = so_far lane earlier in
          subst (λ (after : Option (List D)). ComesBackBegun disks lanes lane records
          (old.lane_bytes folder lane) (old.came_back folder lane) after) (sym (before_it lane earlier))
          (inr (made.0, made.1, made.2))
      by_place (inr from) = here (cases_lt count lane)
        where
          here : (count < lane) ⊎ (lane ≤ count) → ComesBackBegun disks lanes lane records
              (old.lane_bytes folder lane) (old.came_back folder lane) (new.came_back folder lane)
          here (inl behind) = inl (others_one_more folder lane
              (not_among folder (count + 1) folder lane (omega (arith, behind))))
          here (inr upto) =
              let same : count ≡ lane = omega (arith, from, upto) in
              subst (λ (l : ℕ). ComesBackBegun disks lanes l records (old.lane_bytes folder l)
              (old.came_back folder l) (new.came_back folder l)) same (this_one (Err fault) back)

-- a run that begins where another ended, of which nothing came back, and with the texts of two files
pub crashes_with : {D : Type 0} (disks : DiskTold D) (today : ℕ) (folder : List ℕ) (lanes : ℕ)
    (catalog_file overdue_file : Option (List ℕ)) (old mid new : VaultTold D)
    (catalog : CatalogText) (overdue : OverdueText) → AreTextsOf catalog_file overdue_file catalog overdue
    → SameLanes mid.lane_bytes old.lane_bytes → SameLanes mid.came_back old.came_back
    → (result : Result (Unit {0}) Unfounded)
    → AllComeBackBy disks folder lanes (payloads (first_commands today catalog overdue)) mid new result
    → CrashesWith disks today folder lanes catalog_file overdue_file old new result
crashes_with {D} disks today folder lanes catalog_file overdue_file old mid new catalog overdue are bytes back =
    by_result
  where
    records : List (List ℕ)
    records = payloads (first_commands today catalog overdue)

    one : (result : Result (Unit {0}) Unfounded) (lane : ℕ)
        → ComesBackBy disks lanes lane records (mid.lane_bytes folder lane) (mid.came_back folder lane)
        (new.came_back folder lane) result
        → ComesBackBy disks lanes lane records (old.lane_bytes folder lane) (old.came_back folder lane)
        (new.came_back folder lane) result
    one result lane by = subst (λ (told : Option (List ℕ)). ComesBackBy disks lanes lane records told
        (old.came_back folder lane) (new.came_back folder lane) result) (bytes folder lane)
        (subst (λ (before : Option (List D)). ComesBackBy disks lanes lane records
        (mid.lane_bytes folder lane) before (new.came_back folder lane) result) (back folder lane) by)

    by_result : (result : Result (Unit {0}) Unfounded)
        → AllComeBackBy disks folder lanes records mid new result
        → CrashesWith disks today folder lanes catalog_file overdue_file old new result
    by_result (Ok done) all = (catalog, overdue, are, λ lane less. one (Ok done) lane (all lane less))
    by_result (Err fault) all = inr
        (catalog, overdue, are, λ lane less. one (Err fault) lane (all lane less))
