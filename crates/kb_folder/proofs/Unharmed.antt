-- What is left of lanes that aren't all made.
use Rattle.std.proofs.Common.{◌≡◌, ◌≤◌, ◌<◌, ◌+◌, ◌⊎◌, ℕ, List, Option, None, Some}
use Rattle.std.proofs.Common.{Result, Ok, Err, OnErr, length, refl, sym, subst, inl, inr, ⊎_elim, arith}
use Rattle.std.proofs.lemmas.List.{take_all}
use Rattle.std.proofs.lemmas.Bool.{cases_lt}
use Rattle.kb_catalog_text.specs.Texts.{CatalogText, OverdueText}
use Rattle.kb_codec.specs.Entries.{payloads}
use Rattle.kb_folder.specs.declared.unfounded.Unfounded.{Unfounded}
use Rattle.kb_folder.specs.declared.unfounded.Unfounded.TheVariants as faults
use Rattle.kb_folder.specs.Foundings.{Bytes, IsFounded, IsLeft, IsUnharmed, FoundsFirst, HarmsNone}
use Rattle.kb_folder.specs.Foundings.{AreTextsOf, SameOrWith, first_commands}
use Rattle.kb_folder.specs.Private.Runs.{Founds}
use Rattle.kb_folder.proofs.Amongs.{not_among}

module _ (lanes lane : ℕ) (records : List (List ℕ)) where
  -- a lane of which the same is told
  pub same_unharmed : (old new : Option (List ℕ)) → new ≡ old → IsUnharmed lanes lane records old new
  same_unharmed old new same = subst (λ (now : Option (List ℕ)). IsUnharmed lanes lane records old now)
      (sym same) (itself old)
    where
      itself : (told : Option (List ℕ)) → IsUnharmed lanes lane records told told
      itself None = tt
      itself (Some bytes) = inl refl

  -- a lane that is made
  pub made_unharmed : (old new : Option (List ℕ)) → IsFounded lanes lane records old new
      → IsUnharmed lanes lane records old new
  made_unharmed None new made = tt
  made_unharmed (Some before) None made = tt
  made_unharmed (Some before) (Some after) made = inr
      (made.empty, inr (records, take_all (length records) records (omega arith), made.stands))

  -- a lane that isn't empty
  pub left_unharmed : (old new : Option (List ℕ)) → IsLeft old new → IsUnharmed lanes lane records old new
  left_unharmed None new left = tt
  left_unharmed (Some before) None left = tt
  left_unharmed (Some before) (Some after) left = inl left.same

module _ (folder : List ℕ) (lanes : ℕ) (records : List (List ℕ)) (old new : Bytes) where
  -- those that are made aren't harmed, nor those that aren't touched
  outside : (count touched : ℕ) → FoundsFirst folder lanes count touched records old new → (lane : ℕ)
      → (lane < count) ⊎ (touched ≤ lane) → IsUnharmed lanes lane records (old folder lane) (new folder lane)
  outside count touched founds lane = ⊎_elim
      (λ less. made_unharmed lanes lane records (old folder lane) (new folder lane)
      (founds.founded lane less))
      (λ more. same_unharmed lanes lane records (old folder lane) (new folder lane)
      (founds.others folder lane (not_among folder touched folder lane more)))

  -- those up to one, and that one
  up_to : (count : ℕ) → FoundsFirst folder lanes count (count + 1) records old new
      → IsUnharmed lanes count records (old folder count) (new folder count)
      → HarmsNone folder lanes records old new
  up_to count founds one lane less = by_place (cases_lt lane count)
    where
      by_place : (lane < count) ⊎ (count ≤ lane)
          → IsUnharmed lanes lane records (old folder lane) (new folder lane)
      by_place (inl before) = outside count (count + 1) founds lane (inl before)
      by_place (inr from) = here (cases_lt count lane)
        where
          here : (count < lane) ⊎ (lane ≤ count)
              → IsUnharmed lanes lane records (old folder lane) (new folder lane)
          here (inl behind) = outside count (count + 1) founds lane (inr (omega (arith, behind)))
          here (inr upto) =
              let same : count ≡ lane = omega (arith, from, upto) in
              subst (λ (l : ℕ). IsUnharmed lanes l records (old folder l) (new folder l)) same one

  -- where not all are made, none is harmed
  pub harms_none : (result : Result (Unit {0}) Unfounded) → Founds folder lanes records old new result
      → OnErr result (HarmsNone folder lanes records old new)
  harms_none (Ok done) founds = tt
  harms_none (Err (faults.NotEmpty lane)) founds = up_to lane founds.1
      (left_unharmed lanes lane records (old folder lane) (new folder lane) founds.2)
  harms_none (Err faults.NoMemory) founds =
      λ lane less. outside founds.0 founds.0 founds.2 lane (cases_lt lane founds.0)
  harms_none (Err faults.Disk) founds = up_to founds.0 founds.2 founds.3
  harms_none (Err (faults.Text fault)) founds = absurd founds

-- so with the texts of two files
pub unharmed_with : (today : ℕ) (folder : List ℕ) (lanes : ℕ) (catalog_file overdue_file : Option (List ℕ))
    (old new : Bytes) (catalog : CatalogText) (overdue : OverdueText)
    → AreTextsOf catalog_file overdue_file catalog overdue → (result : Result (Unit {0}) Unfounded)
    → Founds folder lanes (payloads (first_commands today catalog overdue)) old new result
    → OnErr result (SameOrWith today catalog_file overdue_file (HarmsNone folder lanes) old new)
unharmed_with today folder lanes catalog_file overdue_file old new catalog overdue are (Ok done) founds = tt
unharmed_with today folder lanes catalog_file overdue_file old new catalog overdue are (Err fault) founds =
    inr (
      catalog,
      overdue,
      are,
      harms_none folder lanes (payloads (first_commands today catalog overdue)) old
          new (Err fault) founds,
    )
