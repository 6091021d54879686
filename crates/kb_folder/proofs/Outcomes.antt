-- What a run over the lanes of a folder comes to, told of the whole folder.
use Rattle.std.proofs.Common.{◌≡◌, ℕ, ◌+◌, ◌<◌, ◌≤◌, ◌&&◌, nat_lt, bytes_eq, Bool, true, false, List, Option}
use Rattle.std.proofs.Common.{None, Some, IfSome, Result, Ok, Err, OnOk, refl, subst, arith}
use Rattle.std.proofs.Math.Path.{fun_ext}
use Rattle.std.proofs.lemmas.Bool.Decides.{nat_tests}
use Rattle.kb_catalog_text.specs.declared.fault.TextFault.{TextFault}
use Rattle.kb_catalog_text.specs.Texts.{CatalogText, OverdueText}
use Rattle.kb_codec.specs.Entries.{payloads}
use Rattle.kb_disk.specs.Places.{is_among, SameLanes}
use Rattle.kb_folder.specs.declared.unfounded.Unfounded.{Unfounded}
use Rattle.kb_folder.specs.declared.unfounded.Unfounded.TheVariants as faults
use Rattle.kb_folder.specs.Foundings.{Bytes, FoundsFirst, FoundsWith, IsLeft, AreTextsOf, SameFrom}
use Rattle.kb_folder.specs.Foundings.{TellsFault, first_commands, text_fault}
use Rattle.kb_folder.specs.Private.Runs.{Founds}

-- what isn't among more lanes isn't among fewer
fewer : (folder : List ℕ) (count more : ℕ) (this_folder : List ℕ) (this : ℕ) → count ≤ more
    → is_among folder more this_folder this ≡ false → is_among folder count this_folder this ≡ false
fewer folder count more this_folder this few none = by_folder (bytes_eq folder this_folder) none
  where
    by_folder : (same : Bool) → (same && nat_lt this more) ≡ false → (same && nat_lt this count) ≡ false
    by_folder true none = grind (arith, nat_tests, none, few)
    by_folder false none = refl

-- where neither text of two files is refused, none is told to be
pub tells_of : (file other_file : Option (List ℕ)) (result : Result (Unit {0}) Unfounded)
    → ((told : TextFault) → result ≡ Err (faults.Text told) → ⊥)
    → IfSome file (λ whole. IfSome other_file (λ more. text_fault whole more ≡ None))
    → IfSome file (λ whole. IfSome other_file (λ more. TellsFault (text_fault whole more) result))
tells_of None other_file result other none = tt
tells_of (Some whole) None result other none = tt
tells_of (Some whole) (Some more) result other none = by_result (text_fault whole more) result none other
  where
    by_result : (fault : Option TextFault) (result : Result (Unit {0}) Unfounded) → fault ≡ None
        → ((told : TextFault) → result ≡ Err (faults.Text told) → ⊥) → TellsFault fault result
    by_result fault (Ok done) none other = none
    by_result fault (Err faults.Disk) none other = tt
    by_result fault (Err faults.NoMemory) none other = tt
    by_result fault (Err (faults.Text told)) none other = absurd (other told refl)
    by_result fault (Err (faults.NotEmpty lane)) none other = none

module _ (folder : List ℕ) (lanes : ℕ) (records : List (List ℕ)) (old new : Bytes) where
  -- a run from a vault whose lanes are told as another one's is one from that
  pub from_start : (start : Bytes) (result : Result (Unit {0}) Unfounded) → SameLanes old start
      → Founds folder lanes records old new result → Founds folder lanes records start new result
  from_start start result same founds =
      let all : old ≡ start = fun_ext (λ f. fun_ext (λ l. same f l)) in
      subst (λ (told : Bytes). Founds folder lanes records told new result) all founds

  pub no_text : (result : Result (Unit {0}) Unfounded) → Founds folder lanes records old new result
      → (told : TextFault) → result ≡ Err (faults.Text told) → ⊥
  no_text result founds told is = subst (Founds folder lanes records old new) is founds

  pub one_left : (result : Result (Unit {0}) Unfounded) → Founds folder lanes records old new result
      → (lane : ℕ)
      → result ≡ Err (faults.NotEmpty lane) → (lane < lanes)
      × FoundsFirst folder lanes lane (lane + 1) records old new × IsLeft (old folder lane) (new folder lane)
  one_left result founds lane is = subst (Founds folder lanes records old new) is founds

  -- no lane but those that are to be made is touched
  pub others_same : (result : Result (Unit {0}) Unfounded) → Founds folder lanes records old new result
      → SameFrom folder lanes old new
  others_same (Ok done) founds this_folder this none = founds.others this_folder this none
  others_same (Err faults.Disk) founds this_folder this none =
      founds.2.others this_folder this
      (fewer folder (founds.0 + 1) lanes this_folder this (omega (arith, founds.1)) none)
  others_same (Err faults.NoMemory) founds this_folder this none =
      founds.2.others this_folder this (fewer folder founds.0 lanes this_folder this
      (omega (arith, founds.1)) none)
  others_same (Err (faults.Text fault)) founds this_folder this none = absurd founds
  others_same (Err (faults.NotEmpty lane)) founds this_folder this none =
      founds.1.others this_folder this (fewer folder (lane + 1) lanes this_folder this
      (omega (arith, founds.0)) none)

-- where each is made, they are made with the texts of two files
pub founded_with : (today : ℕ) (folder : List ℕ) (lanes : ℕ) (catalog_file overdue_file : Option (List ℕ))
    (old new : Bytes) (catalog : CatalogText) (overdue : OverdueText)
    → AreTextsOf catalog_file overdue_file catalog overdue → (result : Result (Unit {0}) Unfounded)
    → Founds folder lanes (payloads (first_commands today catalog overdue)) old new result
    → OnOk result (FoundsWith today folder lanes lanes lanes catalog_file overdue_file old new)
founded_with today folder lanes catalog_file overdue_file old new catalog overdue are (Ok done) founds =
    (catalog, overdue, are, founds)
founded_with today folder lanes catalog_file overdue_file old new catalog overdue are (Err fault) founds = tt
