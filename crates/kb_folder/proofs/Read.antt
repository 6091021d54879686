-- What is read of a file, and what is told of it.
use Rattle.std.proofs.Common.{ℕ, ◌≡◌, ◌≤◌, Bool, true, false, nat_lt, List, length, take, Option, Some, None}
use Rattle.std.proofs.Common.{IfSome, Result, Ok, Err, IsOk, refl, subst, arith, ◌∙◌}
use Rattle.std.proofs.lemmas.Bool.Decides.{nat_tests}
use Rattle.std.proofs.lemmas.List.{take_all, length-take}
use Rattle.toml.specs.Data.{Members}
use Rattle.kb_catalog.specs.declared.version.Version.{Version}
use Rattle.kb_overdue.specs.declared.state.OverdueState.{OverdueState}
use Rattle.kb_catalog_text.specs.declared.fault.TextFault.{TextFault}
use Rattle.kb_catalog_text.specs.Reads.{Read}
use Rattle.kb_catalog_text.specs.Texts.{max_bytes, text_read, version_judged, states_judged, catalog_read}
use Rattle.kb_catalog_text.specs.Texts.{overdue_read}
use Rattle.kb_catalog_text.specs.CatalogText.{version_in}
use Rattle.kb_catalog_text.specs.OverdueText.{states_in}
use Rattle.kb_disk.specs.declared.vault.TheConstants.{MAX_FILE}
use Rattle.kb_folder.specs.declared.unfounded.Unfounded.{Unfounded}
use Rattle.kb_folder.specs.declared.unfounded.Unfounded.TheVariants as faults
use Rattle.kb_folder.specs.Foundings.{read_part, first_fault, IsTextOf, TellsFault}
use Rattle.kb_folder.specs.Private.Readings.{IsReadAs}

-- a text that is read isn't too long
module _ {A : Type 0} (rules : A → Result A TextFault) (read : Members → Read A) (bytes : List ℕ)
    (value : A) where
  read-short : text_read rules read bytes ≡ Ok value → length bytes ≤ max_bytes
  unfolding text_read
  read-short told = by_length (nat_lt max_bytes (length bytes)) refl
    where
      by_length : (long : Bool) → nat_lt max_bytes (length bytes) ≡ long → length bytes ≤ max_bytes
      by_length true is = let said = rw is at told in absurd (cc)
      by_length false is = grind (arith, nat_tests)

pub catalog_short : (bytes : List ℕ) (version : Version) → catalog_read bytes ≡ Ok version
    → length bytes ≤ max_bytes
catalog_short bytes version told = read-short version_judged version_in bytes version told

pub overdue_short : (bytes : List ℕ) (states : List OverdueState) → overdue_read bytes ≡ Ok states
    → length bytes ≤ max_bytes
overdue_short bytes states told = read-short states_judged states_in bytes states told

-- a file of which no more is read than a text may have is read whole
whole_read : (whole : List ℕ) → length (take MAX_FILE whole) ≤ max_bytes → take MAX_FILE whole ≡ whole
whole_read whole short = take_all MAX_FILE whole (omega (arith, short, length-take MAX_FILE whole))

pub text_kept : (file : Option (List ℕ)) (bytes text : List ℕ)
    → IfSome file (λ whole. bytes ≡ take MAX_FILE whole)
    → text ≡ bytes → length text ≤ max_bytes → IsTextOf file text
text_kept None bytes text told same short = tt
text_kept (Some whole) bytes text told same short =
    let all : text ≡ take MAX_FILE whole = same ∙ told in
    all ∙ whole_read whole (subst (λ (l : List ℕ). length l ≤ max_bytes) all short)

-- what is told of two files, of which the second is read later
module _ {A B : Type 0} (read : List ℕ → Result A TextFault) (other : List ℕ → Result B TextFault) where
  -- the second text is refused
  pub file_second : (file other_file later : Option (List ℕ)) (fault : Unfounded) → later ≡ other_file
      → IfSome file (λ whole. IsOk (read (read_part whole)))
      → IfSome later (λ more. IsReadAs {B = ℕ} (other (read_part more)) (Err fault))
      → IfSome file (λ whole. IfSome other_file (λ more. TellsFault {A = ℕ}
      (first_fault (read (read_part whole)) (other (read_part more))) (Err fault)))
  file_second file other_file later fault same accepted refused =
      by_files file other_file accepted
      (subst (λ (l : Option (List ℕ)). IfSome l (λ more. IsReadAs {B = ℕ} (other (read_part more))
      (Err fault))) same
      refused)
    where
      by_fault : (first : Result A TextFault) (second : Result B TextFault) (fault : Unfounded) → IsOk first
          → IsReadAs {B = ℕ} second (Err fault) → TellsFault {A = ℕ} (first_fault first second) (Err fault)
      by_fault (Err other) second fault accepted is = absurd (cc)
      by_fault (Ok said) second faults.Disk accepted is = tt
      by_fault (Ok said) second faults.NoMemory accepted is = tt
      by_fault (Ok said) second (faults.Text fault) accepted is = rw is refl
      by_fault (Ok said) second (faults.NotEmpty lane) accepted is = absurd is

      by_files : (file other_file : Option (List ℕ)) → IfSome file (λ whole. IsOk (read (read_part whole)))
          → IfSome other_file (λ more. IsReadAs {B = ℕ} (other (read_part more)) (Err fault))
          → IfSome file (λ whole. IfSome other_file (λ more. TellsFault {A = ℕ}
          (first_fault (read (read_part whole)) (other (read_part more))) (Err fault)))
      by_files None other_file accepted refused = tt
      by_files (Some whole) None accepted refused = tt
      by_files (Some whole) (Some more) accepted refused =
          by_fault (read (read_part whole)) (other (read_part more)) fault accepted refused

  -- neither is
  pub file_none : (file other_file later : Option (List ℕ)) → later ≡ other_file
      → IfSome file (λ whole. IsOk (read (read_part whole)))
      → IfSome later (λ more. IsOk (other (read_part more)))
      → IfSome file (λ whole. IfSome other_file (λ more.
      first_fault (read (read_part whole)) (other (read_part more)) ≡ None))
  file_none file other_file later same accepted accepted_too =
      by_files file other_file accepted
      (subst (λ (l : Option (List ℕ)). IfSome l (λ more. IsOk (other (read_part more)))) same accepted_too)
    where
      by_both : (first : Result A TextFault) (second : Result B TextFault) → IsOk first → IsOk second
          → first_fault first second ≡ None
      by_both (Err fault) second accepted accepted_too = absurd (cc)
      by_both (Ok value) (Err fault) accepted accepted_too = absurd (cc)
      by_both (Ok value) (Ok other) accepted accepted_too = refl

      by_files : (file other_file : Option (List ℕ)) → IfSome file (λ whole. IsOk (read (read_part whole)))
          → IfSome other_file (λ more. IsOk (other (read_part more)))
          → IfSome file (λ whole. IfSome other_file (λ more.
          first_fault (read (read_part whole)) (other (read_part more)) ≡ None))
      by_files None other_file accepted accepted_too = tt
      by_files (Some whole) None accepted accepted_too = tt
      by_files (Some whole) (Some more) accepted accepted_too =
          by_both (read (read_part whole)) (other (read_part more)) accepted accepted_too
