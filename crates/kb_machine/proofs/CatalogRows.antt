-- Whether a version may be added, as the catalog says it and as the rows of refusals do.
use Rattle.std.proofs.Common.{◌≡◌, ◌<◌, ◌≤◌, ◌==◌, true, false, Bool, List, length, Option, Some, None, refl}
use Rattle.std.proofs.Common.{arith, IfSome, IsSomeAnd}
use Rattle.std.proofs.lemmas.Bool.Decides.{nat_tests}
use Rattle.kb_catalog.specs.declared.version.Version.{Version}
use Rattle.kb_catalog.specs.Catalogs.{max_versions, IsEarly, IsLater}
use Rattle.kb_book.specs.declared.refusal.Refusal.TheVariants.{VersionOrder}
use Rattle.kb_book.specs.Rows.{first_refusal, limit}
use Rattle.kb_machine.specs.Texts.{is_dated_before, last_version, catalog_rows}

dated-early : (last : Option Version) (version : Version)
    → IsSomeAnd last (λ (old : Version). version.effective ≤ old.effective)
    → is_dated_before last version ≡ true
dated-early None version early = absurd early
dated-early (Some last) version early = grind (arith, nat_tests)

dated-later : (last : Option Version) (version : Version)
    → IfSome last (λ (old : Version). old.effective < version.effective)
    → is_dated_before last version ≡ false
dated-later None version later = refl
dated-later (Some last) version later = grind (arith, nat_tests)

-- a version that is early is refused for it
pub early_rows : (versions : List Version) (version : Version) → IsEarly versions version
    → first_refusal (catalog_rows versions version) ≡ Some VersionOrder
early_rows versions version early = rw (dated-early (last_version versions) version early) refl

-- one too many is refused for that
pub full_rows : (versions : List Version) (version : Version) → IsLater versions version
    → length versions ≡ max_versions → first_refusal (catalog_rows versions version) ≡ Some (limit 7 64)
full_rows versions version later full =
    rw (dated-later (last_version versions) version later, full) refl

early-dated : (last : Option Version) (version : Version) → is_dated_before last version ≡ true
    → IsSomeAnd last (λ (old : Version). version.effective ≤ old.effective)
early-dated None version dated = absurd (cc)
early-dated (Some last) version dated = grind (arith, nat_tests)

later-dated : (last : Option Version) (version : Version) → is_dated_before last version ≡ false
    → IfSome last (λ (old : Version). old.effective < version.effective)
later-dated None version dated = tt
later-dated (Some last) version dated = grind (arith, nat_tests)

-- and any other one is taken
pub other_rows : (versions : List Version) (version : Version) → (IsEarly versions version → ⊥)
    → (IsLater versions version × (length versions ≡ max_versions) → ⊥)
    → first_refusal (catalog_rows versions version) ≡ None
other_rows versions version not_early not_full =
    by_tests (is_dated_before (last_version versions) version) refl (length versions == max_versions) refl
  where
    by_tests : (dated : Bool) → is_dated_before (last_version versions) version ≡ dated
        → (full : Bool) → (length versions == max_versions) ≡ full
        → first_refusal (catalog_rows versions version) ≡ None
    by_tests true is full many = absurd (not_early (early-dated (last_version versions) version is))
    by_tests false is true many =
        absurd (not_full (later-dated (last_version versions) version is, grind (arith, nat_tests)))
    by_tests false is false many = rw (is, many) refl
