-- Catalogs: valid versions by rising date, and which one is used on a day.
use Rattle.std.specs.Prelude.{ℕ, ◌+◌, ◌-◌, ◌≡◌, ◌<◌, ◌≤◌, Bool, true, false, nat_le, List, [], ◌∷◌, length}
use Rattle.std.specs.Prelude.{slice_get, Option, Some, None, IsSomeAnd, IfSome, All}
use Rattle.std.specs.List.{AllPairs}
use Rattle.kb_catalog.specs.declared.version.Version.{Version}
use Rattle.kb_catalog.specs.VersionRules.{IsValid}

-- the most versions that a catalog has
abbrev pub max_versions : ℕ
max_versions = 64

-- what always holds of a catalog: each version's date lies before those of the later ones, there are not too
-- many, and each is valid
pub record IsCatalog (versions : List Version) : Type 0 where
  pub rising : AllPairs (λ (earlier later : Version). earlier.effective < later.effective) versions
  pub limit : length versions ≤ max_versions
  pub valid : All IsValid versions

-- a version's date isn't after that of the last version, where there is one
abbrev pub IsEarly : List Version → Version → Type 0
IsEarly versions version = IsSomeAnd (slice_get versions (length versions - 1))
    (λ (last : Version). version.effective ≤ last.effective)

-- a version's date is after that of the last version, or there is none
abbrev pub IsLater : List Version → Version → Type 0
IsLater versions version = IfSome (slice_get versions (length versions - 1))
    (λ (last : Version). last.effective < version.effective)

-- the place of the last version that is effective on or before a day
abbrev pub version_at_from : ℕ → List Version → ℕ → Option ℕ
version_at_from place [] day = None
version_at_from place (version ∷ later) day = latest (version_at_from (place + 1) later day)
    (nat_le version.effective day) place
  where
    latest : Option ℕ → Bool → ℕ → Option ℕ
    latest (Some after) effective here = Some after
    latest None true here = Some here
    latest None false here = None

abbrev pub version_at : List Version → ℕ → Option ℕ
version_at versions day = version_at_from 0 versions day

-- the version at a place is the last one whose date is on or before a day
pub record IsLatest (versions : List Version) (day place : ℕ) : Type 0 where
  pub version : Version
  pub here : slice_get versions place ≡ Some version
  pub begun : version.effective ≤ day
  pub later : (other : ℕ) (next : Version) → place < other → slice_get versions other ≡ Some next
      → day < next.effective

-- no version's date is on or before a day
abbrev pub NoneBegun : List Version → ℕ → Type 0
NoneBegun versions day = (place : ℕ) (version : Version) → slice_get versions place ≡ Some version
    → day < version.effective
