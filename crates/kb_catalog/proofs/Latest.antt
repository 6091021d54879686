-- The last version whose date is on or before a day: how a walk from the first version finds it.
use Rattle.std.proofs.Common.{◌≡◌, ℕ, zero, suc, ◌+◌, ◌<◌, Bool, true, false, List, [], ◌∷◌, slice_get}
use Rattle.std.proofs.Common.{nat_le, MatchOption, Option, Some, None, refl, subst, arith}
use Rattle.std.proofs.lemmas.Bool.{leb-true, leb-false}
use Rattle.std.proofs.lemmas.Option.{none-some}
use Rattle.kb_catalog.specs.declared.version.Version.{Version}
use Rattle.kb_catalog.specs.Catalogs.{version_at, version_at_from, IsLatest, NoneBegun}

-- what is found, else what was found before
abbrev pub or_found : Option ℕ → Option ℕ → Option ℕ
or_found None before = before
or_found (Some place) before = Some place

-- a version that is begun is found until a later one is
pub or_found-begun : (place day : ℕ) (version : Version) (later : List Version) (before : Option ℕ)
    → nat_le version.effective day ≡ true
    → or_found (version_at_from (place + 1) later day) (Some place)
    ≡ or_found (version_at_from place (version ∷ later) day) before
or_found-begun place day version later before begun = by_later (version_at_from (place + 1) later day) refl
  where
    by_later : (found : Option ℕ) → version_at_from (place + 1) later day ≡ found
        → or_found (version_at_from (place + 1) later day) (Some place)
        ≡ or_found (version_at_from place (version ∷ later) day) before
    by_later None is = rw (is, begun) refl
    by_later (Some other) is = rw is refl

-- a version that isn't begun changes nothing
pub or_found-not_begun : (place day : ℕ) (version : Version) (later : List Version) (before : Option ℕ)
    → nat_le version.effective day ≡ false
    → or_found (version_at_from (place + 1) later day) before
    ≡ or_found (version_at_from place (version ∷ later) day) before
or_found-not_begun place day version later before early =
    by_later (version_at_from (place + 1) later day) refl
  where
    by_later : (found : Option ℕ) → version_at_from (place + 1) later day ≡ found
        → or_found (version_at_from (place + 1) later day) before
        ≡ or_found (version_at_from place (version ∷ later) day) before
    by_later None is = rw (is, early) refl
    by_later (Some other) is = rw is refl

-- a version that isn't begun, before others that aren't
NoneBegun-cons : (day : ℕ) (version : Version) (later : List Version) → nat_le version.effective day ≡ false
    → NoneBegun later day
    → NoneBegun (version ∷ later) day
NoneBegun-cons day version later early none zero other at =
    let same : version ≡ other = cc in
    subst (λ (v : Version). day < v.effective) same (leb-false version.effective day early)
NoneBegun-cons day version later early none (suc place) other at = none place other at

-- the only version that is begun, before others that aren't
IsLatest-here : (day : ℕ) (version : Version) (later : List Version) → nat_le version.effective day ≡ true
    → NoneBegun later day
    → IsLatest (version ∷ later) day 0
IsLatest-here day version later begun none =
    record { version = version; here = refl; begun = leb-true version.effective day begun; later = after }
  where
    after : (other : ℕ) (next : Version) → 0 < other → slice_get (version ∷ later) other ≡ Some next
        → day < next.effective
    after zero next behind at = absurd (omega arith)
    after (suc other) next behind at = none other next at

-- a version that is the last one begun is so behind another one
IsLatest-cons : (day place : ℕ) (version : Version) (later : List Version) → IsLatest later day place
    → IsLatest (version ∷ later) day (suc place)
IsLatest-cons day place version later is =
    record { version = is.version; here = is.here; begun = is.begun; later = after }
  where
    after : (other : ℕ) (next : Version) → suc place < other → slice_get (version ∷ later) other ≡ Some next
        → day < next.effective
    after zero next behind at = absurd (omega arith)
    after (suc other) next behind at = is.later other next (omega arith) at

-- the place that is found, counted from a place on, is that of the last version begun
abbrev IsFound : List Version → ℕ → ℕ → ℕ → Type 0
IsFound versions day place found = (offset : ℕ) × (found ≡ place + offset) × IsLatest versions day offset

version_at_from-latest : (place day : ℕ) (versions : List Version)
    → MatchOption (version_at_from place versions day) (NoneBegun versions day) (IsFound versions day place)
version_at_from-latest place day [] = λ (other : ℕ) (next : Version) (at : None ≡ Some next).
    absurd (none-some next at)
version_at_from-latest place day (version ∷ later) =
    by_later (version_at_from (place + 1) later day) refl (version_at_from-latest (place + 1) day later)
  where
    by_test : (begun : Bool) → version_at_from (place + 1) later day ≡ None
        → nat_le version.effective day ≡ begun → NoneBegun later day
        → MatchOption (version_at_from place (version ∷ later) day) (NoneBegun (version ∷ later) day)
        (IsFound (version ∷ later) day place)
    by_test true is test none = rw (is, test) (0, omega arith, IsLatest-here day version later test none)
    by_test false is test none = rw (is, test) (NoneBegun-cons day version later test none)

    by_later : (found : Option ℕ) → version_at_from (place + 1) later day ≡ found
        → MatchOption found (NoneBegun later day) (IsFound later day (place + 1))
        → MatchOption (version_at_from place (version ∷ later) day) (NoneBegun (version ∷ later) day)
        (IsFound (version ∷ later) day place)
    by_later None is none = by_test (nat_le version.effective day) is refl none
    by_later (Some other) is (offset, at, latest) =
        rw is (suc offset, omega arith, IsLatest-cons day offset version later latest)

-- the version on a day is the last one whose date is on or before it
pub version_at-latest : (day : ℕ) (versions : List Version)
    → MatchOption (version_at versions day) (NoneBegun versions day) (IsLatest versions day)
version_at-latest day versions = by_found (version_at versions day) (version_at_from-latest 0 day versions)
  where
    by_found : (found : Option ℕ) → MatchOption found (NoneBegun versions day) (IsFound versions day 0)
        → MatchOption found (NoneBegun versions day) (IsLatest versions day)
    by_found None none = none
    by_found (Some place) (offset, at, latest) =
        let same : offset ≡ place = omega arith in
        subst (λ (p : ℕ). IsLatest versions day p) same latest

pub ruleset walks = (or_found-begun, or_found-not_begun)

pub ruleset latest_version = version_at-latest
