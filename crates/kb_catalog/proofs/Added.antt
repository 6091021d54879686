-- A catalog with a later version at its end is a catalog.
use Rattle.std.proofs.Common.{◌≡◌, ℕ, ◌-◌, ◌<◌, ◌≤◌, ◌⊎◌, inl, inr, List, [], ◌∷◌, ◌++◌, length}
use Rattle.std.proofs.Common.{length-append, get_or, Option, IfSome, subst, arith}
use Rattle.std.proofs.lemmas.Bool.{cases_lt}
use Rattle.std.proofs.lemmas.Option.{slice_get-get_or}
use Rattle.std.proofs.lemmas.List.Elements.{All-push}
use Rattle.std.proofs.lemmas.List.Quantifiers.{all_pairs_push}
use Rattle.kb_catalog.specs.declared.version.Version.{Version}
use Rattle.kb_catalog.specs.VersionRules.{IsValid}
use Rattle.kb_catalog.specs.Catalogs.{max_versions, IsCatalog, IsLater}

-- a version that is later than the last one is later than each
later-each : (versions : List Version) (version : Version) → IsCatalog versions → IsLater versions version
    → (place : ℕ) (other : Version) → place < length versions
    → (get_or versions place other).effective < version.effective
later-each versions version is later place other within = by_place (cases_lt place (length versions - 1))
  where
    last : ((get_or versions (length versions - 1) other).effective < version.effective)
    last =
        subst (λ (found : Option Version). IfSome found
        (λ (last : Version). last.effective < version.effective))
        (slice_get-get_or versions (length versions - 1) other (omega arith)) later

    by_place : (place < length versions - 1) ⊎ (length versions - 1 ≤ place)
        → (get_or versions place other).effective < version.effective
    by_place (inl before) =
        let rise = is.rising place (length versions - 1) other before (omega arith) in omega (arith, last)
    by_place (inr at) =
        let same : length versions - 1 ≡ place = omega arith in
        subst (λ (p : ℕ). (get_or versions p other).effective < version.effective) same last

-- a later, valid version is added where there is room
pub IsCatalog-push : (versions : List Version) (version : Version) → IsCatalog versions
    → IsLater versions version
    → IsValid version → (length versions ≡ max_versions → ⊥) → IsCatalog (versions ++ version ∷ [])
IsCatalog-push versions version is later valid room =
    record {
      rising = all_pairs_push (λ (earlier later : Version). earlier.effective < later.effective) versions
          version is.rising (later-each versions version is later);
      limit = omega (arith, length-append versions (version ∷ []), is.limit);
      valid = All-push IsValid versions version is.valid valid;
    }
