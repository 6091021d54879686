-- Versions of a small catalog, looked up by day.
use Rattle.std.specs.Prelude.{◌≡◌, [], ◌∷◌, Some, None, refl}
use Rattle.kb_days.specs.Dates.{january_2020, february_2020}
use Rattle.kb_catalog.specs.SmallVersion.{small}
use Rattle.kb_catalog.specs.Catalogs.{version_at}

-- of versions from 2020-01-01 and from 2020-02-08 on, the later one is used from its own day on
first_version : version_at (small ∷ record small { effective = february_2020 8 } ∷ []) (february_2020 7)
    ≡ Some 0
first_version = refl

second_version : version_at (small ∷ record small { effective = february_2020 8 } ∷ []) (february_2020 8)
    ≡ Some 1
second_version = refl

-- none is used on 2019-12-31
no_version : version_at (small ∷ []) (january_2020 0) ≡ None
no_version = refl
