-- The texts of a lane, and what becomes of one that is handed in.
use Rattle.std.specs.Prelude.{ℕ, ◌+◌, ◌-◌, ◌==◌, Bool, false, nat_le, bytes_eq, List, [], ◌∷◌, ◌++◌, length}
use Rattle.std.specs.Prelude.{slice_get, Option, Some, None, if◌then◌else◌}
use Rattle.std.specs.FinMap.{find, put}
use Rattle.kb_sharing.specs.Keys.{by_words}
use Rattle.kb_catalog.specs.declared.version.Version.{Version}
use Rattle.kb_catalog.specs.Catalogs.{max_versions}
use Rattle.kb_codec.specs.declared.command.Catalog.{Catalog}
use Rattle.kb_codec.specs.declared.command.OverdueRules.{OverdueRules}
use Rattle.kb_codec.specs.declared.command.Command.TheVariants as kinds
use Rattle.kb_codec.specs.CommandBytes.{spelling}
use Rattle.kb_book.specs.declared.refusal.Refusal.TheVariants.{KeyReused, VersionOrder}
use Rattle.kb_book.specs.Worlds.{WorldValue}
use Rattle.kb_book.specs.Books.{Keyed}
use Rattle.kb_book.specs.Rows.{Rows, first_refusal, limit}
use Rattle.kb_machine.specs.Judged.{Judged, New, Again, Refused, unless_refused}

-- what is kept of an accepted text for good: its spelling, and the number that was told: of versions for a
-- catalog text, of states for an overdue text
pub record KeptText : Type 0 where
  pub spelling : List ℕ
  pub number : ℕ

-- What the texts of a lane say, and those that were accepted, by their request keys. The keys of catalog
-- texts and those of overdue texts are kept apart.
pub record TextsValue : Type 0 where
  pub world : WorldValue
  pub catalogs : Keyed KeptText
  pub overdues : Keyed KeptText

-- no text yet
abbrev pub no_texts : TextsValue
no_texts = record { world = record { versions = []; states = [] }; catalogs = []; overdues = [] }

-- a text whose key was used gets its number again if it is the same text, and is refused if it is another one
abbrev pub by_key : {A : Type 0} → Option KeptText → List ℕ → Judged ℕ A → Judged ℕ A
by_key None spelled new = new
by_key (Some kept) spelled new =
    if bytes_eq kept.spelling spelled then Again kept.number else Refused KeyReused

-- a version isn't dated after the last one
abbrev pub is_dated_before : Option Version → Version → Bool
is_dated_before None version = false
is_dated_before (Some last) version = nat_le version.effective last.effective

abbrev pub last_version : List Version → Option Version
last_version versions = slice_get versions (length versions - 1)

-- the refusals of a catalog text whose key is new, in their order
abbrev pub catalog_rows : List Version → Version → Rows
catalog_rows versions version =
    (is_dated_before (last_version versions) version, VersionOrder)
    ∷ (length versions == max_versions, limit 7 max_versions) ∷ []

-- what there is with a catalog text more
abbrev pub with_catalog : TextsValue → Catalog → TextsValue
with_catalog texts c = record texts {
  world = record texts.world { versions = texts.world.versions ++ c.text.version ∷ [] };
  catalogs = put by_words c.key
      (record { spelling = spelling (kinds.Catalog c); number = length texts.world.versions + 1 })
      texts.catalogs;
}

abbrev pub new_catalog : TextsValue → Catalog → Judged ℕ TextsValue
new_catalog texts c =
    unless_refused (first_refusal (catalog_rows texts.world.versions c.text.version))
    (New (length texts.world.versions + 1) (with_catalog texts c))

-- what a catalog text comes to: a new one adds its version
abbrev pub catalog_judged : TextsValue → Catalog → Judged ℕ TextsValue
catalog_judged texts c =
    by_key (find by_words c.key texts.catalogs) (spelling (kinds.Catalog c)) (new_catalog texts c)

-- what there is with an overdue text more
abbrev pub with_overdue : TextsValue → OverdueRules → TextsValue
with_overdue texts c = record texts {
  world = record texts.world { states = c.text.states };
  overdues = put by_words c.key
      (record { spelling = spelling (kinds.OverdueRules c); number = length c.text.states }) texts.overdues;
}

-- what an overdue text comes to: its states take the place of those before
abbrev pub overdue_judged : TextsValue → OverdueRules → Judged ℕ TextsValue
overdue_judged texts c =
    by_key (find by_words c.key texts.overdues) (spelling (kinds.OverdueRules c))
    (New (length c.text.states) (with_overdue texts c))
