-- How a text that a command hands in is read from the front of some bytes.
use Rattle.std.specs.Prelude.{ℕ, ◌≡◌, List, [], ◌∷◌, Option, Some, None, Result, Ok, Err, refl}
use Rattle.std.specs.Str.{is_utf8, chars}
use Rattle.toml.proofs.OnLiterals.{toml_on_literals}
use Rattle.kb_catalog.specs.declared.version.Version.{Version}
use Rattle.kb_overdue.specs.declared.state.OverdueState.{OverdueState}
use Rattle.kb_catalog_text.specs.declared.fault.TextFault.{TextFault}
use Rattle.kb_catalog_text.specs.Texts.{CatalogText, OverdueText, catalog_read, overdue_read, text_read}
use Rattle.kb_catalog_text.specs.Texts.{document_of}
use Rattle.kb_catalog_text.specs.OverdueText.{states_in}
use Rattle.kb_overdue.specs.ConfigRules.{fault_of, is_broken_at}
use Rattle.kb_catalog_text.specs.Reads.{keys_read, first_failing, read_or}
use Rattle.kb_codec.specs.Reading.{Reader, made, four_in, text_in}

-- a text with the version that it says, if it says one
abbrev pub with_version : List ℕ → Result Version TextFault → Option CatalogText
with_version text (Ok version) = Some (record { text = text; version = version })
with_version text (Err fault) = None

-- the catalog text that a text is
abbrev pub catalog_of : List ℕ → Option CatalogText
catalog_of text = with_version text (catalog_read text)

-- a catalog text
unfoldable pub catalog_in : Reader CatalogText
catalog_in bytes = made catalog_of text_in bytes

-- a text with the states that it says, if it says some
abbrev pub with_states : List ℕ → Result (List OverdueState) TextFault → Option OverdueText
with_states text (Ok states) = Some (record { text = text; states = states })
with_states text (Err fault) = None

-- the overdue text that a text is
abbrev pub overdue_of : List ℕ → Option OverdueText
overdue_of text = with_states text (overdue_read text)

-- an overdue text
unfoldable pub overdue_in : Reader OverdueText
overdue_in bytes = made overdue_of text_in bytes

-- an empty overdue text, of length 0, says no state
no_states : overdue_in (0 ∷ 0 ∷ 0 ∷ 0 ∷ 7 ∷ []) ≡ Some (record { text = []; states = [] }, 7 ∷ [])
unfolding overdue_in text_in four_in toml_on_literals is_utf8 chars text_read document_of states_in keys_read
    first_failing read_or fault_of is_broken_at
no_states = refl
