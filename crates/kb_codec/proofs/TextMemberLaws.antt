-- The texts of a command are read as they are spelled, and were spelled as they are read.
use Rattle.std.proofs.Common.{ℕ, ◌≡◌, ◌<◌, ◌^◌, List, ◌++◌, length, Some, Result, Ok, Err, refl, subst}
use Rattle.std.proofs.Common.{append_assoc}
use Rattle.kb_catalog.specs.declared.version.Version.{Version}
use Rattle.kb_overdue.specs.declared.state.OverdueState.{OverdueState}
use Rattle.kb_catalog_text.specs.declared.fault.TextFault.{TextFault}
use Rattle.kb_catalog_text.specs.Texts.{CatalogText, OverdueText, catalog_read, overdue_read}
use Rattle.kb_codec.specs.Members.{four_bytes, text_bytes}
use Rattle.kb_codec.specs.Commands.{IsCatalogText, IsOverdueText}
use Rattle.kb_codec.specs.Reading.{bytes_in, four_in, text_in}
use Rattle.kb_codec.specs.TextReading.{catalog_in, catalog_of, with_version}
use Rattle.kb_codec.specs.TextReading.{overdue_in, overdue_of, with_states}
use Rattle.kb_codec.specs.MemberKinds.{catalog, overdue}
use Rattle.kb_codec.proofs.Readers.{IsBytes, IsBytes-drop, some_is, made_some, chained_some}
use Rattle.kb_codec.proofs.Readers.{made_again, chained_again, bytes_some, bytes_again}
use Rattle.kb_codec.proofs.MemberLaws.{WasRead, IsExact, four_again, four_some}
use Rattle.kb_codec.proofs.ShortTexts.{catalog_short, overdue_short}

-- a text, behind its length
text_again : (text rest : List ℕ) → length text < 2 ^ 32
    → text_in (text_bytes text ++ rest) ≡ Some (text, rest)
unfolding text_in text_bytes
text_again text rest lt =
    rw (append_assoc (four_bytes (length text)) text rest)
    (chained_again four_in bytes_in (four_bytes (length text) ++ (text ++ rest)) (length text)
    (text ++ rest) text rest (four_again (length text) (text ++ rest) lt)
    (bytes_again (length text) text rest refl))

text_some : (bytes text rest : List ℕ) → IsBytes bytes → text_in bytes ≡ Some (text, rest)
    → (bytes ≡ text_bytes text ++ rest) × IsBytes rest
unfolding text_in text_bytes
text_some bytes text rest fits e =
    let a = chained_some four_in bytes_in bytes text rest e in
    let n = four_some bytes a.0 a.1 fits a.2 in
    let b = bytes_some a.0 a.1 text rest a.3 in (
      rw (append_assoc (four_bytes (length text)) text rest, b.1, ← b.0) n.spelled,
      rw b.3
          (IsBytes-drop a.0 a.1 n.bytes_left),
    )

with_version_some : (text : List ℕ) (read : Result Version TextFault) (value : CatalogText)
    → catalog_read text ≡ read → with_version text read ≡ Some value
    → (text ≡ value.text) × IsCatalogText value
with_version_some text (Ok version) value h e =
    let same : record { text = text; version = version } ≡ value = some_is _ value e in
    subst (λ (v : CatalogText). (text ≡ v.text) × IsCatalogText v) same (refl, h)
with_version_some text (Err fault) value h e = absurd cc

of_catalog : (text : List ℕ) (value : CatalogText) → catalog_of text ≡ Some value
    → (text ≡ value.text) × IsCatalogText value
of_catalog text value e = with_version_some text (catalog_read text) value refl e

catalog_back : (value : CatalogText) → IsCatalogText value → catalog_of value.text ≡ Some value
catalog_back value h = rw h refl

catalog_again : (value : CatalogText) (rest : List ℕ) → IsCatalogText value
    → catalog_in (text_bytes value.text ++ rest) ≡ Some (value, rest)
unfolding catalog_in
catalog_again value rest h = made_again catalog_of text_in (text_bytes value.text ++ rest) value.text value
    rest (text_again value.text rest (catalog_short value.text value.version h)) (catalog_back value h)

catalog_sound : (bytes : List ℕ) (value : CatalogText) (rest : List ℕ) → IsBytes bytes
    → catalog_in bytes ≡ Some (value, rest) → WasRead catalog bytes value rest
unfolding catalog_in
catalog_sound bytes value rest fits e =
    let a = made_some catalog_of text_in bytes value rest e in
    let t = text_some bytes a.0 rest fits a.1 in
    let v = of_catalog a.0 value a.2 in
    record { spelled = rw (← v.0) t.0; allowed = v.1; bytes_left = t.1 }

pub catalog_exact : IsExact catalog
catalog_exact = record { again = catalog_again; sound = catalog_sound }

with_states_some : (text : List ℕ) (read : Result (List OverdueState) TextFault) (value : OverdueText)
    → overdue_read text ≡ read → with_states text read ≡ Some value
    → (text ≡ value.text) × IsOverdueText value
with_states_some text (Ok states) value h e =
    let same : record { text = text; states = states } ≡ value = some_is _ value e in
    subst (λ (v : OverdueText). (text ≡ v.text) × IsOverdueText v) same (refl, h)
with_states_some text (Err fault) value h e = absurd cc

of_overdue : (text : List ℕ) (value : OverdueText) → overdue_of text ≡ Some value
    → (text ≡ value.text) × IsOverdueText value
of_overdue text value e = with_states_some text (overdue_read text) value refl e

overdue_back : (value : OverdueText) → IsOverdueText value → overdue_of value.text ≡ Some value
overdue_back value h = rw h refl

overdue_again : (value : OverdueText) (rest : List ℕ) → IsOverdueText value
    → overdue_in (text_bytes value.text ++ rest) ≡ Some (value, rest)
unfolding overdue_in
overdue_again value rest h = made_again overdue_of text_in (text_bytes value.text ++ rest) value.text value
    rest (text_again value.text rest (overdue_short value.text value.states h)) (overdue_back value h)

overdue_sound : (bytes : List ℕ) (value : OverdueText) (rest : List ℕ) → IsBytes bytes
    → overdue_in bytes ≡ Some (value, rest) → WasRead overdue bytes value rest
unfolding overdue_in
overdue_sound bytes value rest fits e =
    let a = made_some overdue_of text_in bytes value rest e in
    let t = text_some bytes a.0 rest fits a.1 in
    let v = of_overdue a.0 value a.2 in
    record { spelled = rw (← v.0) t.0; allowed = v.1; bytes_left = t.1 }

pub overdue_exact : IsExact overdue
overdue_exact = record { again = overdue_again; sound = overdue_sound }
