-- What each fault of a text comes from.
use Rattle.std.proofs.Common.{◌≡◌, ℕ, ◌<◌, ◌≤◌, Bool, true, false, nat_lt, List, length, Option, Some, None}
use Rattle.std.proofs.Common.{Result, Ok, Err, refl, arith}
use Rattle.std.proofs.lemmas.Bool.Decides.{nat_tests}
use Rattle.toml.specs.Data.{Members}
use Rattle.kb_catalog.specs.declared.rule.CatalogFault.{CatalogFault}
use Rattle.kb_catalog.specs.RuleNumbers.{rule_number}
use Rattle.kb_catalog.specs.VersionRules.{fault_of}
use Rattle.kb_overdue.specs.declared.config.ConfigFault.{ConfigFault}
use Rattle.kb_overdue.specs.ConfigRules.{fault_of as config_fault_of, rule_number as config_rule_number}
use Rattle.kb_catalog_text.specs.declared.fault.TextFault.{TextFault}
use Rattle.kb_catalog_text.specs.declared.fault.TextFault.TheVariants.{NotToml, TooLong, Rule}
use Rattle.kb_catalog_text.specs.declared.key_fault.KeyFault.TheVariants.{Missing, WrongKind, Unknown, Memory}
use Rattle.kb_catalog_text.specs.Reads.{Read}
use Rattle.kb_catalog_text.specs.Texts.{max_bytes, document_of, judged, text_read, version_judged}
use Rattle.kb_catalog_text.specs.Texts.{states_judged, catalog_read, overdue_read}

-- a fault is that of a broken rule
abbrev IsOfRule : TextFault → Type 0
IsOfRule fault = (rule : ℕ) × (index : ℕ) × (fault ≡ Rule rule index)

-- the rules of what a text says tell no other fault
abbrev TellsRules : {A : Type 0} → (A → Result A TextFault) → Type 0
TellsRules {A} rules = (value : A) (fault : TextFault) → rules value ≡ Err fault → IsOfRule fault

version_judged-rules : TellsRules version_judged
version_judged-rules version fault told = by_fault (fault_of version) refl
  where
    by_fault : (found : Option CatalogFault) → fault_of version ≡ found → IsOfRule fault
    by_fault None is = let other = rw is at told in absurd (cc)
    by_fault (Some broken) is = let same = rw is at told in (rule_number broken.rule, broken.index, cc)

states_judged-rules : TellsRules states_judged
states_judged-rules states fault told = by_fault (config_fault_of states) refl
  where
    by_fault : (found : Option ConfigFault) → config_fault_of states ≡ found → IsOfRule fault
    by_fault None is = let other = rw is at told in absurd (cc)
    by_fault (Some broken) is = let same = rw is at told in (config_rule_number broken.rule, broken.index, cc)

module _ {A : Type 0} (rules : A → Result A TextFault) (tells : TellsRules rules) (read : Members → Read A)
    (bytes : List ℕ) where
  -- what a document says isn't that the text is no TOML, nor that it is too long
  judged-toml : (said : Read A) → judged rules said ≡ Err NotToml → ⊥
  judged-toml (Ok value) told = let rule = (tells value NotToml told).2 in absurd (cc)
  judged-toml (Err (Missing key)) told = absurd (cc)
  judged-toml (Err (WrongKind key)) told = absurd (cc)
  judged-toml (Err (Unknown key)) told = absurd (cc)
  judged-toml (Err Memory) told = absurd (cc)

  judged-short : (count : ℕ) (said : Read A) → judged rules said ≡ Err (TooLong count) → ⊥
  judged-short count (Ok value) told = let rule = (tells value (TooLong count) told).2 in absurd (cc)
  judged-short count (Err (Missing key)) told = absurd (cc)
  judged-short count (Err (WrongKind key)) told = absurd (cc)
  judged-short count (Err (Unknown key)) told = absurd (cc)
  judged-short count (Err Memory) told = absurd (cc)

  -- a text is told to be no TOML only where it isn't too long and has no document
  text_read-not_toml : text_read rules read bytes ≡ Err NotToml → (length bytes ≤ max_bytes)
      × (document_of bytes ≡ None)
  unfolding text_read
  text_read-not_toml told = by_length (nat_lt max_bytes (length bytes)) refl
    where
      by_document : (document : Option Members) → nat_lt max_bytes (length bytes) ≡ false
          → document_of bytes ≡ document
          → (length bytes ≤ max_bytes) × (document_of bytes ≡ None)
      by_document None short is = (grind (arith, nat_tests), is)
      by_document (Some members) short is = let said = rw (short, is) at told
          in absurd (judged-toml (read members) said)

      by_length : (long : Bool) → nat_lt max_bytes (length bytes) ≡ long → (length bytes ≤ max_bytes)
          × (document_of bytes ≡ None)
      by_length true is = let said = rw is at told in absurd (cc)
      by_length false is = by_document (document_of bytes) is refl

  -- a text is told to be too long only where it is, and so long
  text_read-too_long : (count : ℕ) → text_read rules read bytes ≡ Err (TooLong count)
      → (max_bytes < length bytes) × (count ≡ length bytes)
  unfolding text_read
  text_read-too_long count told = by_length (nat_lt max_bytes (length bytes)) refl
    where
      by_document : (document : Option Members) → nat_lt max_bytes (length bytes) ≡ false
          → document_of bytes ≡ document
          → (max_bytes < length bytes) × (count ≡ length bytes)
      by_document None short is = let said = rw (short, is) at told in absurd (cc)
      by_document (Some members) short is = let said = rw (short, is) at told
          in absurd (judged-short count (read members) said)

      by_length : (long : Bool) → nat_lt max_bytes (length bytes) ≡ long → (max_bytes < length bytes)
          × (count ≡ length bytes)
      by_length true is = let said = rw is at told in (grind (arith, nat_tests), cc)
      by_length false is = by_document (document_of bytes) is refl

pub catalog-not_toml : (bytes : List ℕ) → catalog_read bytes ≡ Err NotToml → (length bytes ≤ max_bytes)
    × (document_of bytes ≡ None)
catalog-not_toml bytes told = text_read-not_toml version_judged version_judged-rules _ bytes told

pub catalog-too_long : (bytes : List ℕ) (count : ℕ) → catalog_read bytes ≡ Err (TooLong count)
    → (max_bytes < length bytes) × (count ≡ length bytes)
catalog-too_long bytes count told = text_read-too_long version_judged version_judged-rules _ bytes count told

pub overdue-not_toml : (bytes : List ℕ) → overdue_read bytes ≡ Err NotToml → (length bytes ≤ max_bytes)
    × (document_of bytes ≡ None)
overdue-not_toml bytes told = text_read-not_toml states_judged states_judged-rules _ bytes told

pub overdue-too_long : (bytes : List ℕ) (count : ℕ) → overdue_read bytes ≡ Err (TooLong count)
    → (max_bytes < length bytes) × (count ≡ length bytes)
overdue-too_long bytes count told = text_read-too_long states_judged states_judged-rules _ bytes count told

pub ruleset causes = (catalog-not_toml, catalog-too_long, overdue-not_toml, overdue-too_long)
