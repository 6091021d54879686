-- What a text is read as, from its bytes to the value that it says, and each fault.
use Rattle.std.specs.Prelude.{ℕ, ◌≡◌, ◌<◌, ◌≤◌, nat_lt, List, length, if◌then◌else◌, Option, Some, None}
use Rattle.std.specs.Prelude.{Result, Ok, Err}
use Rattle.std.specs.Str.{is_utf8}
use Rattle.toml.specs.Data.{Members}
use Rattle.toml.specs.Parse.{parse_document}
use Rattle.kb_catalog.specs.declared.version.Version.{Version}
use Rattle.kb_catalog.specs.declared.rule.CatalogFault.{CatalogFault}
use Rattle.kb_catalog.specs.RuleNumbers.{rule_number}
use Rattle.kb_catalog.specs.VersionRules.{fault_of}
use Rattle.kb_overdue.specs.declared.state.OverdueState.{OverdueState}
use Rattle.kb_overdue.specs.declared.config.ConfigFault.{ConfigFault}
use Rattle.kb_overdue.specs.ConfigRules.{fault_of as config_fault_of, rule_number as config_rule_number}
use Rattle.kb_catalog_text.specs.declared.fault.TextFault.{TextFault}
use Rattle.kb_catalog_text.specs.declared.fault.TextFault.TheVariants as text
use Rattle.kb_catalog_text.specs.declared.key_fault.KeyFault.{KeyFault}
use Rattle.kb_catalog_text.specs.declared.key_fault.KeyFault.TheVariants as at
use Rattle.kb_catalog_text.specs.Reads.{Read}
use Rattle.kb_catalog_text.specs.CatalogText.{version_in}
use Rattle.kb_catalog_text.specs.OverdueText.{states_in}

-- the most bytes that a text has
abbrev pub max_bytes : ℕ
max_bytes = 60000

-- the document that a text is, if it is TOML
unfoldable pub document_of : List ℕ → Option Members
document_of bytes = if is_utf8 bytes then parse_document bytes else None

-- the fault of a text at a key
abbrev pub fault_at : KeyFault → TextFault
fault_at (at.Missing key) = text.Missing key
fault_at (at.WrongKind key) = text.WrongKind key
fault_at (at.Unknown key) = text.Unknown key
fault_at at.Memory = text.Memory

-- the number of a fault
abbrev pub fault_number : TextFault → ℕ
fault_number text.NotToml = 1
fault_number (text.Missing key) = 2
fault_number (text.WrongKind key) = 3
fault_number (text.Unknown key) = 4
fault_number (text.Rule rule index) = 5
fault_number text.Memory = 6
fault_number (text.TooLong count) = 7

-- what a text says by its keys, and then by the rules of what it says
abbrev pub judged : {A : Type 0} → (A → Result A TextFault) → Read A → Result A TextFault
judged rules (Ok value) = rules value
judged rules (Err fault) = Err (fault_at fault)

-- what a text is read as: it isn't too long, then it is TOML, then its keys are read, and then its rules are
-- tried
unfoldable pub text_read : {A : Type 0} → (A → Result A TextFault) → (Members → Read A) → List ℕ
    → Result A TextFault
text_read {A} rules read bytes =
    if nat_lt max_bytes (length bytes) then Err (text.TooLong (length bytes))
    else of_document (document_of bytes)
  where
    of_document : Option Members → Result A TextFault
    of_document None = Err text.NotToml
    of_document (Some members) = judged rules (read members)

-- a version, if its rules hold
abbrev pub version_judged : Version → Result Version TextFault
version_judged version = of_fault (fault_of version)
  where
    of_fault : Option CatalogFault → Result Version TextFault
    of_fault None = Ok version
    of_fault (Some fault) = Err (text.Rule (rule_number fault.rule) fault.index)

-- the version that a catalog text says
abbrev pub catalog_read : List ℕ → Result Version TextFault
catalog_read bytes = text_read version_judged version_in bytes

-- overdue states, if their rules hold
abbrev pub states_judged : List OverdueState → Result (List OverdueState) TextFault
states_judged states = of_fault (config_fault_of states)
  where
    of_fault : Option ConfigFault → Result (List OverdueState) TextFault
    of_fault None = Ok states
    of_fault (Some fault) = Err (text.Rule (config_rule_number fault.rule) fault.index)

-- the overdue states that an overdue text says
abbrev pub overdue_read : List ℕ → Result (List OverdueState) TextFault
overdue_read bytes = text_read states_judged states_in bytes

-- a catalog text that was read, and the version that it says
pub record CatalogText : Type 0 where
  pub text : List ℕ
  pub version : Version

-- an overdue text that was read, and the states that it says
pub record OverdueText : Type 0 where
  pub text : List ℕ
  pub states : List OverdueState

-- what is told of a text is what it is read as, unless memory ran out
abbrev pub IsFaultOf : {A : Type 0} → Result A TextFault → TextFault → Type 0
IsFaultOf read fault = (fault ≡ text.Memory → ⊥) → read ≡ Err fault

-- why a text has no document: it is too long, or it isn't TOML, or memory ran out while it was read
abbrev pub IsNoDocument : List ℕ → TextFault → Type 0
IsNoDocument bytes text.NotToml = (length bytes ≤ max_bytes) × (document_of bytes ≡ None)
IsNoDocument bytes text.Memory = length bytes ≤ max_bytes
IsNoDocument bytes (text.TooLong count) = (max_bytes < length bytes) × (count ≡ length bytes)
IsNoDocument bytes (text.Missing key) = ⊥
IsNoDocument bytes (text.WrongKind key) = ⊥
IsNoDocument bytes (text.Unknown key) = ⊥
IsNoDocument bytes (text.Rule rule index) = ⊥
