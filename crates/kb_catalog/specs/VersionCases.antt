-- The cases of a version's rules.
use Rattle.std.specs.Prelude.{ℕ, Bool, false, not, ◌||◌, List, Option, Some, None}
use Rattle.std.specs.List.{list_any}
use Rattle.kb_catalog.specs.declared.rules.PlanCondition.{PlanCondition}
use Rattle.kb_catalog.specs.Cases.{Asks, ends_open}
use Rattle.kb_catalog.specs.declared.version.Version.{Version}
use Rattle.kb_catalog.specs.VersionProducts.{has_product}
use Rattle.kb_catalog.specs.VersionLists.{has_list}

-- a name, if one is asked for, is missing by a test of what is there
abbrev pub misses : (List ℕ → Bool) → Option (List ℕ) → Bool
misses there None = false
misses there (Some name) = not (there name)

-- a plan condition names a product or a list that isn't there
abbrev pub names_wrongly : Version → PlanCondition → Bool
names_wrongly version condition = misses (has_product version) condition.product
    || misses (has_list version) condition.list

-- the condition on the plan asked for names such a one
abbrev pub names_wrongly_to : Version → Option PlanCondition → Bool
names_wrongly_to version None = false
names_wrongly_to version (Some condition) = names_wrongly version condition

-- a case names a product or a list that isn't there
abbrev pub case_names_wrongly : Version → Asks → Bool
case_names_wrongly version asks = names_wrongly version asks.from || names_wrongly_to version asks.to

-- a rule list is empty, its last case has a condition, or a case names a product or list that isn't there
abbrev pub decides_wrongly : {A : Type 0} → Version → (A → Asks) → List A → Bool
decides_wrongly version asks cases = not (ends_open asks cases)
    || list_any (λ case. case_names_wrongly version (asks case)) cases
