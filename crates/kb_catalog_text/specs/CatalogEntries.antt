-- The entries of a catalog text: what its tables say, with their keys in order, and the first fault.
use Rattle.std.specs.Prelude.{ℕ, Bool, true, false, bytes_eq, List, [], ◌∷◌, ◌++◌, codes, if◌then◌else◌}
use Rattle.std.specs.Prelude.{Option, Some, None, Ok}
use Rattle.toml.specs.Data.{Data, Members, no_members, member, get_member, as_str}
use Rattle.kb_days.specs.declared.period.Period.TheVariants.{NoBillingPeriod}
use Rattle.kb_days.specs.declared.span.Span.{Span}
use Rattle.kb_days.specs.declared.span.Span.TheVariants as span
use Rattle.kb_money.specs.Currency.{is_currency}
use Rattle.kb_catalog.specs.declared.product.Product.{Product}
use Rattle.kb_catalog.specs.declared.plan.Plan.{Plan}
use Rattle.kb_catalog.specs.declared.phase.Phase.{Phase}
use Rattle.kb_catalog.specs.declared.phase.Price.{Price}
use Rattle.kb_catalog.specs.declared.price_list.PriceList.{PriceList}
use Rattle.kb_catalog.specs.declared.rules.Rules.{Rules}
use Rattle.kb_catalog.specs.declared.rules.PlanCondition.{PlanCondition}
use Rattle.kb_catalog.specs.declared.rules.ChangeCase.{ChangeCase}
use Rattle.kb_catalog.specs.declared.rules.PlanCase.{PlanCase}
use Rattle.kb_catalog.specs.declared.rules.CreateCase.{CreateCase}
use Rattle.kb_catalog.specs.declared.words.Policy.{Policy}
use Rattle.kb_catalog.specs.declared.words.Align.{Align}
use Rattle.kb_catalog.specs.declared.words.BillingAlign.{BillingAlign}
use Rattle.kb_catalog_text.specs.declared.span_unit.SpanUnit.{SpanUnit}
use Rattle.kb_catalog_text.specs.declared.span_unit.SpanUnit.TheVariants as unit
use Rattle.kb_catalog_text.specs.Reads.{Read, and_then, keys_read, is_among, read_as, required, optional}
use Rattle.kb_catalog_text.specs.Reads.{read_or, read_table, read_array}
use Rattle.kb_catalog_text.specs.Words.{period_words, category_words, phase_words, unit_words, policy_words}
use Rattle.kb_catalog_text.specs.Words.{create_align_words, align_words, billing_align_words}
use Rattle.kb_catalog_text.specs.Kinds.{name_in, word_in, count_in, amount_in}

-- a product
abbrev pub product_keys : List (List ℕ)
product_keys = codes "name" ∷ codes "category" ∷ codes "available" ∷ codes "included" ∷ []

unfoldable pub product_in : Members → Read Product
product_in members =
    and_then (keys_read (is_among product_keys) members) (λ _.
    and_then (required (read_as name_in) (codes "name") members) (λ name.
    and_then (required (read_as (word_in category_words)) (codes "category") members) (λ category.
    and_then (read_or [] (read_array (read_as name_in)) (codes "available") members) (λ available.
    and_then (read_or [] (read_array (read_as name_in)) (codes "included") members) (λ included.
    Ok (record { name = name; category = category; available = available; included = included }))))))

-- the prices of a table: a key for each currency
unfoldable pub amounts_in : Members → Read (List Price)
amounts_in no_members = Ok []
amounts_in (member key value later) =
    and_then (read_as amount_in key value) (λ amount.
    and_then (amounts_in later) (λ rest.
    Ok (record { currency = key; amount = amount } ∷ rest)))

unfoldable pub prices_in : Members → Read (List Price)
prices_in members = and_then (keys_read is_currency members) (λ _. amounts_in members)

-- a value is a word
abbrev pub is_word : List ℕ → Data → Bool
is_word word value = of_text (as_str value)
  where
    of_text : Option (List ℕ) → Bool
    of_text None = false
    of_text (Some text) = bytes_eq text word

-- the keys of a phase; an unlimited one has no length
unfoldable pub is_unlimited_in : Members → Bool
is_unlimited_in members = of_value (get_member (codes "unit") members)
  where
    of_value : Option Data → Bool
    of_value None = false
    of_value (Some value) = is_word (codes "UNLIMITED") value

abbrev pub phase_keys : Bool → List (List ℕ)
phase_keys true = codes "type" ∷ codes "unit" ∷ codes "fixed" ∷ codes "period" ∷ codes "recurring" ∷ []
phase_keys false = codes "type" ∷ codes "unit" ∷ codes "length" ∷ codes "fixed" ∷ codes "period"
    ∷ codes "recurring" ∷ []

-- a unit is counted
abbrev pub is_counted : SpanUnit → Bool
is_counted unit.Days = true
is_counted unit.Weeks = true
is_counted unit.Months = true
is_counted unit.Years = true
is_counted unit.Unlimited = false

-- so many units; none are counted without end
abbrev pub span_of : SpanUnit → ℕ → Span
span_of unit.Days count = span.Days count
span_of unit.Weeks count = span.Weeks count
span_of unit.Months count = span.Months count
span_of unit.Years count = span.Years count
span_of unit.Unlimited count = span.Unlimited

-- how long a phase is
unfoldable pub length_in : SpanUnit → Members → Read Span
length_in unit members =
    if is_counted unit then and_then (required (read_as count_in) (codes "length") members)
    (λ count. Ok (span_of unit count))
    else Ok span.Unlimited

unfoldable pub span_in : Members → Read Span
span_in members = and_then (required (read_as (word_in unit_words)) (codes "unit") members)
    (λ unit. length_in unit members)

-- a phase
unfoldable pub phase_in : Members → Read Phase
phase_in members =
    and_then (keys_read (is_among (phase_keys (is_unlimited_in members))) members) (λ _.
    and_then (required (read_as (word_in phase_words)) (codes "type") members) (λ kind.
    and_then (span_in members) (λ span.
    and_then (read_or [] (read_table prices_in) (codes "fixed") members) (λ fixed.
    and_then (read_or NoBillingPeriod (read_as (word_in period_words)) (codes "period") members) (λ period.
    and_then (read_or [] (read_table prices_in) (codes "recurring") members) (λ recurring.
    Ok (record { kind = kind; span = span; fixed = fixed; period = period; recurring = recurring })))))))

-- a plan
abbrev pub plan_keys : List (List ℕ)
plan_keys = codes "name" ∷ codes "product" ∷ codes "phase" ∷ []

unfoldable pub plan_in : Members → Read Plan
plan_in members =
    and_then (keys_read (is_among plan_keys) members) (λ _.
    and_then (required (read_as name_in) (codes "name") members) (λ name.
    and_then (required (read_as name_in) (codes "product") members) (λ product.
    and_then (required (read_array (read_table phase_in)) (codes "phase") members) (λ phases.
    Ok (record { name = name; product = product; phases = phases })))))

-- a price list
abbrev pub list_keys : List (List ℕ)
list_keys = codes "name" ∷ codes "plans" ∷ []

unfoldable pub list_in : Members → Read PriceList
list_in members =
    and_then (keys_read (is_among list_keys) members) (λ _.
    and_then (required (read_as name_in) (codes "name") members) (λ name.
    and_then (required (read_array (read_as name_in)) (codes "plans") members) (λ plans.
    Ok (record { name = name; plans = plans }))))

-- the conditions on a plan, at these four keys
unfoldable pub condition_in : List ℕ → List ℕ → List ℕ → List ℕ → Members → Read PlanCondition
condition_in product_key category_key period_key list_key members =
    and_then (optional (read_as name_in) product_key members) (λ product.
    and_then (optional (read_as (word_in category_words)) category_key members) (λ category.
    and_then (optional (read_as (word_in period_words)) period_key members) (λ period.
    and_then (optional (read_as name_in) list_key members) (λ list.
    Ok (record { product = product; category = category; period = period; list = list })))))

-- the conditions on the plan that is looked at, on the one that governs before a change, and on the one asked
-- for
abbrev pub plan_conditions_in : Members → Read PlanCondition
plan_conditions_in members = condition_in (codes "product") (codes "category") (codes "period") (codes "list")
    members

abbrev pub from_conditions_in : Members → Read PlanCondition
from_conditions_in members = condition_in (codes "from_product") (codes "from_category") (codes "from_period")
    (codes "from_list") members

abbrev pub to_conditions_in : Members → Read PlanCondition
to_conditions_in members = condition_in (codes "to_product") (codes "to_category") (codes "to_period")
    (codes "to_list") members

-- the cases of the five rule lists
abbrev pub change_keys : List (List ℕ)
change_keys =
    codes "from_product" ∷ codes "from_category" ∷ codes "from_period" ∷ codes "from_list" ∷ codes "phase"
    ∷ codes "to_product" ∷ codes "to_category" ∷ codes "to_period" ∷ codes "to_list" ∷ []

abbrev pub plan_keys_of_case : List (List ℕ)
plan_keys_of_case = codes "product" ∷ codes "category" ∷ codes "period" ∷ codes "list" ∷ []

unfoldable pub change_case_in : {T : Type 0} → (List ℕ → Data → Read T) → List ℕ → Members
    → Read (ChangeCase T)
change_case_in answer_in key members =
    and_then (keys_read (is_among (change_keys ++ key ∷ [])) members) (λ _.
    and_then (from_conditions_in members) (λ from.
    and_then (optional (read_as (word_in phase_words)) (codes "phase") members) (λ phase.
    and_then (to_conditions_in members) (λ to.
    and_then (required answer_in key members) (λ answer.
    Ok (record { from = from; phase = phase; to = to; answer = answer }))))))

abbrev pub change_policy_in : Members → Read (ChangeCase Policy)
change_policy_in = change_case_in (read_as (word_in policy_words)) (codes "policy")

abbrev pub change_alignment_in : Members → Read (ChangeCase Align)
change_alignment_in = change_case_in (read_as (word_in align_words)) (codes "alignment")

unfoldable pub plan_case_in : {T : Type 0} → (List ℕ → Data → Read T) → List ℕ → Members → Read (PlanCase T)
plan_case_in answer_in key members =
    and_then (keys_read (is_among (plan_keys_of_case ++ codes "phase" ∷ key ∷ [])) members) (λ _.
    and_then (plan_conditions_in members) (λ plan.
    and_then (optional (read_as (word_in phase_words)) (codes "phase") members) (λ phase.
    and_then (required answer_in key members) (λ answer.
    Ok (record { plan = plan; phase = phase; answer = answer })))))

abbrev pub cancel_in : Members → Read (PlanCase Policy)
cancel_in = plan_case_in (read_as (word_in policy_words)) (codes "policy")

abbrev pub billing_in : Members → Read (PlanCase BillingAlign)
billing_in = plan_case_in (read_as (word_in billing_align_words)) (codes "alignment")

unfoldable pub create_in : Members → Read CreateCase
create_in members =
    and_then (keys_read (is_among (plan_keys_of_case ++ codes "alignment" ∷ [])) members) (λ _.
    and_then (plan_conditions_in members) (λ plan.
    and_then (required (read_as (word_in create_align_words)) (codes "alignment") members) (λ alignment.
    Ok (record { plan = plan; alignment = alignment }))))

-- the rules
abbrev pub rules_keys : List (List ℕ)
rules_keys = codes "change_policy" ∷ codes "change_alignment" ∷ codes "cancel_policy"
    ∷ codes "create_alignment" ∷ codes "billing_alignment" ∷ []

unfoldable pub rules_in : Members → Read Rules
rules_in members =
    and_then (keys_read (is_among rules_keys) members) (λ _.
    and_then (required (read_array (read_table change_policy_in)) (codes "change_policy") members)
    (λ change_policy.
    and_then (required (read_array (read_table change_alignment_in)) (codes "change_alignment") members)
    (λ change_alignment.
    and_then (required (read_array (read_table cancel_in)) (codes "cancel_policy") members) (λ cancel_policy.
    and_then (required (read_array (read_table create_in)) (codes "create_alignment") members)
    (λ create_alignment.
    and_then (required (read_array (read_table billing_in)) (codes "billing_alignment") members)
    (λ billing_alignment.
    Ok (record {
      change_policy = change_policy;
      change_alignment = change_alignment;
      cancel_policy = cancel_policy;
      create_alignment = create_alignment;
      billing_alignment = billing_alignment;
    })))))))
