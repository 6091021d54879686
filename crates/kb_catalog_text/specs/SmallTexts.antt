-- Small texts, and what they are read as.
use Rattle.std.specs.Prelude.{ℕ, ◌≡◌, List, [], ◌∷◌, ◌++◌, codes, true, false, Some, None, Ok, Err, refl}
use Rattle.std.specs.Str.{is_utf8, chars}
use Rattle.toml.proofs.OnLiterals.{toml_on_literals}
use Rattle.kb_days.specs.Calendar.{month_of, day_of_month, month_after, month_start, month_length}
use Rattle.kb_days.specs.DateText.{read_day, named_day, date_text, civil_text}
use Rattle.kb_catalog.specs.SmallVersion.{small}
use Rattle.kb_overdue.specs.ConfigRules.{fault_of, is_broken_at}
use Rattle.kb_catalog_text.specs.declared.fault.TextFault.TheVariants.{NotToml, Unknown}
use Rattle.kb_catalog_text.specs.Reads.{keys_read, first_failing, required, optional, read_or, read_array}
use Rattle.kb_catalog_text.specs.Reads.{read_table, read_items}
use Rattle.kb_catalog_text.specs.Kinds.{name_in, currency_in, day_in, word_in, count_in, amount_in}
use Rattle.kb_catalog_text.specs.Kinds.{threshold_in, format_in, text_where, number_in}
use Rattle.kb_catalog_text.specs.CatalogEntries.{product_in, prices_in, amounts_in, phase_in, is_unlimited_in}
use Rattle.kb_catalog_text.specs.CatalogEntries.{span_in, length_in, plan_in, list_in, condition_in}
use Rattle.kb_catalog_text.specs.CatalogEntries.{change_case_in, plan_case_in, create_in, rules_in}
use Rattle.kb_catalog_text.specs.CatalogText.{version_in}
use Rattle.kb_catalog_text.specs.StateEntries.{state_in}
use Rattle.kb_catalog_text.specs.OverdueText.{states_in}
use Rattle.kb_catalog_text.specs.Texts.{text_read, document_of, catalog_read, overdue_read}

-- a text of lines
abbrev lines : List (List ℕ) → List ℕ
lines [] = []
lines (line ∷ later) = line ++ 10 ∷ lines later

-- the texts that a version's products, and its other tables, are said by
abbrev products : List ℕ
products = codes
    "product = [{name='Gold', category='BASE', available=['Help']}, {name='Help', category='ADD_ON'}]"

abbrev catalog_with : List ℕ → List ℕ
catalog_with product =
    lines (
    codes "format = 1"
    ∷ codes "effective = '2020-01-01'"
    ∷ codes "currencies = ['USD']"
    ∷ product
    ∷ codes "plan = [{name='gold-monthly', product='Gold', phase=[{type='EVERGREEN', unit='UNLIMITED', period='MONTHLY', recurring={USD=1000}}]}]"
    ∷ codes "list = [{name='DEFAULT', plans=['gold-monthly']}]"
    ∷ codes "[rules]"
    ∷ codes "change_policy = [{policy='IMMEDIATE'}]"
    ∷ codes "change_alignment = [{alignment='START_OF_SUBSCRIPTION'}]"
    ∷ codes "cancel_policy = [{policy='IMMEDIATE'}]"
    ∷ codes "create_alignment = [{alignment='START_OF_SUBSCRIPTION'}]"
    ∷ codes "billing_alignment = [{alignment='ACCOUNT'}]"
    ∷ []
    )

-- what these examples unfold to compute
small_version : catalog_read (catalog_with products) ≡ Ok small
unfolding toml_on_literals is_utf8 chars text_read document_of
    version_in product_in plan_in phase_in is_unlimited_in span_in length_in prices_in amounts_in list_in
    rules_in change_case_in plan_case_in create_in condition_in keys_read first_failing required optional
    read_or read_array read_table read_items name_in currency_in day_in word_in count_in amount_in
    format_in text_where number_in read_day named_day date_text civil_text month_of day_of_month
    month_after month_start month_length
small_version = refl

unknown_colour : catalog_read (catalog_with (codes "product = [{name='Gold', category='BASE', colour=1}]"))
    ≡ Err (Unknown (codes "colour"))
unfolding toml_on_literals is_utf8 chars text_read document_of version_in product_in keys_read first_failing
    required read_array read_table read_items name_in currency_in day_in format_in text_where
    number_in read_day named_day date_text civil_text month_of day_of_month month_after month_start
    month_length
unknown_colour = refl

-- a state that is taken after 7 days
abbrev late : List ℕ
late = codes
    "state = [{name='LATE', days=7, block_change=true, block_entitlement=false, block_billing=false}]"

one_state : overdue_read late ≡ Ok (record {
  name = codes "LATE";
  days = Some 7;
  count = None;
  total = None;
  block_change = true;
  block_entitlement = false;
  block_billing = false;
} ∷ [])
unfolding toml_on_literals is_utf8 chars text_read document_of states_in state_in keys_read first_failing
    required optional read_or read_array read_table read_items name_in threshold_in text_where
    number_in fault_of is_broken_at
one_state = refl

no_toml : overdue_read (codes "state = ") ≡ Err NotToml
unfolding toml_on_literals is_utf8 chars text_read document_of
no_toml = refl
