-- The words of a text, and what each stands for.
use Rattle.std.specs.Prelude.{ℕ, ◌≡◌, Bool, true, false, bytes_eq, List, [], ◌∷◌, map, codes, Option, Some}
use Rattle.std.specs.Prelude.{None, refl}
use Rattle.kb_days.specs.declared.period.Period.{Period}
use Rattle.kb_days.specs.declared.period.Period.TheVariants.{Daily, Weekly, Biweekly, ThirtyDays, Monthly}
use Rattle.kb_days.specs.declared.period.Period.TheVariants.{Quarterly, Biannual, Annual, Biennial}
use Rattle.kb_days.specs.declared.period.Period.TheVariants.{NoBillingPeriod}
use Rattle.kb_days.specs.Periods.{period_word}
use Rattle.kb_catalog.specs.declared.words.Category.{Category}
use Rattle.kb_catalog.specs.declared.words.Category.TheVariants.{Base, AddOn, Standalone}
use Rattle.kb_catalog.specs.declared.words.PhaseType.{PhaseType}
use Rattle.kb_catalog.specs.declared.words.PhaseType.TheVariants.{Trial, Discount, FixedTerm, Evergreen}
use Rattle.kb_catalog.specs.declared.words.Policy.{Policy}
use Rattle.kb_catalog.specs.declared.words.Policy.TheVariants.{Immediate, EndOfTerm, Illegal}
use Rattle.kb_catalog.specs.declared.words.CreateAlign.{CreateAlign}
use Rattle.kb_catalog.specs.declared.words.CreateAlign.TheVariants as create
use Rattle.kb_catalog.specs.declared.words.Align.{Align}
use Rattle.kb_catalog.specs.declared.words.Align.TheVariants as change
use Rattle.kb_catalog.specs.declared.words.BillingAlign.{BillingAlign}
use Rattle.kb_catalog.specs.declared.words.BillingAlign.TheVariants as billing
use Rattle.kb_catalog.specs.Words.{category_word, phase_word}
use Rattle.kb_catalog_text.specs.declared.span_unit.SpanUnit.{SpanUnit}
use Rattle.kb_catalog_text.specs.declared.span_unit.SpanUnit.TheVariants as unit

-- what a word stands for, in a table of words
abbrev pub look_up : {A : Type 0} → List (List ℕ × A) → List ℕ → Option A
look_up [] text = None
look_up {A} (row ∷ later) text = of_test (bytes_eq text row.0) (look_up later text)
  where
    of_test : Bool → Option A → Option A
    of_test true found = Some row.1
    of_test false found = found

abbrev pub period_words : List (List ℕ × Period)
period_words =
    (codes "DAILY", Daily) ∷ (codes "WEEKLY", Weekly) ∷ (codes "BIWEEKLY", Biweekly)
    ∷ (codes "THIRTY_DAYS", ThirtyDays)
    ∷ (codes "MONTHLY", Monthly) ∷ (codes "QUARTERLY", Quarterly) ∷ (codes "BIANNUAL", Biannual)
    ∷ (codes "ANNUAL", Annual)
    ∷ (codes "BIENNIAL", Biennial) ∷ (codes "NO_BILLING_PERIOD", NoBillingPeriod) ∷ []

abbrev pub category_words : List (List ℕ × Category)
category_words = (codes "BASE", Base) ∷ (codes "ADD_ON", AddOn) ∷ (codes "STANDALONE", Standalone) ∷ []

abbrev pub phase_words : List (List ℕ × PhaseType)
phase_words = (codes "TRIAL", Trial) ∷ (codes "DISCOUNT", Discount) ∷ (codes "FIXEDTERM", FixedTerm)
    ∷ (codes "EVERGREEN", Evergreen) ∷ []

abbrev pub unit_words : List (List ℕ × SpanUnit)
unit_words =
    (codes "DAYS", unit.Days) ∷ (codes "WEEKS", unit.Weeks) ∷ (codes "MONTHS", unit.Months)
    ∷ (codes "YEARS", unit.Years)
    ∷ (codes "UNLIMITED", unit.Unlimited) ∷ []

abbrev pub policy_words : List (List ℕ × Policy)
policy_words = (codes "IMMEDIATE", Immediate) ∷ (codes "END_OF_TERM", EndOfTerm) ∷ (codes "ILLEGAL", Illegal)
    ∷ []

abbrev pub create_align_words : List (List ℕ × CreateAlign)
create_align_words =
    (codes "START_OF_BUNDLE", create.StartOfBundle)
    ∷ (codes "START_OF_SUBSCRIPTION", create.StartOfSubscription) ∷ []

abbrev pub align_words : List (List ℕ × Align)
align_words =
    (codes "START_OF_BUNDLE", change.StartOfBundle)
    ∷ (codes "START_OF_SUBSCRIPTION", change.StartOfSubscription)
    ∷ (codes "CHANGE_OF_PLAN", change.ChangeOfPlan) ∷ []

abbrev pub billing_align_words : List (List ℕ × BillingAlign)
billing_align_words = (codes "ACCOUNT", billing.Account) ∷ (codes "BUNDLE", billing.Bundle)
    ∷ (codes "SUBSCRIPTION", billing.Subscription) ∷ []

a_period : look_up period_words (codes "THIRTY_DAYS") ≡ Some ThirtyDays
a_period = refl

in_lower_case : look_up period_words (codes "monthly") ≡ None
in_lower_case = refl

-- periods, categories and phases have the words by which they are told
words_of_periods : map (λ row. period_word row.1) period_words ≡ map (λ row. row.0) period_words
words_of_periods = refl

words_of_categories : map (λ row. category_word row.1) category_words ≡ map (λ row. row.0) category_words
words_of_categories = refl

words_of_phases : map (λ row. phase_word row.1) phase_words ≡ map (λ row. row.0) phase_words
words_of_phases = refl
