-- What the value of a member is read as.
use Rattle.std.specs.Prelude.{ℕ, ◌≡◌, Bool, not, ◌&&◌, nat_eq, nat_le, bytes_eq, List, [], ◌∷◌, codes, find}
use Rattle.std.specs.Prelude.{if◌then◌else◌, Option, Some, None, option_and_then, refl}
use Rattle.std.specs.List.{starts_with}
use Rattle.serde_json.specs.Data.{Data, number, string, unsigned}
use Rattle.serde_json.specs.Find.{as_str, as_number, as_u64}
use Rattle.kb_days.specs.Names.{is_name}
use Rattle.kb_days.specs.DateText.{read_day}
use Rattle.kb_days.specs.declared.period.Period.{Period}
use Rattle.kb_days.specs.declared.period.Period.TheVariants as period
use Rattle.kb_days.specs.Periods.{period_word}
use Rattle.kb_money.specs.Currency.{is_currency}
use Rattle.kb_codec.specs.declared.amount.TheConstants.{MAX_AMOUNT}
use Rattle.kb_codec.specs.declared.scope.BlockScope.{BlockScope}
use Rattle.kb_codec.specs.declared.scope.BlockScope.TheVariants as scope

-- a text that passes a test
unfoldable pub text_where : (List ℕ → Bool) → Data → Option (List ℕ)
text_where test value = option_and_then (λ text. if test text then Some text else None) (as_str value)

-- a name
unfoldable pub name_in : Data → Option (List ℕ)
name_in value = text_where is_name value

-- a request key that a caller may use: a name that doesn't begin as those that the platform uses by itself
abbrev pub is_key : List ℕ → Bool
is_key text = is_name text && not (starts_with nat_eq text (codes "bill-"))

unfoldable pub key_in : Data → Option (List ℕ)
key_in value = text_where is_key value

-- a currency
unfoldable pub currency_in : Data → Option (List ℕ)
currency_in value = text_where is_currency value

-- a billing period, by its word
abbrev pub periods : List Period
periods =
    period.Daily ∷ period.Weekly ∷ period.Biweekly ∷ period.ThirtyDays ∷ period.Monthly ∷ period.Quarterly
    ∷ period.Biannual ∷ period.Annual ∷ period.Biennial ∷ period.NoBillingPeriod ∷ []

unfoldable pub period_named : List ℕ → Option Period
period_named word = find (λ period. bytes_eq word (period_word period)) periods

unfoldable pub period_in : Data → Option Period
period_in value = option_and_then period_named (as_str value)

-- what a block speaks of, by its word
abbrev pub scope_word : BlockScope → List ℕ
scope_word scope.Account = codes "ACCOUNT"
scope_word scope.Bundle = codes "BUNDLE"
scope_word scope.Subscription = codes "SUBSCRIPTION"

abbrev pub scopes : List BlockScope
scopes = scope.Account ∷ scope.Bundle ∷ scope.Subscription ∷ []

unfoldable pub scope_named : List ℕ → Option BlockScope
scope_named word = find (λ scope. bytes_eq word (scope_word scope)) scopes

unfoldable pub scope_in : Data → Option BlockScope
scope_in value = option_and_then scope_named (as_str value)

-- a day, by its date
unfoldable pub day_in : Data → Option ℕ
day_in value = option_and_then read_day (as_str value)

-- a whole number from 1 to another; a number with a point or an exponent isn't whole
unfoldable pub whole_in : ℕ → Data → Option ℕ
whole_in most value =
    option_and_then (λ whole. if nat_le 1 whole && nat_le whole most then Some whole else None)
    (option_and_then as_u64 (as_number value))

-- an amount in minor units
unfoldable pub amount_in : Data → Option ℕ
amount_in value = whole_in MAX_AMOUNT value

-- the number of an invoice
unfoldable pub invoice_in : Data → Option ℕ
invoice_in value = whole_in 4294967295 value

-- a day of the month
unfoldable pub bcd_in : Data → Option ℕ
bcd_in value = whole_in 31 value

a_name : name_in (string (codes "a.1")) ≡ Some (codes "a.1")
unfolding name_in text_where
a_name = refl

with_a_blank : name_in (string (codes "a 1")) ≡ None
unfolding name_in text_where
with_a_blank = refl

a_key : key_in (string (codes "bill")) ≡ Some (codes "bill")
unfolding key_in text_where
a_key = refl

reserved_key : key_in (string (codes "bill-2024-03-10")) ≡ None
unfolding key_in text_where
reserved_key = refl

lower_currency : currency_in (string (codes "usd")) ≡ None
unfolding currency_in text_where
lower_currency = refl

thirty_days : period_in (string (codes "THIRTY_DAYS")) ≡ Some period.ThirtyDays
unfolding period_in period_named
thirty_days = refl

a_bundle : scope_in (string (codes "BUNDLE")) ≡ Some scope.Bundle
unfolding scope_in scope_named
a_bundle = refl

no_scope : scope_in (string (codes "PRODUCT")) ≡ None
unfolding scope_in scope_named
no_scope = refl

most : amount_in (number (unsigned 1000000000000)) ≡ Some 1000000000000
unfolding amount_in whole_in
most = refl

nothing : amount_in (number (unsigned 0)) ≡ None
unfolding amount_in whole_in
nothing = refl

in_a_text : amount_in (string (codes "7")) ≡ None
unfolding amount_in whole_in
in_a_text = refl

last_invoice : invoice_in (number (unsigned 4294967295)) ≡ Some 4294967295
unfolding invoice_in whole_in
last_invoice = refl

past_the_last : invoice_in (number (unsigned 4294967296)) ≡ None
unfolding invoice_in whole_in
past_the_last = refl

no_such_bcd : bcd_in (number (unsigned 32)) ≡ None
unfolding bcd_in whole_in
no_such_bcd = refl
