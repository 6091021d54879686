-- The kinds of values that a text has at its keys.
use Rattle.std.specs.Prelude.{ℕ, ◌≡◌, Bool, ◌&&◌, ◌==◌, nat_le, ℤ, pos, negsuc, List, codes, if◌then◌else◌}
use Rattle.std.specs.Prelude.{Option, Some, None, option_and_then, refl}
use Rattle.toml.specs.Data.{Data, string, integer, as_str, as_integer}
use Rattle.kb_days.specs.Names.{is_name}
use Rattle.kb_days.specs.DateText.{read_day}
use Rattle.kb_money.specs.Currency.{is_currency}
use Rattle.kb_overdue.specs.Thresholds.{max_threshold}
use Rattle.kb_catalog_text.specs.declared.format.Format.{Format}
use Rattle.kb_catalog_text.specs.declared.format.Format.TheVariants.{One}
use Rattle.kb_catalog_text.specs.Words.{look_up}

-- a text that passes a test
unfoldable pub text_where : (List ℕ → Bool) → Data → Option (List ℕ)
text_where test value = option_and_then (λ text. if test text then Some text else None) (as_str value)

-- a name
unfoldable pub name_in : Data → Option (List ℕ)
name_in value = text_where is_name value

-- a currency
unfoldable pub currency_in : Data → Option (List ℕ)
currency_in value = text_where is_currency value

-- a day, as its date
unfoldable pub day_in : Data → Option ℕ
day_in value = option_and_then read_day (as_str value)

-- a word of a table of words
unfoldable pub word_in : {A : Type 0} → List (List ℕ × A) → Data → Option A
word_in words value = option_and_then (look_up words) (as_str value)

-- a whole number that is not below 0
abbrev pub natural : ℤ → Option ℕ
natural (pos number) = Some number
natural (negsuc number) = None

-- a number from one to another
unfoldable pub number_in : ℕ → ℕ → Data → Option ℕ
number_in low high value = option_and_then (λ number. if nat_le low number && nat_le number high
    then Some number else None) (option_and_then natural (as_integer value))

-- how many units a span has
unfoldable pub count_in : Data → Option ℕ
count_in value = number_in 1 1200 value

-- a price in minor units
unfoldable pub amount_in : Data → Option ℕ
amount_in value = number_in 0 1000000000 value

-- the number that an overdue state's condition wants at least
unfoldable pub threshold_in : Data → Option ℕ
threshold_in value = number_in 1 max_threshold value

-- the format of the text
abbrev pub format_of : ℕ → Option Format
format_of number = if number == 1 then Some One else None

unfoldable pub format_in : Data → Option Format
format_in value = option_and_then format_of (option_and_then natural (as_integer value))

a_name : name_in (string (codes "gold-monthly")) ≡ Some (codes "gold-monthly")
unfolding name_in text_where
a_name = refl

no_name : name_in (string (codes "gold monthly")) ≡ None
unfolding name_in text_where
no_name = refl

number_for_name : name_in (integer (pos 7)) ≡ None
unfolding name_in text_where
number_for_name = refl

longest_span : count_in (integer (pos 1200)) ≡ Some 1200
unfolding count_in number_in
longest_span = refl

overlong_span : count_in (integer (pos 1201)) ≡ None
unfolding count_in number_in
overlong_span = refl

price_below_nothing : amount_in (integer (negsuc 0)) ≡ None
unfolding amount_in number_in
price_below_nothing = refl

price_too_high : amount_in (integer (pos 1000000001)) ≡ None
unfolding amount_in number_in
price_too_high = refl
