-- The values of options: texts, numbers, days and kinds of report.
use Rattle.std.specs.Prelude.{ℕ, ◌≡◌, ◌==◌, Bool, true, false, not, ◌&&◌, nat_le, if◌then◌else◌}
use Rattle.std.specs.Prelude.{[], ◌∷◌, codes, find, bytes_eq, Option, Some, None, refl}
use Rattle.std.specs.Char.{is_ascii_digit}
use Rattle.std.specs.List.{list_all}
use Rattle.kb_days.specs.DateText.{number_of}
use Rattle.kb_words.specs.Commands.{Text}
use Rattle.kb_words.specs.declared.report_kind.ReportKind.{ReportKind}
use Rattle.kb_words.specs.declared.report_kind.ReportKind.TheVariants.{Balances, Arrears, States}

-- a value has a byte, and doesn't begin with '-'
abbrev pub is_value : Text → Bool
is_value [] = false
is_value (first ∷ rest) = not (first == 45)

a_dash_alone : is_value (codes "-") ≡ false
a_dash_alone = refl

-- the text doesn't begin with '0', unless it is that alone
abbrev pub leads_with_no_zero : Text → Bool
leads_with_no_zero [] = true
leads_with_no_zero (first ∷ []) = true
leads_with_no_zero (first ∷ second ∷ rest) = not (first == 48)

-- a number: decimal digits without a sign or a leading zero
abbrev pub is_number : Text → Bool
is_number text = is_value text && list_all is_ascii_digit text && leads_with_no_zero text

some_digits : is_number (codes "120") ≡ true
some_digits = refl

-- the number of a text, if it is one from `least` to `most`
unfoldable pub number_in : ℕ → ℕ → Text → Option ℕ
number_in least most text =
    if is_number text && (nat_le least (number_of text) && nat_le (number_of text) most)
    then Some (number_of text) else None

sixty_four : number_in 1 64 (codes "64") ≡ Some 64
unfolding number_in
sixty_four = refl

past_the_range : number_in 1 64 (codes "65") ≡ None
unfolding number_in
past_the_range = refl

zero_itself : number_in 0 120 (codes "0") ≡ Some 0
unfolding number_in
zero_itself = refl

a_leading_zero : number_in 0 2147483647 (codes "01") ≡ None
unfolding number_in
a_leading_zero = refl

a_sign : number_in 0 2147483647 (codes "+1") ≡ None
unfolding number_in
a_sign = refl

the_largest_seed : number_in 0 2147483647 (codes "2147483647") ≡ Some 2147483647
unfolding number_in
the_largest_seed = refl

-- the word of a kind of report
abbrev pub kind_word : ReportKind → Text
kind_word Balances = codes "balances"
kind_word Arrears = codes "arrears"
kind_word States = codes "states"

-- the kind of report of a word
unfoldable pub kind_of : Text → Option ReportKind
kind_of word = find (λ kind. bytes_eq (kind_word kind) word) (Balances ∷ Arrears ∷ States ∷ [])

the_word_arrears : kind_of (codes "arrears") ≡ Some Arrears
unfolding kind_of
the_word_arrears = refl

the_word_balance : kind_of (codes "balance") ≡ None
unfolding kind_of
the_word_balance = refl
