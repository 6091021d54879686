-- The key of an automatic payment is a name.
use Rattle.std.proofs.Common.{◌≡◌, ℕ, zero, suc, ◌+◌, ◌<◌, ◌≤◌, ◌^◌, ◌%◌, ◌/◌, Bool, true, ◌&&◌, List, []}
use Rattle.std.proofs.Common.{◌∷◌, ◌++◌, length, codes, decimal, slice_index, EachIndex, nat_lt, nat_le}
use Rattle.std.proofs.Common.{IsTrue, refl, sym, ap₂, subst, ◌∙◌, arith, length-append}
use Rattle.std.proofs.lemmas.Bool.Decides.{nat_tests}
use Rattle.std.proofs.lemmas.List.Folds.{list_all-append}
use Rattle.std.specs.Fmt.{IsBoundedDecimal}
use Rattle.std.specs.List.{list_all}
use Rattle.kb_days.specs.Names.{IsName, is_name_byte}
use Rattle.kb_days.specs.DateText.{date_text, civil_text, digits}
use Rattle.kb_days.specs.Calendar.{month_of, day_of_month}
use Rattle.kb_book.specs.Edits.{auto_key}

-- a digit is a byte of a name
digit-byte : (byte : ℕ) → 48 ≤ byte → byte ≤ 57 → is_name_byte byte ≡ true
digit-byte byte low high = grind (arith, nat_tests)

-- digits are
all-digits : (bytes : List ℕ) → EachIndex bytes (λ k. (48 ≤ slice_index bytes k) × (slice_index bytes k ≤ 57))
    → list_all is_name_byte bytes ≡ true
all-digits [] each = refl
all-digits (byte ∷ later) each =
    let here = each 0 (omega arith) in
    ap₂ (λ a b. a && b) (digit-byte byte here.0 here.1)
    (all-digits later (λ k low. each (suc k) (omega arith)))

both : (one two : List ℕ) → list_all is_name_byte one ≡ true → list_all is_name_byte two ≡ true
    → list_all is_name_byte (one ++ two) ≡ true
both one two first second = list_all-append is_name_byte one two ∙ ap₂ (λ a b. a && b) first second

some-digits : (count number : ℕ) → list_all is_name_byte (digits count number) ≡ true
some-digits zero number = refl
some-digits (suc count) number =
    both (digits count (number / 10)) ((48 + number % 10) ∷ []) (some-digits count (number / 10))
    (ap₂ (λ a b. a && b) (digit-byte (48 + number % 10) (omega arith) (omega arith)) refl)

digits-length : (count number : ℕ) → length (digits count number) ≡ count
digits-length zero number = refl
digits-length (suc count) number =
    omega (
      arith,
      length-append (digits count (number / 10)) ((48 + number % 10) ∷ []),
      digits-length count
          (number / 10),
    )

-- a date's text is of ten of them
civil-named : (year month day : ℕ) → list_all is_name_byte (civil_text year month day) ≡ true
unfolding civil_text
civil-named year month day =
    both (digits 4 year ++ codes "-" ++ digits 2 month ++ codes "-") (digits 2 day)
    (both (digits 4 year ++ codes "-" ++ digits 2 month) (codes "-")
    (both (digits 4 year ++ codes "-") (digits 2 month)
    (both (digits 4 year) (codes "-") (some-digits 4 year) refl) (some-digits 2 month)) refl)
    (some-digits 2 day)

civil-length : (year month day : ℕ) → length (civil_text year month day) ≡ 10
unfolding civil_text
civil-length year month day =
    omega (
      arith,
      length-append (digits 4 year ++ codes "-" ++ digits 2 month ++ codes "-") (digits 2 day),
      length-append (digits 4 year ++ codes "-" ++ digits 2 month) (codes "-"),
      length-append (digits 4 year ++ codes "-") (digits 2 month),
      length-append (digits 4 year) (codes "-"),
      digits-length 4 year,
      digits-length 2 month,
      digits-length 2 day,
    )

date-named : (day : ℕ) → list_all is_name_byte (date_text day) ≡ true
unfolding date_text
date-named day = civil-named (1970 + month_of day / 12) (month_of day % 12 + 1) (day_of_month day)

date-length : (day : ℕ) → length (date_text day) ≡ 10
unfolding date_text
date-length day = civil-length (1970 + month_of day / 12) (month_of day % 12 + 1) (day_of_month day)

-- a few bytes of names are a name
few-named : (bytes : List ℕ) → 0 < length bytes → length bytes ≤ 64 → list_all is_name_byte bytes ≡ true
    → IsName bytes
few-named bytes some few all =
    let first : nat_lt 0 (length bytes) ≡ true = grind (arith, nat_tests) in
    let last : nat_le (length bytes) 64 ≡ true = grind (arith, nat_tests) in
    subst (λ (test : Bool). IsTrue test) (sym (ap₂ (λ a b. a && b) (ap₂ (λ a b. a && b) first last) all)) refl

-- so the key is one
pub key_named : (bytes : List ℕ) (invoice day : ℕ) → invoice < 2 ^ 32 → IsBoundedDecimal invoice
    → bytes ≡ auto_key invoice day → IsName bytes
key_named bytes invoice day low decimals is =
    subst (λ (l : List ℕ). IsName l) (sym is)
    (few-named (auto_key invoice day) (omega (arith, size)) (omega (arith, size, decimals.len_u32 low))
    (both (codes "auto-" ++ decimal invoice ++ codes "-") (date_text day)
    (both (codes "auto-" ++ decimal invoice) (codes "-")
    (both (codes "auto-") (decimal invoice) refl (all-digits (decimal invoice) decimals.all_digits)) refl)
    (date-named day)))
  where
    size : length (auto_key invoice day) ≡ 16 + length (decimal invoice)
    size =
        omega (
          arith,
          length-append (codes "auto-" ++ decimal invoice ++ codes "-") (date_text day),
          length-append (codes "auto-" ++ decimal invoice) (codes "-"),
          length-append (codes "auto-") (decimal invoice),
          date-length day,
        )
