-- The decimal digits of a number are a number of JSON.
use Rattle.std.proofs.Common.{◌≡◌, ℕ, ℤ, pos, negsuc, zero, suc, ◌+◌, ◌^◌, ◌<◌, ◌≤◌, ◌%◌, false, cond, ◌==◌}
use Rattle.std.proofs.Common.{List, [], ◌∷◌, length, drop, get_or, Some, option_and_then, decimal, refl, ap}
use Rattle.std.proofs.Common.{◌∙◌, arith, length-append}
use Rattle.std.proofs.lemmas.Bool.{ne_eqb, le-leb, and_from}
use Rattle.std.proofs.lemmas.List.{drop_all}
use Rattle.std.proofs.lemmas.Fmt.{decimal_is_IsNumeral_wide, decimal_by_steps_wide, decimal_digit}
use Rattle.std.proofs.lemmas.Str.Parse.{digit_at}
use Rattle.std.specs.Fmt.{signed_decimal}
use Rattle.std.specs.List.{prefix_len}
use Rattle.std.specs.Char.{is_ascii_digit}
use lib.ListN.{get_or-append}
use lib.Signed.{mag}
use Rattle.json.specs.Word.{head, after_whole, after_fraction, after_exponent, after_number}
use Rattle.json.specs.Print.{IsNumber}

-- digits alone are passed as digits
digits_pass : (digits : List ℕ)
    → ((i : ℕ) → i < length digits → (48 ≤ get_or digits i 0) × (get_or digits i 0 ≤ 57))
    → prefix_len is_ascii_digit digits ≡ length digits
digits_pass [] each = refl
digits_pass (digit ∷ later) each =
    let first = each 0 (omega arith) in
    let rest = digits_pass later (λ i inside. each (suc i) (omega arith)) in
    ap (λ b. cond b (1 + prefix_len is_ascii_digit later) 0)
    (and_from _ _ (le-leb 48 digit first.0) (le-leb digit 57 first.1)) ∙ omega arith

-- digits of which the first isn't 0 are whole
digits_whole : (digits : List ℕ) → 48 < get_or digits 0 0 → prefix_len is_ascii_digit digits ≡ length digits
    → (after_whole digits ≡ Some []) × ((head digits == 45) ≡ false)
digits_whole [] first all = absurd (omega arith)
digits_whole (digit ∷ later) first all = (
  rw (ne_eqb digit 48 (λ e. omega arith), all, ne_eqb (suc (length later)) 0 (λ e. omega arith))
      (ap Some (drop_all (length later) later (omega arith))),
  ne_eqb digit 45 (λ e. omega arith),
)

-- the first digit of a number above 0
first_digit : (n : ℕ) → 0 < n → n < 10 ^ 64 → 48 < get_or (decimal n) 0 0
first_digit n some small = (decimal_by_steps_wide
    (λ m digits. (0 < length digits) × (0 < m → 48 < get_or digits 0 0))
    (λ m single. (omega arith, λ above. omega arith))
    (λ m digits more before. (
      omega (arith, length-append digits ((48 + m % 10) ∷ [])),
      λ above.
          omega (arith, get_or-append digits ((48 + m % 10) ∷ []) 0 0 before.0, before.1 (omega arith)),
    )) n small).1 some

decimal_whole : (n : ℕ) → n < 10 ^ 64
    → (after_whole (decimal n) ≡ Some []) × ((head (decimal n) == 45) ≡ false)
decimal_whole zero small = let e = decimal_digit 0 (omega arith) in
    (ap after_whole e, ap (λ l. head l == 45) e)
decimal_whole (suc n) small =
    digits_whole (decimal (suc n)) (first_digit (suc n) (omega arith) small)
    (digits_pass _ (λ i inside. digit_at _ i (decimal_is_IsNumeral_wide (suc n) small).0.1 inside))

IsNumber-decimal : (n : ℕ) → n < 10 ^ 64 → IsNumber (decimal n)
unfolding after_number
IsNumber-decimal n small =
    let whole = decimal_whole n small in
    ap (λ o. option_and_then after_exponent (option_and_then after_fraction o))
    (ap (λ b. after_whole (cond b (drop 1 (decimal n)) (decimal n))) whole.1 ∙ whole.0)

IsNumber-negative : (n : ℕ) → n < 10 ^ 64 → IsNumber (45 ∷ decimal n)
unfolding after_number
IsNumber-negative n small =
    ap (λ o. option_and_then after_exponent (option_and_then after_fraction o)) (decimal_whole n small).0

-- a number of at most 63 digits
pub IsNumber-signed : (z : ℤ) → mag z < 10 ^ 63 → IsNumber (signed_decimal z)
IsNumber-signed (pos n) small = IsNumber-decimal n (omega arith)
IsNumber-signed (negsuc n) small = IsNumber-negative (suc n) (omega arith)

-- a number of 128 bits
pub IsNumber-text : (z : ℤ) (text : List ℕ) → mag z < 10 ^ 63 → text ≡ signed_decimal z → IsNumber text
IsNumber-text z text small is = rw is (IsNumber-signed z small)
