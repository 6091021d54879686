-- Numbers in decimal digits, read up to a limit.
use Rattle.std.proofs.Common.{◌≡◌, ℕ, ◌+◌, ◌*◌, ◌<◌, min, Bool, true, false, ◌&&◌, if◌then◌else◌, List, []}
use Rattle.std.proofs.Common.{◌∷◌, lt-ltb, Option, Some, None, refl, sym, ap, ◌∙◌, arith, length}
use Rattle.std.specs.List.{list_all}
use Rattle.std.specs.Char.{is_ascii_digit, digit_value}
use Rattle.std.specs.Str.Parse.{digits_value_after}
use Rattle.kb_http.specs.Numbers.{number_up_to}
use Rattle.kb_http.specs.Private.DigitsBehind.{number_from}

-- the limit may be taken at each digit
min-later : (value digit limit : ℕ) → min (min value limit * 10 + digit) limit
    ≡ min (value * 10 + digit) limit
min-later value digit limit = grind arith

number_from-min : (limit value : ℕ) (digits : List ℕ) → number_from limit (min value limit) digits
    ≡ (if list_all is_ascii_digit digits then Some (min (digits_value_after 10 value digits) limit) else None)
number_from-min limit value [] = refl
number_from-min limit value (digit ∷ digits) =
    by_test (is_ascii_digit digit) None _ (list_all is_ascii_digit digits) _
    (ap (λ v. number_from limit v digits) (min-later value (digit_value digit) limit)
    ∙ number_from-min limit (value * 10 + digit_value digit) digits)
  where
    by_test : (test : Bool) (now later : Option ℕ) (all : Bool) (found : Option ℕ)
        → later ≡ (if all then found else None)
        → (if test then later else None) ≡ (if (test && all) then found else None)
    by_test true now later all found same = same
    by_test false now later all found same = refl

-- digits of which there is one or more
pub number_from-zero : (limit : ℕ) (digit : ℕ) (digits : List ℕ)
    → number_from limit 0 (digit ∷ digits) ≡ number_up_to limit (digit ∷ digits)
number_from-zero limit digit digits =
    ap (λ v. number_from limit v (digit ∷ digits)) (let e : 0 ≡ min 0 limit = omega arith in e)
    ∙ number_from-min limit 0 (digit ∷ digits)
    ∙ ap (λ some. if some && list_all is_ascii_digit (digit ∷ digits)
    then Some (min (digits_value_after 10 0 (digit ∷ digits)) limit) else None)
    (sym (lt-ltb 0 (length (digit ∷ digits)) (omega arith)))

pub number_from_some : (limit : ℕ) (text : List ℕ) → 0 < length text
    → number_from limit 0 text ≡ number_up_to limit text
number_from_some limit [] some = absurd (omega (arith, some))
number_from_some limit (digit ∷ digits) some = number_from-zero limit digit digits
