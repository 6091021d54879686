-- A letter with a number behind it is a name.
use Rattle.std.proofs.Common.{◌≡◌, ℕ, ◌+◌, ◌<◌, ◌≤◌, ◌^◌, ◌%◌, Bool, true, ◌&&◌, List, [], ◌∷◌}
use Rattle.std.proofs.Common.{length, decimal, nat_lt, nat_le, IsTrue, refl, sym, ap₂, subst, ◌∙◌, arith}
use Rattle.std.proofs.lemmas.Bool.Decides.{nat_tests}
use Rattle.std.proofs.lemmas.Fmt.{decimal_by_steps, length-decimal-le}
use Rattle.std.proofs.lemmas.List.Folds.{list_all-append}
use Rattle.std.specs.List.{list_all}
use Rattle.kb_days.specs.Names.{IsName, is_name_byte}

-- a digit is a byte of a name
digit-byte : (digit : ℕ) → digit < 10 → is_name_byte (48 + digit) ≡ true
digit-byte digit low = grind (arith, nat_tests)

-- so all digits of a number are
decimal-bytes : (number : ℕ) → number < 2 ^ 64 → list_all is_name_byte (decimal number) ≡ true
decimal-bytes =
    decimal_by_steps (λ number text. list_all is_name_byte text ≡ true)
    (λ digit low. ap₂ (λ a b. a && b) (digit-byte digit low) refl)
    (λ number front high all. list_all-append is_name_byte front ((48 + number % 10) ∷ [])
    ∙ ap₂ (λ a b. a && b) all (ap₂ (λ a b. a && b) (digit-byte (number % 10) (omega arith)) refl))

-- and a letter before them makes a name
pub numbered_named : (bytes : List ℕ) (letter number : ℕ) → bytes ≡ letter ∷ decimal number
    → is_name_byte letter ≡ true → number < 2 ^ 32 → IsName bytes
numbered_named bytes letter number is byte low =
    subst (λ (l : List ℕ). IsName l) (sym is)
    (subst (λ (test : Bool). IsTrue test)
    (sym (ap₂ (λ a b. a && b) short (ap₂ (λ a b. a && b) byte (decimal-bytes number (omega arith))))) refl)
  where
    few : length (decimal number) ≤ 10
    few = length-decimal-le 10 number (omega arith) (omega arith) (omega arith)

    short : (nat_lt 0 (length (letter ∷ decimal number))
        && nat_le (length (letter ∷ decimal number)) 64) ≡ true
    short = grind (arith, nat_tests, few)
