-- Decimal digits and the number that they stand for determine each other.
use Rattle.std.proofs.Common.{◌≡◌, ℕ, zero, suc, ◌+◌, ◌-◌, ◌*◌, ◌/◌, ◌%◌, ◌^◌, ◌<◌, List, [], ◌∷◌, ◌++◌}
use Rattle.std.proofs.Common.{length, take, get_or, refl, sym, ap, ◌∙◌, arith, add-one}
use Rattle.std.specs.Char.{IsAsciiDigit}
use Rattle.std.specs.List.{All}
use Rattle.std.proofs.lemmas.List.{take_more}
use Rattle.std.proofs.lemmas.List.Elements.{All-nil, All-push, All-same, All-get_or}
use Rattle.std.proofs.lemmas.List.Sums.{fold-append}
use Rattle.std.proofs.Math.Seq.{take-length}
use Rattle.kb_days.specs.DateText.{digits, number_of}

-- each digit of a number is a decimal digit
pub All-digits : (k n : ℕ) → All IsAsciiDigit (digits k n)
All-digits zero n = All-nil IsAsciiDigit
All-digits (suc k) n =
    All-push IsAsciiDigit (digits k (n / 10)) (48 + n % 10) (All-digits k (n / 10)) (omega arith, omega arith)

-- so each byte of a text that is made of digits is one
pub digits-get_or : (text : List ℕ) (n i : ℕ) → i < length text → text ≡ digits (length text) n
    → IsAsciiDigit (get_or text i 0)
digits-get_or text n i h e =
    All-get_or IsAsciiDigit text i 0 h
    (All-same IsAsciiDigit text (digits (length text) n) e (All-digits (length text) n))

-- one more digit
pub digits-suc : (k n x : ℕ) → x < 10 → digits (suc k) (10 * n + x) ≡ digits k n ++ (48 + x) ∷ []
digits-suc k n x h =
    let tens : (10 * n + x) / 10 ≡ n = omega arith in
    let ones : (10 * n + x) % 10 ≡ x = omega arith in
    rw (tens, ones) refl

-- a text that goes on with a digit stands for ten times the number and the digit
pub digits-take : (text : List ℕ) (i n : ℕ) → i < length text → take i text ≡ digits i n
    → IsAsciiDigit (get_or text i 0) → take (i + 1) text ≡ digits (i + 1) (10 * n + (get_or text i 0 - 48))
digits-take text i n h e digit =
    let byte : 48 + (get_or text i 0 - 48) ≡ get_or text i 0 = omega arith in
    let more = digits-suc i n (get_or text i 0 - 48) (omega arith) in
    let longer = take_more text i 0 h in
    rw (longer, e, add-one, more, byte) refl

-- one more digit makes ten times the number and the digit
number_of-snoc : (text : List ℕ) (byte : ℕ)
    → number_of (text ++ byte ∷ []) ≡ 10 * number_of text + (byte - 48)
number_of-snoc text byte = fold-append (λ number digit. 10 * number + (digit - 48)) 0 text (byte ∷ [])

-- the digits of a number stand for it, if they are enough
pub number_of-digits : (k n : ℕ) → n < 10 ^ k → number_of (digits k n) ≡ n
number_of-digits zero n h = omega arith
number_of-digits (suc k) n h =
    let tens = number_of-digits k (n / 10) (omega arith) in
    omega (arith, number_of-snoc (digits k (n / 10)) (48 + n % 10), tens)

-- two numbers with the same digits are the same
pub digits-injective : (k m n : ℕ) → m < 10 ^ k → n < 10 ^ k → digits k m ≡ digits k n → m ≡ n
digits-injective k m n low high e =
    sym (number_of-digits k m low) ∙ ap number_of e ∙ number_of-digits k n high

-- so a text of digits stands for one number
pub digits-only : (text : List ℕ) (m n : ℕ) → m < 10 ^ length text → n < 10 ^ length text
    → text ≡ digits (length text) m → text ≡ digits (length text) n → m ≡ n
digits-only text m n low high e f = digits-injective (length text) m n low high (sym e ∙ f)

-- all bytes of a text are the text
pub digits-whole : (text : List ℕ) (i n : ℕ) → i ≡ length text → take i text ≡ digits i n
    → text ≡ digits (length text) n
digits-whole text i n e h = sym (take-length text) ∙ rw e at h

-- one more digit makes ten times as many numbers
pub digits_bound : (i n x : ℕ) → n < 10 ^ i → x < 10 → 10 * n + x < 10 ^ (i + 1)
digits_bound i n x h k = rw add-one (omega arith)
