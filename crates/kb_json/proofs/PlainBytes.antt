-- What is written in a string or as a number has no line feed.
use Rattle.std.proofs.Common.{◌≡◌, ℕ, zero, suc, ℤ, pos, negsuc, ◌/◌, ◌%◌, Bool, true, false, not, ◌&&◌, ◌==◌}
use Rattle.std.proofs.Common.{cond, nat_lt, List, [], ◌∷◌, ◌++◌, decimal, refl, arith}
use Rattle.std.proofs.lemmas.Bool.{ne_eqb}
use Rattle.std.proofs.lemmas.Bool.Decides.{nat_tests}
use Rattle.std.specs.Fmt.{digits, digits_onto, digit_glyph, signed_decimal}
use Rattle.std.specs.Char.{digit_char}
use Rattle.json.specs.Print.{escape_letter, escape_byte, escape, quoted}
use Rattle.kb_base.specs.Lines.{pieces, line_feed}

-- bytes of which none is a line feed
abbrev pub is_plain : List ℕ → Bool
is_plain [] = true
is_plain (byte ∷ bytes) = not (byte == 10) && is_plain bytes

-- they are one piece
pub pieces-plain : (bytes : List ℕ) → is_plain bytes ≡ true → pieces line_feed bytes ≡ bytes ∷ []
pieces-plain [] plain = refl
pieces-plain (byte ∷ bytes) plain = by_test (byte == 10) refl (pieces-plain bytes)
  where
    by_test : (test : Bool) → (byte == 10) ≡ test
        → (is_plain bytes ≡ true → pieces line_feed bytes ≡ bytes ∷ [])
        → pieces line_feed (byte ∷ bytes) ≡ (byte ∷ bytes) ∷ []
    by_test true is later = let other = rw is at plain in absurd (cc)
    by_test false is later = let rest = rw is at plain in rw (is, later rest) refl

pub is_plain-append : (first second : List ℕ) → is_plain first ≡ true → is_plain second ≡ true
    → is_plain (first ++ second) ≡ true
is_plain-append [] second here later = later
is_plain-append (byte ∷ bytes) second here later =
    by_test (byte == 10) refl (λ rest. is_plain-append bytes second rest later)
  where
    by_test : (test : Bool) → (byte == 10) ≡ test → (is_plain bytes ≡ true
        → is_plain (bytes ++ second) ≡ true)
        → is_plain (byte ∷ (bytes ++ second)) ≡ true
    by_test true is more = let other = rw is at here in absurd (cc)
    by_test false is more = let rest = rw is at here in rw is (more rest)

pub is_plain-cons : (byte : ℕ) (bytes : List ℕ) → (byte ≡ 10 → ⊥) → is_plain bytes ≡ true
    → is_plain (byte ∷ bytes) ≡ true
is_plain-cons byte bytes other rest = rw (ne_eqb byte 10 other, rest) refl

-- a digit is none
glyph : (digit : ℕ) → digit_glyph false digit ≡ 10 → ⊥
glyph digit is = grind (arith, nat_tests)

hex : (digit : ℕ) → digit_char digit ≡ 10 → ⊥
hex digit is = grind (arith, nat_tests)

digits_onto-plain : (count number : ℕ) (rest : List ℕ) → is_plain rest ≡ true
    → is_plain (digits_onto count 10 false number rest) ≡ true
digits_onto-plain zero number rest plain = plain
digits_onto-plain (suc count) number rest plain =
    let one = is_plain-cons (digit_glyph false (number % 10)) rest (glyph (number % 10)) plain in
    by_test (number / 10 == 0) one
    (digits_onto-plain count (number / 10) (digit_glyph false (number % 10) ∷ rest) one)
  where
    by_test : (test : Bool) → is_plain (digit_glyph false (number % 10) ∷ rest) ≡ true
        → is_plain (digits_onto count 10 false (number / 10) (digit_glyph false (number % 10) ∷ rest)) ≡ true
        → is_plain (cond test (digit_glyph false (number % 10) ∷ rest)
        (digits_onto count 10 false (number / 10) (digit_glyph false (number % 10) ∷ rest))) ≡ true
    by_test true one more = one
    by_test false one more = more

decimal-plain : (number : ℕ) → is_plain (decimal number) ≡ true
unfolding digits
decimal-plain number = digits_onto-plain 64 number [] refl

-- a number has none
pub signed_decimal-plain : (number : ℤ) → is_plain (signed_decimal number) ≡ true
signed_decimal-plain (pos number) = decimal-plain number
signed_decimal-plain (negsuc number) = decimal-plain (suc number)

-- a byte in a string is written without one
letter : (byte : ℕ) → escape_letter byte ≡ 10 → ⊥
letter byte is = grind (arith, nat_tests)

escape_byte-plain : (byte : ℕ) → is_plain (escape_byte byte) ≡ true
unfolding escape_byte
escape_byte-plain byte = by_letter (nat_lt 0 (escape_letter byte)) refl
  where
    short : is_plain (92 ∷ escape_letter byte ∷ []) ≡ true
    short = is_plain-cons (escape_letter byte) [] (letter byte) refl

    long : is_plain (92 ∷ 117 ∷ 48 ∷ 48 ∷ digit_char (byte / 16) ∷ digit_char (byte % 16) ∷ []) ≡ true
    long = is_plain-cons (digit_char (byte / 16)) (digit_char (byte % 16) ∷ []) (hex (byte / 16))
        (is_plain-cons (digit_char (byte % 16)) [] (hex (byte % 16)) refl)

    by_size : (test : Bool) → nat_lt byte 32 ≡ test → is_plain (cond test
        (92 ∷ 117 ∷ 48 ∷ 48 ∷ digit_char (byte / 16) ∷ digit_char (byte % 16) ∷ []) (byte ∷ [])) ≡ true
    by_size true is = long
    by_size false is = is_plain-cons byte [] (λ ten. grind (arith, nat_tests)) refl

    by_letter : (test : Bool) → nat_lt 0 (escape_letter byte) ≡ test
        → is_plain (escape_byte byte) ≡ true
    by_letter true is = rw is short
    by_letter false is = rw is (by_size (nat_lt byte 32) refl)

escape-plain : (bytes : List ℕ) → is_plain (escape bytes) ≡ true
escape-plain [] = refl
escape-plain (byte ∷ bytes) =
    is_plain-append (escape_byte byte) (escape bytes) (escape_byte-plain byte) (escape-plain bytes)

-- a string has none
pub quoted-plain : (bytes : List ℕ) → is_plain (quoted bytes) ≡ true
quoted-plain bytes = is_plain-append (escape bytes) (34 ∷ []) (escape-plain bytes) refl
