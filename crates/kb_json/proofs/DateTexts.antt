-- The date of a day is a text.
use Rattle.std.proofs.Common.{ℕ, [], get_or, codes, arith}
use Rattle.std.proofs.lemmas.List.Elements.{All-get_or}
use Rattle.std.proofs.lemmas.Str.{IsUtf8-append, IsUtf8-from_ascii}
use Rattle.std.proofs.lemmas.Str.Ascii.{IsAscii-from_all, IsAscii-cons, IsAscii-nil}
use Rattle.std.specs.Char.{IsAsciiDigit}
use Rattle.std.specs.Str.{IsUtf8}
use Rattle.kb_days.specs.DateText.{date_text, civil_text, digits}
use Rattle.kb_days.proofs.Digits.{All-digits}

-- digits are ASCII
digits_utf8 : (count number : ℕ) → IsUtf8 (digits count number)
digits_utf8 count number =
    let all = digits count number in
    IsUtf8-from_ascii all (IsAscii-from_all all (λ k d inside.
    let digit : IsAsciiDigit (get_or all k d) = All-get_or IsAsciiDigit all k d inside
    (All-digits count number) in
    omega (arith, digit.1)))

dash_utf8 : IsUtf8 (codes "-")
dash_utf8 = IsUtf8-from_ascii (codes "-") (IsAscii-cons 45 [] (omega arith) IsAscii-nil)

-- the date of a day is UTF-8
pub date_text_utf8 : (day : ℕ) → IsUtf8 (date_text day)
unfolding date_text civil_text
date_text_utf8 day = IsUtf8-append _ _ (IsUtf8-append _ _ (IsUtf8-append _ _ (IsUtf8-append _ _
    (digits_utf8 4 _) dash_utf8) (digits_utf8 2 _)) dash_utf8) (digits_utf8 2 _)
