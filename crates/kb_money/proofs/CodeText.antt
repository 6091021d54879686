-- The code of a currency is a text.
use Rattle.std.proofs.Common.{◌≡◌, ℕ, ◌<◌, true, List, get_or, arith}
use Rattle.std.proofs.lemmas.Bool.{and_parts}
use Rattle.std.proofs.lemmas.Bool.Decides.{nat_tests}
use Rattle.std.proofs.lemmas.List.Sums.{AllPass-from_list_all}
use Rattle.std.proofs.lemmas.Str.{IsUtf8-from_ascii}
use Rattle.std.proofs.lemmas.Str.Ascii.{IsAscii-from_all}
use Rattle.std.specs.Str.{IsUtf8}
use Rattle.kb_money.specs.Currency.{IsCurrency, is_capital}

-- a capital is ASCII
is_capital-ascii : (b : ℕ) → is_capital b ≡ true → b < 128
is_capital-ascii b h = grind (arith, nat_tests)

-- the capitals of a code are a text
pub code_text : (letters : List ℕ) → IsCurrency letters → IsUtf8 letters
code_text letters code =
    let each = AllPass-from_list_all is_capital letters (and_parts _ _ code).1 in
    IsUtf8-from_ascii letters
    (IsAscii-from_all letters (λ k d inside. is_capital-ascii (get_or letters k d) (each k d inside)))
