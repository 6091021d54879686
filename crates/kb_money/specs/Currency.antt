-- The codes of currencies.
use Rattle.std.specs.Prelude.{ℕ, Bool, true, false, ◌≡◌, ◌&&◌, ◌==◌, nat_le, IsTrue, List, length, codes}
use Rattle.std.specs.Prelude.{refl}
use Rattle.std.specs.List.{list_all}

-- a capital, from A to Z
abbrev pub is_capital : ℕ → Bool
is_capital letter = nat_le 65 letter && nat_le letter 90

-- a code is three of those
abbrev pub is_currency : List ℕ → Bool
is_currency letters = length letters == 3 && list_all is_capital letters

dollars : is_currency (codes "USD") ≡ true
dollars = refl

in_lower_case : is_currency (codes "usd") ≡ false
in_lower_case = refl

of_two_letters : is_currency (codes "US") ≡ false
of_two_letters = refl

of_four_letters : is_currency (codes "USDT") ≡ false
of_four_letters = refl

-- the letters are a code
abbrev pub IsCurrency : List ℕ → Type 0
IsCurrency letters = IsTrue (is_currency letters)
