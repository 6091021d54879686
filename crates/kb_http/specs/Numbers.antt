-- Numbers that texts spell in decimal digits.
use Rattle.std.specs.Prelude.{ℕ, Bool, ◌≡◌, ◌&&◌, nat_lt, min, if◌then◌else◌, List, length, codes}
use Rattle.std.specs.Prelude.{Option, Some, None, refl, false}
use Rattle.std.specs.List.{list_all}
use Rattle.std.specs.Char.{is_ascii_digit}
use Rattle.std.specs.Str.Parse.{digits_value}

-- a number: one decimal digit or more
abbrev pub is_number : List ℕ → Bool
is_number text = nat_lt 0 (length text) && list_all is_ascii_digit text

no_number : is_number (codes "+5") ≡ false
no_number = refl

-- what it stands for
abbrev pub number_of : List ℕ → ℕ
number_of digits = digits_value 10 digits

forty_two : number_of (codes "042") ≡ 42
forty_two = refl

-- the number that a text stands for, or the limit if it is greater; none if it is no number
abbrev pub number_up_to : ℕ → List ℕ → Option ℕ
number_up_to limit text = if is_number text then Some (min (number_of text) limit) else None

above_the_limit : number_up_to 100 (codes "420") ≡ Some 100
above_the_limit = refl
