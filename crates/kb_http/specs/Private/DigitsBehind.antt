-- Digits that are read one by one.
use Rattle.std.specs.Prelude.{ℕ, ◌+◌, ◌*◌, min, if◌then◌else◌, List, [], ◌∷◌, Option, Some, None}
use Rattle.std.specs.Char.{is_ascii_digit, digit_value}

-- the number that digits give behind those that gave this value, or the limit if it is greater
abbrev pub number_from : ℕ → ℕ → List ℕ → Option ℕ
number_from limit value [] = Some value
number_from limit value (digit ∷ digits) =
    if is_ascii_digit digit then number_from limit (min (value * 10 + digit_value digit) limit) digits
    else None
