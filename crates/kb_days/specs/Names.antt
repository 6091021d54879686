-- Names: short words of letters, digits and three marks, as lists of ASCII bytes.
use Rattle.std.specs.Prelude.{ℕ, Bool, ◌≡◌, ◌&&◌, ◌||◌, ◌==◌, nat_lt, nat_le, IsTrue, List, length, codes}
use Rattle.std.specs.Prelude.{refl, true, false, replicate}
use Rattle.std.specs.Char.{is_ascii_alphanumeric}
use Rattle.std.specs.List.{list_all}

-- a letter, a digit, or '.', '_' or '-'
abbrev pub is_name_byte : ℕ → Bool
is_name_byte byte = is_ascii_alphanumeric byte || byte == 46 || byte == 95 || byte == 45

-- 1 to 64 of those
abbrev pub is_name : List ℕ → Bool
is_name bytes = nat_lt 0 (length bytes) && nat_le (length bytes) 64 && list_all is_name_byte bytes

a_name : is_name (codes "Gold-2.monthly_v1") ≡ true
a_name = refl

with_a_blank : is_name (codes "gold monthly") ≡ false
with_a_blank = refl

of_no_byte : is_name (codes "") ≡ false
of_no_byte = refl

of_65_bytes : is_name (replicate 65 97) ≡ false
of_65_bytes = refl

-- the bytes are those of a name
abbrev pub IsName : List ℕ → Type 0
IsName bytes = IsTrue (is_name bytes)
