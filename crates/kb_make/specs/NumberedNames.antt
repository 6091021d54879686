-- Names that are a letter and a number.
use Rattle.std.specs.Prelude.{ℕ, ◌≡◌, List, ◌++◌, codes, decimal, refl}
use Rattle.std.specs.Fmt.{digits}

-- the name of an account, by its number
abbrev pub account_name : ℕ → List ℕ
account_name number = codes "m" ++ decimal number

of_the_last_account : account_name 10000 ≡ codes "m10000"
unfolding digits
of_the_last_account = refl

-- the key of a command, by its number among all that are sent
abbrev pub key_name : ℕ → List ℕ
key_name number = codes "k" ++ decimal number

of_the_first_command : key_name 1 ≡ codes "k1"
unfolding digits
of_the_first_command = refl
