-- The bytes of a name are a text.
use Rattle.std.proofs.Common.{◌≡◌, ℕ, ◌<◌, true, List, get_or, arith}
use Rattle.std.proofs.lemmas.Bool.{and_parts}
use Rattle.std.proofs.lemmas.Bool.Decides.{nat_tests}
use Rattle.std.proofs.lemmas.List.Sums.{AllPass-from_list_all}
use Rattle.std.proofs.lemmas.Str.{IsUtf8-from_ascii}
use Rattle.std.proofs.lemmas.Str.Ascii.{IsAscii-from_all}
use Rattle.std.specs.Str.{IsUtf8}
use Rattle.kb_days.specs.Names.{IsName, is_name_byte}

-- a byte of a name is ASCII
is_name_byte-ascii : (b : ℕ) → is_name_byte b ≡ true → b < 128
is_name_byte-ascii b h = grind (arith, nat_tests)

-- a name is a text
pub IsName-text : (bs : List ℕ) → IsName bs → IsUtf8 bs
IsName-text bs h =
    let each = AllPass-from_list_all is_name_byte bs (and_parts _ _ h).1 in
    IsUtf8-from_ascii bs
    (IsAscii-from_all bs (λ k d inside. is_name_byte-ascii (get_or bs k d) (each k d inside)))
