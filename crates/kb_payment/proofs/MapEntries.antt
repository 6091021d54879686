-- Shared maps by their entries.
use Rattle.std.proofs.Common.{◌≡◌, ℕ, sym, ap, ◌∙◌, List, [], Option}
use Rattle.std.specs.Cmp.Lexicographic.{nat_list_cmp_total}
use Rattle.std.specs.FinMap.{FinMap, find, put, entries, get, insert, empty, len, get-entries, entries-insert}
use Rattle.std.specs.FinMap.{len-entries, len-empty}
use Rattle.std.proofs.lemmas.List.{nil_from_length}
use Rattle.kb_sharing.specs.Keys.{by_words}

-- what is found in a map is found among its entries
pub found_entry : {X : Type 0} (m : FinMap by_words X) (key : List ℕ) (o : Option X) → o ≡ get m key
    → o ≡ find by_words key (entries m)
found_entry m key o is = is ∙ get-entries m key

-- an entry is put among them
pub entries-with : {X : Type 0} (old new : FinMap by_words X) (key : List ℕ) (value : X)
    → new ≡ insert old key value
    → entries new ≡ put by_words key value (entries old)
entries-with old new key value is = ap entries is ∙ entries-insert nat_list_cmp_total old key value

-- a new map has none
pub entries-none : {X : Type 0} (m : FinMap by_words X) → m ≡ empty → entries m ≡ []
entries-none {X} m is =
    nil_from_length (entries m) (sym (len-entries m) ∙ ap len is ∙ len-empty by_words X)
