-- What is kept of commands, as a map and as its entries.
use Rattle.std.proofs.Common.{◌≡◌, ℕ, sym, ap, ◌∙◌, List, [], length, Option}
use Rattle.std.specs.Cmp.Lexicographic.{nat_list_cmp_total}
use Rattle.std.specs.FinMap.{FinMap, find, put, entries, get, insert, empty, len, len-empty, get-entries}
use Rattle.std.specs.FinMap.{entries-insert, len-entries}
use Rattle.std.proofs.lemmas.List.{nil_from_length}
use Rattle.kb_sharing.specs.Keys.{by_words}

-- there are as many entries as the map tells
pub kept_count : {X : Type 0} (m : FinMap by_words X) (count : ℕ) → count ≡ len m → count ≡ length (entries m)
kept_count m count is = is ∙ len-entries m

-- what is found in the map is found among its entries
pub kept_entry : {X : Type 0} (m : FinMap by_words X) (key : List ℕ) (found : Option X) → found ≡ get m key
    → find by_words key (entries m) ≡ found
kept_entry m key found is = sym (is ∙ get-entries m key)

-- what is put into the map is put among its entries
pub kept_with : {X : Type 0} (old new : FinMap by_words X) (key : List ℕ) (value : X)
    → new ≡ insert old key value
    → entries new ≡ put by_words key value (entries old)
kept_with old new key value is = ap entries is ∙ entries-insert nat_list_cmp_total old key value

-- what is put into an empty map is its one entry
pub kept_first : {X : Type 0} (old new : FinMap by_words X) (key : List ℕ) (value : X) → old ≡ empty
    → new ≡ insert old key value → entries new ≡ put by_words key value []
kept_first {X} old new key value none is =
    kept_with old new key value is
    ∙ ap (put by_words key value)
    (nil_from_length (entries old) (sym (len-entries old) ∙ ap len none ∙ len-empty by_words X))
