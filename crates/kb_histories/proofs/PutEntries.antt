-- What is found after something is put in.
use Rattle.std.proofs.Common.{◌≡◌, ℕ, Bool, true, false, List, Some, None, cond, option_map, bytes_eq}
use Rattle.std.proofs.Common.{refl, ap, subst, ◌∙◌}
use Rattle.std.specs.Cmp.Lexicographic.{nat_list_cmp_total}
use Rattle.std.specs.FinMap.{find, put}
use Rattle.std.specs.FinMap.Entries.{find-put}
use Rattle.std.proofs.lemmas.Map.Text.{is_eq-slice_cmp}
use Rattle.std.proofs.lemmas.Slice.Eq.{bytes_eq-Decides}
use Rattle.kb_sharing.specs.Keys.{by_words}
use Rattle.kb_book.specs.Books.{Keyed}

module _ {X : Type 0} (key own : List ℕ) (value : X) (entries : Keyed X) where
  -- a key that is the same, or another
  abbrev pub found_by : Bool → Type 0
  found_by same =
      find by_words key (put by_words own value entries) ≡ cond same (Some value) (find by_words key entries)

  -- it is found if the key is the same, and all else as before
  pub find-put-words : found_by (bytes_eq key own)
  find-put-words =
      find-put by_words nat_list_cmp_total key own value entries
      ∙ ap (λ same. cond same (Some value) (find by_words key entries)) (is_eq-slice_cmp key own)

  -- what is found at another key is as before
  pub find-put-other : bytes_eq key own ≡ false
      → find by_words key (put by_words own value entries) ≡ find by_words key entries
  find-put-other other = subst found_by other find-put-words

  -- what is found stays, if nothing was there where the value is put in
  pub find-put-stays : {Y : Type 0} (of : X → Y) (found : Y) → find by_words own entries ≡ None
      → option_map of (find by_words key entries) ≡ Some found
      → option_map of (find by_words key (put by_words own value entries)) ≡ Some found
  find-put-stays of found none is = by_same (bytes_eq key own) refl
    where
      by_same : (same : Bool) → bytes_eq key own ≡ same
          → option_map of (find by_words key (put by_words own value entries)) ≡ Some found
      by_same false other = ap (option_map of) (find-put-other other) ∙ is
      by_same true same =
          let one : key ≡ own = (bytes_eq-Decides key own).0 same in
          let gone : find by_words key entries ≡ None = rw one none in
          absurd (let told = rw gone at is in cc)
