-- What holds of what is found after something is put in.
use Rattle.std.proofs.Common.{◌≡◌, ℕ, Bool, true, false, List, Option, Some, cond, bytes_eq, refl, sym, subst}
use Rattle.std.specs.FinMap.{find, put}
use Rattle.std.proofs.lemmas.Slice.Eq.{bytes_eq-Decides}
use Rattle.kb_sharing.specs.Keys.{by_words}
use Rattle.kb_book.specs.Books.{Keyed}
use Rattle.kb_histories.proofs.PutEntries.{find-put-words}

module _ {X : Type 0} (key own : List ℕ) (value : X) (entries : Keyed X) where
  -- what holds of what was put in, and of what was found before, holds of what is found
  pub found-put : (P : Option X → Type 0) → (bytes_eq key own ≡ false → P (find by_words key entries))
      → (key ≡ own → P (Some value)) → P (find by_words key (put by_words own value entries))
  found-put P other same =
      subst P (sym (find-put-words key own value entries)) (by_same (bytes_eq key own) refl)
    where
      by_same : (is : Bool) → bytes_eq key own ≡ is → P (cond is (Some value) (find by_words key entries))
      by_same true is = same ((bytes_eq-Decides key own).0 is)
      by_same false is = other is
