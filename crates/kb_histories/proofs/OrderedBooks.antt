-- Entries in the order of their keys are each found under their key.
use Rattle.std.proofs.Common.{◌≡◌, ℕ, List, [], ◌∷◌, Some, None, All, T, refl, sym, ◌∙◌}
use Rattle.std.specs.declared.cmp.Ordering.{Ordering}
use Rattle.std.specs.declared.cmp.Ordering.TheVariants.{Less, Equal, Greater}
use Rattle.std.specs.Cmp.{tied_itself}
use Rattle.std.specs.Cmp.Lexicographic.{nat_list_cmp_total}
use Rattle.std.specs.FinMap.{find, is_sorted}
use Rattle.std.specs.FinMap.Entries.{below_all, find_tied}
use Rattle.std.proofs.lemmas.Option.{none-some}
use Rattle.std.proofs.lemmas.List.Elements.{All-nil, All-cons, All-weaker}
use Rattle.kb_sharing.specs.Keys.{by_words}
use Rattle.kb_sharing.proofs.SplitEntries.{both_first, both_second, is_less}
use Rattle.kb_book.specs.Books.{Keyed}

module _ {X : Type 0} where
  -- a key that stands before all isn't found
  find-below_all : (key : List ℕ) (entries : Keyed X) → T (below_all by_words key entries)
      → find by_words key entries ≡ None
  find-below_all key [] below = refl
  find-below_all key (entry ∷ later) below =
      rw (is_less (by_words key entry.0) (both_first _ _ below))
      (find-below_all key later (both_second _ _ below))

  -- what is found behind an entry is found with it in front
  find-behind : (entry : List ℕ × X) (later : Keyed X) (key : List ℕ) (value : X)
      → T (is_sorted by_words (entry ∷ later)) → find by_words key later ≡ Some value
      → find by_words key (entry ∷ later) ≡ Some value
  find-behind entry later key value sorted there = by_tie (by_words key entry.0) refl
    where
      by_tie : (order : Ordering) → by_words key entry.0 ≡ order
          → find by_words key (entry ∷ later) ≡ Some value
      by_tie Less is = rw is there
      by_tie Greater is = rw is there
      by_tie Equal is =
          let none : find by_words entry.0 later ≡ None =
          find-below_all entry.0 later (both_first _ _ sorted) in
          let same : find by_words entry.0 later ≡ find by_words key later =
          find_tied by_words nat_list_cmp_total key entry.0 is later in
          absurd (none-some value (sym none ∙ same ∙ there))

  -- so each is found
  pub found-each : (entries : Keyed X) → T (is_sorted by_words entries)
      → All (λ (entry : List ℕ × X). find by_words entry.0 entries ≡ Some entry.1) entries
  found-each [] sorted = All-nil (λ (entry : List ℕ × X). None ≡ Some entry.1)
  found-each (first ∷ later) sorted =
      All-cons (λ (entry : List ℕ × X). find by_words entry.0 (first ∷ later) ≡ Some entry.1) first later
      (rw (tied_itself nat_list_cmp_total first.0) refl)
      (All-weaker (λ (entry : List ℕ × X). find by_words entry.0 later ≡ Some entry.1)
      (λ (entry : List ℕ × X). find by_words entry.0 (first ∷ later) ≡ Some entry.1)
      (λ entry there. find-behind first later entry.0 entry.1 sorted there) later
      (found-each later (both_second _ _ sorted)))
