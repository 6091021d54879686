-- Entries in order have different keys.
use Rattle.std.proofs.Common.{ℕ, suc, ◌≡◌, arith, List, [], ◌∷◌, map, All, AllPairs, T, sym, ap, subst, ◌∙◌}
use Rattle.std.proofs.lemmas.List.Elements.{All-nil, All-cons, All-map}
use Rattle.std.proofs.lemmas.List.Kept.{AllPairs-cons}
use Rattle.std.specs.Ordering.{is_lt}
use Rattle.std.specs.FinMap.Entries.{is_sorted, below_all}
use Rattle.std.specs.Cmp.{tied_itself}
use Rattle.std.specs.Cmp.Lexicographic.{nat_list_cmp_total}
use Rattle.kb_sharing.specs.Keys.{by_words}
use Rattle.kb_sharing.proofs.SplitEntries.{both_first, both_second}

-- no key stands before itself
not-before : (one other : List ℕ) → T (is_lt (by_words one other)) → one ≡ other → ⊥
not-before one other less same =
    subst (λ told. T (is_lt told)) (ap (by_words one) (sym same) ∙ tied_itself nat_list_cmp_total one) less

module _ {V : Type 0} where
  other-keys : (key : List ℕ) (entries : List (List ℕ × V)) → T (below_all by_words key entries)
      → All (λ entry. key ≡ entry.0 → ⊥) entries
  other-keys key [] below = All-nil (λ entry. key ≡ entry.0 → ⊥)
  other-keys key (entry ∷ later) below =
      All-cons (λ other. key ≡ other.0 → ⊥) entry later (not-before key entry.0 (both_first _ _ below))
      (other-keys key later (both_second _ _ below))

  pub entries_apart : (entries : List (List ℕ × V)) → T (is_sorted by_words entries)
      → AllPairs (λ one other. one.0 ≡ other.0 → ⊥) entries
  entries_apart [] sorted = λ i j d below inside. absurd (omega (arith, below, inside))
  entries_apart (entry ∷ later) sorted =
      AllPairs-cons (λ one other. one.0 ≡ other.0 → ⊥) entry later
      (other-keys entry.0 later (both_first _ _ sorted)) (entries_apart later (both_second _ _ sorted))

  -- so the list of keys of some of them has none twice
  pub keys_apart : (entries : List (List ℕ × V)) → AllPairs (λ one other. one.0 ≡ other.0 → ⊥) entries
      → AllPairs (λ (one other : List ℕ). one ≡ other → ⊥) (map (λ entry. entry.0) entries)
  keys_apart [] apart = λ i j d below inside. absurd (omega (arith, below, inside))
  keys_apart (entry ∷ later) apart =
      AllPairs-cons (λ (one other : List ℕ). one ≡ other → ⊥) entry.0 (map (λ each. each.0) later)
      (All-map (λ (key : List ℕ). entry.0 ≡ key → ⊥) (λ each. each.0) later
      (λ k d inside. apart 0 (suc k) d (omega arith) (omega (arith, inside))))
      (keys_apart later (λ i j d below inside. apart (suc i) (suc j) d (omega (arith, below))
      (omega (arith, inside))))
