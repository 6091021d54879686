-- Books by name, as std's map has them and as the definitions have them.
use Rattle.std.proofs.Common.{◌≡◌, ℕ, true≢false, refl, sym, ap, ◌∙◌, List, [], ◌∷◌, Some, None, cond, IsSome}
use Rattle.std.proofs.Common.{get_or, AllPairs}
use Rattle.std.proofs.lemmas.Map.Keys.{Less-from_sorted}
use Rattle.std.specs.declared.cmp.Ordering.TheVariants.{Less, Equal, Greater}
use Rattle.std.specs.Ordering.{is_eq, match_ordering}
use Rattle.std.specs.Cmp.{tied_itself}
use Rattle.std.proofs.lemmas.Option.{none-some}
use Rattle.std.specs.Cmp.Lexicographic.{nat_list_cmp_total}
use Rattle.std.specs.List.{AllByRecursion}
use Rattle.std.specs.List.Sorted.{IsStrictlySortedBy}
use Rattle.std.specs.Map.{lookup, remove_entry, set_value, keys_of}
use Rattle.std.specs.BTreeMap.{insert_entry, is_at}
use Rattle.std.specs.FinMap.{find, put}
use Rattle.std.specs.FinMap.Entries.{by_order}
use Rattle.kb_sharing.specs.Keys.{by_words}

-- a look-up is the same in both
pub lookup_find : {X : Type 0} (k : List ℕ) (es : List (List ℕ × X))
    → lookup (is_at (by_words k)) es ≡ find by_words k es
lookup_find k [] = refl
lookup_find k (e ∷ es) = ap (cond (is_eq (by_words k e.0)) (Some e.1)) (lookup_find k es)

-- so is what is put in
pub insert_put : {X : Type 0} (k : List ℕ) (v : X) (es : List (List ℕ × X))
    → insert_entry by_words es k v ≡ put by_words k v es
insert_put k v [] = refl
insert_put k v (e ∷ es) =
    elim (by_words k e.0) as (λ r. match_ordering r ((k, v) ∷ e ∷ es) ((e.0, v) ∷ es)
    (e ∷ insert_entry by_words es k v)
    ≡ by_order r ((k, v) ∷ e ∷ es) ((e.0, v) ∷ es) (e ∷ put by_words k v es)) [
      | Less ↦ refl
      | Equal ↦ refl
      | Greater ↦ ap (λ later. e ∷ later) (insert_put k v es)
    ]

by_words-same : (word : List ℕ) → by_words word word ≡ Equal
by_words-same word = tied_itself nat_list_cmp_total word

-- what was put in at a new key is taken out again
remove-put : {X : Type 0} (k : List ℕ) (v : X) (es : List (List ℕ × X)) → find by_words k es ≡ None
    → remove_entry (is_at (by_words k)) (put by_words k v es) ≡ es
remove-put k v [] none = rw (by_words-same k) refl
remove-put k v (e ∷ es) none =
    elim (by_words k e.0) as (λ r. by_words k e.0 ≡ r → cond (is_eq r) (Some e.1) (find by_words k es) ≡ None
    → remove_entry (is_at (by_words k))
    (by_order r ((k, v) ∷ e ∷ es) ((e.0, v) ∷ es) (e ∷ put by_words k v es)) ≡ e ∷ es) [
      | Less ↦ λ is gone. rw (by_words-same k) refl
      | Equal ↦ λ is gone. absurd (none-some e.1 (sym gone))
      | Greater ↦ λ is gone. rw is (ap (λ later. e ∷ later) (remove-put k v es gone))
    ] refl none

pub removed_book : {X : Type 0} (k : List ℕ) (v : X) (old new before : List (List ℕ × X))
    → new ≡ remove_entry (is_at (by_words k)) old → find by_words k before ≡ None
    → old ≡ put by_words k v before → new ≡ before
removed_book k v old new before is none put_in =
    is ∙ ap (remove_entry (is_at (by_words k))) put_in ∙ remove-put k v before none

-- a key below the first one isn't there
find-below : {X : Type 0} (k first : List ℕ) (es : List (List ℕ × X)) → by_words k first ≡ Less
    → AllByRecursion (λ y. by_words first y ≡ Less) (keys_of es) → find by_words k es ≡ None
find-below k first [] less all = refl
find-below k first (e ∷ es) less all =
    let below : by_words k e.0 ≡ Less = nat_list_cmp_total.trans k first e.0 less all.0 in
    rw below (find-below k first es less all.1)

-- what is written at a key that is there is put in
set-put : {X : Type 0} (k : List ℕ) (w : X) (es : List (List ℕ × X))
    → IsStrictlySortedBy by_words (keys_of es)
    → IsSome (find by_words k es) → set_value (is_at (by_words k)) es w ≡ put by_words k w es
unfolding IsStrictlySortedBy
set-put k w [] sorted there = absurd (true≢false (sym there))
set-put k w (e ∷ es) sorted there =
    elim (by_words k e.0) as (λ r. by_words k e.0 ≡ r → IsSome
    (cond (is_eq r) (Some e.1) (find by_words k es))
    → cond (is_eq r) ((e.0, w) ∷ es) (e ∷ set_value (is_at (by_words k)) es w)
    ≡ by_order r ((k, w) ∷ e ∷ es) ((e.0, w) ∷ es) (e ∷ put by_words k w es)) [
      | Less ↦ λ is found. absurd (true≢false (sym (rw (find-below k e.0 es is sorted.0) at found)))
      | Equal ↦ λ is found. refl
      | Greater ↦ λ is found. ap (λ later. e ∷ later) (set-put k w es sorted.1 found)
    ] refl there

pub written_book : {X : Type 0} (k : List ℕ) (w : X) (old new : List (List ℕ × X))
    → new ≡ set_value (is_at (by_words k)) old w → IsStrictlySortedBy by_words (keys_of old)
    → IsSome (find by_words k old) → new ≡ put by_words k w old
written_book k w old new is sorted there = is ∙ set-put k w old sorted there

-- names in order are different ones
pub sorted_apart : (names : List (List ℕ)) → IsStrictlySortedBy by_words names
    → AllPairs (λ (one other : List ℕ). one ≡ other → ⊥) names
sorted_apart names sorted i j d below inside same =
    let less : by_words (get_or names i d) (get_or names j d) ≡ Less =
    Less-from_sorted by_words names i j d sorted below inside in
    let tied : by_words (get_or names i d) (get_or names j d) ≡ Equal =
    ap (by_words (get_or names i d)) (sym same) ∙ by_words-same (get_or names i d) in
    cc
