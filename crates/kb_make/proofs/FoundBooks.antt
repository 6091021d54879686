-- A book is found by the name that stands beside it.
use Rattle.std.proofs.Common.{◌≡◌, ℕ, zero, suc, ◌<◌, List, [], ◌∷◌, length, get_or, slice_get, map}
use Rattle.std.proofs.Common.{AllPairs, true, false, cond, Some, option_map, refl, sym, ap, ◌∙◌, arith}
use Rattle.std.proofs.lemmas.List.{length-map}
use Rattle.std.proofs.lemmas.Map.Lookups.{exact_bytes}
use Rattle.std.proofs.lemmas.Option.{slice_get-map, slice_get_within, get_or_from_slice_get}
use Rattle.std.specs.declared.cmp.Ordering.TheVariants.{Less, Equal, Greater}
use Rattle.std.specs.Ordering.{is_eq}
use Rattle.std.specs.Cmp.{tied_itself}
use Rattle.std.specs.Cmp.Lexicographic.{nat_list_cmp_total}
use Rattle.std.specs.FinMap.{find}
use Rattle.kb_sharing.specs.Keys.{by_words}
use Rattle.kb_book.specs.Books.{BookValue, Keyed}

-- no name stands twice
abbrev pub AreApart : List (List ℕ) → Type 0
AreApart names = AllPairs (λ (one other : List ℕ). one ≡ other → ⊥) names

-- the name of an entry
abbrev pub name_of : List ℕ × BookValue → List ℕ
name_of entry = entry.0

-- a key ties with itself
same-key : (key : List ℕ) → is_eq (by_words key key) ≡ true
same-key key = ap is_eq (tied_itself nat_list_cmp_total key)

-- and with no other one
other-key : (key other : List ℕ) → (other ≡ key → ⊥) → is_eq (by_words key other) ≡ false
other-key key other apart =
    elim (by_words key other) as (λ told. by_words key other ≡ told → is_eq told ≡ false) [
      | Less ↦ λ is. refl
      | Equal ↦ λ is. absurd (apart (sym (exact_bytes key other is)))
      | Greater ↦ λ is. refl
    ] refl

-- the book at a place is found by its name
pub found_at : (books : Keyed BookValue) (place : ℕ) (entry : List ℕ × BookValue)
    → AreApart (map name_of books)
    → slice_get books place ≡ Some entry → find by_words entry.0 books ≡ Some entry.1
found_at [] place entry apart is = absurd (cc)
found_at (one ∷ later) zero entry apart is =
    let same : one ≡ entry = cc in
    ap (λ b. cond b (Some one.1) (find by_words entry.0 later))
    (ap (λ (each : List ℕ × BookValue). is_eq (by_words entry.0 each.0)) same ∙ same-key entry.0)
    ∙ ap (λ (each : List ℕ × BookValue). Some each.1) same
found_at (one ∷ later) (suc place) entry apart is =
    let names = map name_of later in
    let within : place < length later = slice_get_within later place entry is in
    let many : length names ≡ length later = length-map later name_of in
    let name : get_or names place entry.0 ≡ entry.0
    = get_or_from_slice_get names place entry.0 entry.0
    (slice_get-map name_of later place ∙ ap (option_map name_of) is) in
    let other : is_eq (by_words entry.0 one.0) ≡ false
    = other-key entry.0 one.0
    (λ same. apart 0 (suc place) entry.0 (omega arith) (omega (arith, within, many)) (same ∙ sym name)) in
    ap (λ b. cond b (Some one.1) (find by_words entry.0 later)) other
    ∙ found_at later place entry
    (λ i j e below among. apart (suc i) (suc j) e (omega (arith, below)) (omega (arith, among))) is
