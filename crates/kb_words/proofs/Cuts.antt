-- Where a text is cut: behind its prefix, and at its first `=`.
use Rattle.std.proofs.Common.{◌≡◌, ℕ, ◌+◌, ◌<◌, Bool, true, false, List, [], ◌∷◌, length, drop, refl, sym}
use Rattle.std.proofs.Common.{arith, Option, Some, None, subst}
use Rattle.std.specs.Prelude.{nat_eq, MatchOption}
use Rattle.std.specs.Borrow.{Bor}
use Rattle.std.specs.List.{list_any, position_or_len, starts_with}
use Rattle.std.specs.Str.Pattern.{FindsTextPrefix}
use Rattle.std.specs.Str.{IsCharBoundary}
use Rattle.std.proofs.lemmas.Str.Pattern.{starts_text}
use Rattle.std.proofs.lemmas.Grind.{common_steps}

-- an element that passes has a first place
pub list_any-found : (p : ℕ → Bool) (xs : List ℕ) → position_or_len p xs < length xs → list_any p xs ≡ true
list_any-found p [] h = absurd (omega arith)
list_any-found p (x ∷ xs) h = grind (arith, common_steps, list_any-found p xs)

-- and no place is found where none passes
pub list_any-missing : (p : ℕ → Bool) (xs : List ℕ) → position_or_len p xs ≡ length xs → list_any p xs ≡ false
list_any-missing p [] h = refl
list_any-missing p (x ∷ xs) h = grind (arith, common_steps, list_any-missing p xs)

-- a text without its prefix
pub stripped : (prefix text : List ℕ) (r : Option (Bor (List ℕ)))
    → MatchOption r (FindsTextPrefix prefix text None) (λ x. (k : ℕ) × FindsTextPrefix prefix text (Some k)
    × (x.now ≡ drop k text) × (length x.now + k ≡ length text))
    → MatchOption r (starts_with nat_eq text prefix ≡ false)
    (λ x. (starts_with nat_eq text prefix ≡ true) × (x.now ≡ drop (length prefix) text))
stripped prefix text None h = sym (starts_text false prefix text h)
stripped prefix text (Some x) h =
    let boundary = subst (IsCharBoundary text) (sym h.1.0) h.1.2 in (
      sym (starts_text true prefix text (h.0, h.1, boundary)),
      subst (λ (k : ℕ). x.now ≡ drop k text) h.1.0 h.2,
    )
