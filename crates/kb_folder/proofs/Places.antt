-- What is at each place of a list to which one is added.
use Rattle.std.proofs.Common.{◌≡◌, ◌<◌, ◌+◌, ◌⊎◌, inl, inr, ℕ, zero, suc, List, [], ◌∷◌, ◌++◌, length, Some}
use Rattle.std.proofs.Common.{arith, refl, ap, subst}
use Rattle.std.specs.List.{slice_get}

-- it was there before, or is the one that is added
pub at_snoc : {A : Type 0} (items : List A) (last : A) (place : ℕ) (item : A)
    → slice_get (items ++ last ∷ []) place ≡ Some item
    → (slice_get items place ≡ Some item) ⊎ ((place ≡ length items) × (last ≡ item))
at_snoc [] last zero item is = inr (refl, cc)
at_snoc [] last (suc place) item is = absurd (cc)
at_snoc (first ∷ items) last zero item is = inl is
at_snoc (first ∷ items) last (suc place) item is = by_case (at_snoc items last place item is)
  where
    by_case : (slice_get items place ≡ Some item) ⊎ ((place ≡ length items) × (last ≡ item))
        → (slice_get (first ∷ items) (suc place) ≡ Some item)
        ⊎ ((suc place ≡ length (first ∷ items)) × (last ≡ item))
    by_case (inl there) = inl there
    by_case (inr (end, same)) = inr (ap suc end, same)

-- it stays
pub at_before : {A : Type 0} (items : List A) (last : A) (place : ℕ) (item : A)
    → slice_get items place ≡ Some item
    → slice_get (items ++ last ∷ []) place ≡ Some item
at_before [] last place item is = absurd (cc)
at_before (first ∷ items) last zero item is = is
at_before (first ∷ items) last (suc place) item is = at_before items last place item is

pub at_end : {A : Type 0} (items : List A) (last : A) → slice_get (items ++ last ∷ [])
    (length items) ≡ Some last
at_end [] last = refl
at_end (first ∷ items) last = at_end items last

-- a place at which something is lies within the list
pub within : {A : Type 0} (items : List A) (place : ℕ) (item : A) → slice_get items place ≡ Some item
    → place < length items
within [] place item is = absurd (cc)
within (first ∷ items) zero item is = omega arith
within (first ∷ items) (suc place) item is = let inside = within items place item is in omega (arith, inside)

-- at each place within it is something
pub some_at : {A : Type 0} (items : List A) (place : ℕ) → place < length items
    → (item : A) × (slice_get items place ≡ Some item)
some_at [] place inside = absurd (omega (arith, inside))
some_at (first ∷ items) zero inside = (first, refl)
some_at (first ∷ items) (suc place) inside = some_at items place (omega (arith, inside))

pub length_snoc : {A : Type 0} (items : List A) (last : A) → length (items ++ last ∷ []) ≡ length items + 1
length_snoc [] last = refl
length_snoc (first ∷ items) last = let longer = length_snoc items last in omega (arith, longer)

-- what comes next lies within all
pub next_within : {A : Type 0} (some : List A) (next : A) (rest all : List A) → some ++ next ∷ rest ≡ all
    → length some < length all
next_within some next rest all is = subst (λ (l : List _). length some < length l) is (shorter some)
  where
    shorter : (some : List _) → length some < length (some ++ next ∷ rest)
    shorter [] = omega arith
    shorter (first ∷ some) = let less = shorter some in omega (arith, less)

pub nothing_left : {A : Type 0} (items : List A) → length items ≡ 0 → items ≡ []
nothing_left [] is = refl
nothing_left (first ∷ items) is = absurd (omega (arith, is))
