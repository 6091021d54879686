-- What is asked of a list whose last member is told apart from the earlier ones.
use Rattle.std.proofs.Common.{◌≡◌, Bool, true, false, not, ◌&&◌, ◌||◌, List, [], ◌∷◌, ◌++◌, refl, ◌∙◌, ap}
use Rattle.std.specs.List.{list_any}

-- a test that passes, and no other that does
none_more : (passes : Bool) → passes ≡ (passes && not false)
none_more true = refl
none_more false = refl

-- one more member that may not pass
one_more : (this last earlier : Bool) → (not this && (last && not earlier)) ≡ (last && not (this || earlier))
one_more true true earlier = refl
one_more true false earlier = refl
one_more false last earlier = refl

-- what the last member decides alone
pub by_last : {A Y : Type 0} (given : List A → Y) (of_last : A → Y)
    → ((member : A) → given (member ∷ []) ≡ of_last member)
    → ((member next : A) (later : List A) → given (member ∷ next ∷ later) ≡ given (next ∷ later))
    → (members earlier : List A) (last : A) → members ≡ earlier ++ last ∷ [] → given members ≡ of_last last
by_last {A} {Y} given of_last one more members earlier last split = ap given split ∙ go earlier
  where
    go : (earlier : List A) → given (earlier ++ last ∷ []) ≡ of_last last
    go [] = one last
    go (member ∷ []) = more member last [] ∙ one last
    go (member ∷ next ∷ later) = more member next (later ++ last ∷ []) ∙ go (next ∷ later)

-- what the last member has to pass, and each earlier one to fail
pub by_last_alone : {A : Type 0} (given : List A → Bool) (ends before : A → Bool)
    → ((member : A) → given (member ∷ []) ≡ ends member)
    → ((member next : A) (later : List A) → given (member ∷ next ∷ later)
    ≡ (not (before member) && given (next ∷ later)))
    → (members earlier : List A) (last : A) → members ≡ earlier ++ last ∷ []
    → given members ≡ (ends last && not (list_any before earlier))
by_last_alone {A} given ends before one more members earlier last split = ap given split ∙ go earlier
  where
    go : (earlier : List A) → given (earlier ++ last ∷ []) ≡ (ends last && not (list_any before earlier))
    go [] = one last ∙ none_more (ends last)
    go (member ∷ []) =
        more member last [] ∙ ap (λ passes. not (before member) && passes) (go [])
        ∙ one_more (before member) (ends last) false
    go (member ∷ next ∷ later) =
        more member next (later ++ last ∷ []) ∙ ap (λ passes. not (before member) && passes)
        (go (next ∷ later))
        ∙ one_more (before member) (ends last) (list_any before (next ∷ later))
