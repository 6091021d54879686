-- Histories that begin with others.
use Rattle.std.proofs.Common.{List, [], ◌++◌, refl, sym, ap, ◌∙◌, append-nil, append_assoc}
use mathlib.Core.List.{IsPrefix}

-- a history begins with itself
pub prefix_self : {E : Type 0} (xs : List E) → IsPrefix xs xs
prefix_self xs = ([], append-nil xs)

-- a history with more begins with it
pub prefix_more : {E : Type 0} (xs ys : List E) → IsPrefix xs (xs ++ ys)
prefix_more xs ys = (ys, refl)

-- what begins with a history begins with all that it begins with
pub prefix_then : {E : Type 0} (xs ys zs : List E) → IsPrefix xs ys → IsPrefix ys zs → IsPrefix xs zs
prefix_then xs ys zs h k = (h.0 ++ k.0, sym (append_assoc xs h.0 k.0) ∙ (ap (λ l. l ++ k.0) h.1 ∙ k.1))
