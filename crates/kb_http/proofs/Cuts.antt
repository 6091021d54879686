-- Texts, cut at their first slash.
use Rattle.std.proofs.Common.{◌≡◌, ℕ, ◌==◌, Bool, true, false, cond, List, [], ◌∷◌, ◌++◌, refl, sym}
use Rattle.std.proofs.Common.{true≢false}
use Rattle.std.specs.Prelude.{bytes_eq}
use Rattle.std.proofs.lemmas.Bool.{eqb-true, eqb-false, ne_eqb, and_left, and_right}
use Rattle.matchit.specs.Level.{IsText}
use Rattle.matchit.specs.Seek.{has_slash, segment}
use Rattle.kb_base.specs.Lines.{pieces}
use Rattle.kb_http.specs.Routes.{slash}

-- of a text without a slash, the first byte is none, and the others have none
pub has_slash-cons : (x : ℕ) (xs : List ℕ) → has_slash (x ∷ xs) ≡ false
    → ((x == slash) ≡ false) × (has_slash xs ≡ false)
has_slash-cons x xs none = by_test (x == slash) none
  where
    by_test : (test : Bool) → cond test true (has_slash xs) ≡ false → (test ≡ false) × (has_slash xs ≡ false)
    by_test true none = absurd (true≢false none)
    by_test false none = (refl, none)

-- what holds of texts without a slash, and of a word, a slash and what stands behind it, holds of each text
pub by_cut : (P : List ℕ → Type 0) → ((text : List ℕ) → has_slash text ≡ false → P text)
    → ((word rest : List ℕ) → has_slash word ≡ false → P (word ++ slash ∷ rest)) → (text : List ℕ) → P text
by_cut P whole cut [] = whole [] refl
by_cut P whole cut (x ∷ xs) =
    by_test (x == slash) refl
    (λ is. by_cut (λ text. P (x ∷ text)) (λ text none. whole (x ∷ text) (rw is none))
    (λ word rest none. cut (x ∷ word) rest (rw is none)) xs)
  where
    by_test : (test : Bool) → (x == slash) ≡ test → ((x == slash) ≡ false → P (x ∷ xs)) → P (x ∷ xs)
    by_test true is other =
        let same : x ≡ slash = eqb-true x slash is in
        rw same (cut [] xs refl)
    by_test false is other = other is

-- its pieces
pub pieces-whole : (text : List ℕ) → has_slash text ≡ false → pieces slash text ≡ text ∷ []
pieces-whole [] none = refl
pieces-whole (x ∷ xs) none =
    let parts = has_slash-cons x xs none in
    rw (parts.0, pieces-whole xs parts.1) refl

pub pieces-cut : (word rest : List ℕ) → has_slash word ≡ false
    → pieces slash (word ++ slash ∷ rest) ≡ word ∷ pieces slash rest
pieces-cut [] rest none = refl
pieces-cut (x ∷ xs) rest none =
    let parts = has_slash-cons x xs none in
    rw (parts.0, pieces-cut xs rest parts.1) refl

-- its segment
pub segment-whole : (text : List ℕ) → has_slash text ≡ false → segment text ≡ text
segment-whole [] none = refl
segment-whole (x ∷ xs) none =
    let parts = has_slash-cons x xs none in
    rw (parts.0, segment-whole xs parts.1) refl

pub segment-cut : (word rest : List ℕ) → has_slash word ≡ false
    → segment (word ++ slash ∷ rest) ≡ word ++ slash ∷ []
segment-cut [] rest none = refl
segment-cut (x ∷ xs) rest none =
    let parts = has_slash-cons x xs none in
    rw (parts.0, segment-cut xs rest parts.1) refl

pub has_slash-cut : (word rest : List ℕ) → has_slash word ≡ false → has_slash (word ++ slash ∷ rest) ≡ true
has_slash-cut [] rest none = refl
has_slash-cut (x ∷ xs) rest none =
    let parts = has_slash-cons x xs none in
    rw (parts.0) (has_slash-cut xs rest parts.1)

-- what stands behind a slash is of bytes too
pub IsText-behind : (word rest : List ℕ) → IsText (word ++ slash ∷ rest) → IsText rest
IsText-behind [] rest bytes = bytes.1
IsText-behind (x ∷ xs) rest bytes = IsText-behind xs rest bytes.1

-- a text with a slash isn't one without
pub bytes_eq-cut : (word rest text : List ℕ) → has_slash text ≡ false
    → bytes_eq (word ++ slash ∷ rest) text ≡ false
bytes_eq-cut [] rest [] none = refl
bytes_eq-cut [] rest (y ∷ ys) none =
    and_left (slash == y) (bytes_eq rest ys)
    (ne_eqb slash y (λ same. eqb-false y slash (has_slash-cons y ys none).0 (sym same)))
bytes_eq-cut (x ∷ xs) rest [] none = refl
bytes_eq-cut (x ∷ xs) rest (y ∷ ys) none =
    and_right (x == y) (bytes_eq (xs ++ slash ∷ rest) ys)
    (bytes_eq-cut xs rest ys (has_slash-cons y ys none).1)
