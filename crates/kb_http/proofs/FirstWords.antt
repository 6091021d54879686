-- Where a walk goes over rows that go on by a word, on a path that is cut at its first slash.
use Rattle.std.proofs.Common.{◌≡◌, ℕ, ◌==◌, ◌&&◌, Bool, true, false, not, ltb, cond, if◌then◌else◌, List}
use Rattle.std.proofs.Common.{[], ◌∷◌, ◌++◌, ◌<◌, Option, Some, None, refl, sym, ap, ◌∙◌, arith}
use Rattle.std.specs.Prelude.{bytes_eq}
use Rattle.std.proofs.lemmas.Bool.{and_parts, not-true, ltb-true, eqb-true, eqb-false, eq-eqb, ne_eqb}
use Rattle.matchit.specs.Rows.{RowsOf}
use Rattle.matchit.specs.Seek.{seek, first, own, has_slash}
use Rattle.kb_http.specs.Routes.{slash}
use Rattle.kb_http.proofs.Cuts.{has_slash-cons}
use Rattle.kb_http.proofs.Seeks.{behind, behind-nil, seek-none, first-byte, first-behind, own-behind}

-- a word of bytes, with no slash
abbrev pub is_plain : List ℕ → Bool
is_plain [] = true
is_plain (x ∷ xs) = (ltb x 256 && not (x == slash)) && is_plain xs

plain-cons : (x : ℕ) (xs : List ℕ) → is_plain (x ∷ xs) ≡ true
    → (x < 256) × ((x == slash) ≡ false) × (is_plain xs ≡ true)
plain-cons x xs is =
    let parts = and_parts (ltb x 256 && not (x == slash)) (is_plain xs) is in
    let head = and_parts (ltb x 256) (not (x == slash)) parts.0 in
    (ltb-true x 256 head.0, not-true (x == slash) head.1, parts.1)

-- whichever of two bytes is asked about
pub eqb-sym : (x y : ℕ) → (x == y) ≡ (y == x)
eqb-sym x y = by_test (x == y) refl
  where
    by_test : (test : Bool) → (x == y) ≡ test → test ≡ (y == x)
    by_test true is = sym (eq-eqb y x (sym (eqb-true x y is)))
    by_test false is = sym (ne_eqb y x (λ same. eqb-false x y is (sym same)))

module _ {K : Type 0} where
  by_byte : (test : Bool) (others : Bool) (found : Option K)
      → cond test (if others then found else None) None ≡ (if test && others then found else None)
  by_byte true others found = refl
  by_byte false others found = refl

  both_none : (test : Bool) → cond {A = Option K} test None None ≡ None
  both_none true = refl
  both_none false = refl

  -- one more byte of a word
  first-more : (x : ℕ) (text : List ℕ) (rows : RowsOf K) (y : ℕ) (path : List ℕ) (others : Bool)
      (found : Option K) → x < 256 → first (behind text rows) path ≡ (if others then found else None)
      → first (behind (x ∷ text) rows) (y ∷ path) ≡ (if (y == x) && others then found else None)
  first-more x text rows y path others found byte more =
      first-behind x text rows y path byte ∙ rw (more, eqb-sym x y) (by_byte (y == x) others found)

  -- the byte before other words
  pub first-slash : (rows : RowsOf K) (rest : List ℕ)
      → first (behind (slash ∷ []) rows) (slash ∷ rest) ≡ first rows rest
  first-slash rows rest =
      first-behind slash [] rows slash rest (omega arith) ∙ ap (λ more. first more rest) (behind-nil rows)

  pub first-no_slash : (rows : RowsOf K) (y : ℕ) (path : List ℕ) → (y == slash) ≡ false
      → first (behind (slash ∷ []) rows) (y ∷ path) ≡ None
  first-no_slash rows y path other =
      first-behind slash [] rows y path (omega arith) ∙ rw (eqb-sym slash y, other) refl

  -- a word that ends the path
  pub first-end : (text : List ℕ) (key : K) (path : List ℕ) → is_plain text ≡ true
      → first (behind text (([], key) ∷ [])) path ≡ (if bytes_eq path text then Some key else None)
  unfolding seek
  first-end [] key [] is = refl
  first-end [] key (y ∷ path) is = first-byte (([], key) ∷ []) y path refl refl ∙ seek-none 0 path
  first-end (x ∷ text) key [] is = refl
  first-end (x ∷ text) key (y ∷ path) is =
      let parts = plain-cons x text is in
      first-more x text (([], key) ∷ []) y path (bytes_eq path text) (Some key) parts.0
      (first-end text key path parts.2)

  -- a word and a slash
  pub first-word : (text : List ℕ) (rows : RowsOf K) (word rest : List ℕ) → is_plain text ≡ true
      → has_slash word ≡ false
      → first (behind text (behind (slash ∷ []) rows)) (word ++ slash ∷ rest)
      ≡ (if bytes_eq word text then first rows rest else None)
  first-word [] rows [] rest is none =
      ap (λ more. first more (slash ∷ rest)) (behind-nil (behind (slash ∷ []) rows)) ∙ first-slash rows rest
  first-word [] rows (y ∷ word) rest is none =
      ap (λ more. first more (y ∷ (word ++ slash ∷ rest))) (behind-nil (behind (slash ∷ []) rows))
      ∙ first-no_slash rows y (word ++ slash ∷ rest) (has_slash-cons y word none).0
  first-word (x ∷ text) rows [] rest is none =
      let parts = plain-cons x text is in
      first-behind x text (behind (slash ∷ []) rows) slash rest parts.0 ∙ rw (parts.1) refl
  first-word (x ∷ text) rows (y ∷ word) rest is none =
      let parts = plain-cons x text is in
      first-more x text (behind (slash ∷ []) rows) y (word ++ slash ∷ rest) (bytes_eq word text)
      (first rows rest) parts.0 (first-word text rows word rest parts.2 (has_slash-cons y word none).1)

  -- the path has no slash
  pub first-no_word : (text : List ℕ) (rows : RowsOf K) (path : List ℕ) → is_plain text ≡ true
      → has_slash path ≡ false → first (behind text (behind (slash ∷ []) rows)) path ≡ None
  unfolding seek
  first-no_word [] rows [] is none =
      ap own (behind-nil (behind (slash ∷ []) rows)) ∙ own-behind slash [] rows
  first-no_word [] rows (y ∷ path) is none =
      ap (λ more. first more (y ∷ path)) (behind-nil (behind (slash ∷ []) rows))
      ∙ first-no_slash rows y path (has_slash-cons y path none).0
  first-no_word (x ∷ text) rows [] is none = own-behind x text (behind (slash ∷ []) rows)
  first-no_word (x ∷ text) rows (y ∷ path) is none =
      let parts = plain-cons x text is in
      first-behind x text (behind (slash ∷ []) rows) y path parts.0
      ∙ rw (first-no_word text rows path parts.2 (has_slash-cons y path none).1) (both_none (x == y))
