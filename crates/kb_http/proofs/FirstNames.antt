-- Where a walk goes over rows that go on by a parameter, on a path that is cut at its first slash.
use Rattle.std.proofs.Common.{◌≡◌, ℕ, zero, suc, ◌-◌, ◌<◌, ◌==◌, true, false, ltb, List, []}
use Rattle.std.proofs.Common.{◌∷◌, ◌++◌, length, drop, Option, Some, None, nat_eq, refl, sym, ap, ◌∙◌, arith}
use Rattle.std.proofs.Common.{length-append}
use Rattle.std.specs.Cmp.Lexicographic.{pointwise}
use Rattle.std.proofs.lemmas.Bool.{cond-true, cond-false, and_right, and_left, and_from, lt-ltb, ne_eqb}
use Rattle.std.proofs.lemmas.Bool.{eqb-false}
use Rattle.std.proofs.lemmas.List.{drop_at}
use Rattle.matchit.specs.Level.{IsText}
use Rattle.matchit.specs.Rows.{RowsOf, param_token, catch_all_token}
use Rattle.matchit.specs.Seek.{seek, first, own, param_step, longest_from, longest_suffix, with_suffix}
use Rattle.matchit.specs.Seek.{cuts, segment, has_slash}
use Rattle.matchit.proofs.ParamLemmas.{better-empty, drop-length, one_less}
use Rattle.kb_http.specs.Routes.{slash}
use Rattle.kb_http.proofs.Cuts.{has_slash-cons, has_slash-cut, segment-cut, segment-whole}
use Rattle.kb_http.proofs.Seeks.{behind, behind-nil, own-append, own-behind, step-hit, step-miss, seek-none}
use Rattle.kb_http.proofs.Seeks.{seek-drop, or_else-none}
use Rattle.kb_http.proofs.FirstWords.{first-slash}

-- a word is one byte shorter than its segment
length-word : (x : ℕ) (word : List ℕ) → length (x ∷ (word ++ slash ∷ [])) - 1 ≡ length (x ∷ word)
length-word x word = omega (arith, length-append word (slash ∷ []))

-- a slash ends the segment of a word
cuts-word : (x : ℕ) (word : List ℕ) → cuts (x ∷ (word ++ slash ∷ [])) (slash ∷ []) ≡ true
cuts-word x word =
    and_from (ltb 1 (length (x ∷ (word ++ slash ∷ []))))
    (pointwise nat_eq (slash ∷ []) (drop (length (x ∷ (word ++ slash ∷ [])) - 1) (x ∷ (word ++ slash ∷ []))))
    (lt-ltb 1 (length (x ∷ (word ++ slash ∷ []))) (omega (arith, length-append word (slash ∷ []))))
    (rw (drop_at (x ∷ word) (slash ∷ []) (length (x ∷ (word ++ slash ∷ [])) - 1)
    (sym (length-word x word))) refl)

-- it doesn't end a text without one
drop-plain : (count : ℕ) (text : List ℕ) → has_slash text ≡ false → has_slash (drop count text) ≡ false
drop-plain zero text none = none
drop-plain (suc count) [] none = none
drop-plain (suc count) (x ∷ xs) none = drop-plain count xs (has_slash-cons x xs none).1

no_slash-plain : (text : List ℕ) → has_slash text ≡ false → pointwise nat_eq (slash ∷ []) text ≡ false
no_slash-plain [] none = refl
no_slash-plain (x ∷ xs) none =
    and_left (slash == x) (pointwise nat_eq [] xs)
    (ne_eqb slash x (λ same. eqb-false x slash (has_slash-cons x xs none).0 (sym same)))

cuts-plain : (text : List ℕ) → has_slash text ≡ false → cuts text (slash ∷ []) ≡ false
cuts-plain text none =
    and_right (ltb 1 (length text)) (pointwise nat_eq (slash ∷ []) (drop (length text - 1) text))
    (no_slash-plain (drop (length text - 1) text) (drop-plain (length text - 1) text none))

module _ {K : Type 0} where
  -- the row of a route that ends
  abbrev pub ended : Option K → RowsOf K
  ended None = []
  ended (Some key) = ([], key) ∷ []

  -- what goes on behind a parameter: a slash and more, or the end
  abbrev pub going_on : RowsOf K → Option K → RowsOf K
  going_on rows end = behind (slash ∷ []) rows ++ ended end

  -- the longest suffix of these
  longest-ended : (text best : List ℕ) (end : Option K) → longest_from text best (ended end) ≡ best
  longest-ended text best None = refl
  longest-ended text best (Some key) = better-empty text best

  longest-slash : (text : List ℕ) (rows : RowsOf K) (end : Option K)
      → longest_from text (slash ∷ []) (going_on rows end) ≡ slash ∷ []
  longest-slash text [] end = longest-ended text (slash ∷ []) end
  longest-slash text ((pattern, key) ∷ rows) end = longest-slash text rows end

  longest-no_slash : (text : List ℕ) (rows : RowsOf K) (end : Option K) → cuts text (slash ∷ []) ≡ false
      → longest_suffix text (going_on rows end) ≡ []
  longest-no_slash text [] end none = longest-ended text [] end
  longest-no_slash text ((pattern, key) ∷ rows) end none =
      ap (λ best. longest_from text best (going_on rows end))
      (cond-false (cuts text (slash ∷ [])) (slash ∷ []) [] none)
      ∙ longest-no_slash text rows end none

  longest-cut : (text pattern : List ℕ) (key : K) (rows : RowsOf K) (end : Option K)
      → cuts text (slash ∷ []) ≡ true
      → longest_suffix text (going_on ((pattern, key) ∷ rows) end) ≡ slash ∷ []
  longest-cut text pattern key rows end is =
      ap (λ best. longest_from text best (going_on rows end))
      (cond-true (cuts text (slash ∷ [])) (slash ∷ []) [] is)
      ∙ longest-slash text rows end

  -- what goes on by a slash
  with_slash-ended : (end : Option K) → with_suffix (slash ∷ []) (ended end) ≡ []
  with_slash-ended None = refl
  with_slash-ended (Some key) = refl

  with_slash-going_on : (rows : RowsOf K) (end : Option K)
      → with_suffix (slash ∷ []) (going_on rows end) ≡ behind (slash ∷ []) rows
  with_slash-going_on [] end = with_slash-ended end
  with_slash-going_on ((pattern, key) ∷ rows) end =
      ap (λ more. (slash ∷ pattern, key) ∷ more) (with_slash-going_on rows end)

  own-ended : (end : Option K) → own (ended end) ≡ end
  own-ended None = refl
  own-ended (Some key) = refl

  own-going_on : (rows : RowsOf K) (end : Option K) → own (going_on rows end) ≡ end
  own-going_on rows end =
      own-append (behind (slash ∷ []) rows) (ended end) ∙ rw (own-behind slash [] rows) (own-ended end)

  -- a parameter takes bytes of the path, at least one
  first-parameter : (rows : RowsOf K) (b : ℕ) (path : List ℕ) → b < 256
      → first (behind (param_token ∷ []) rows) (b ∷ path)
      ≡ seek ((param_step rows (b ∷ path)).0 - 1) (param_step rows (b ∷ path)).1 path
  unfolding seek
  first-parameter rows b path byte =
      rw (
        step-miss b param_token [] rows (λ same. omega arith),
        step-miss catch_all_token param_token [] rows (λ same. omega arith),
        step-hit param_token [] rows,
        behind-nil rows,
        seek-none 0 path,
      ) (or_else-none _)

  -- a name that isn't empty
  abbrev pub if_some : List ℕ → Option K → Option K
  if_some [] found = None
  if_some (x ∷ xs) found = found

  -- how many bytes, and what goes on
  param_step-end : (rows : RowsOf K) (end : Option K) (text : List ℕ) → has_slash text ≡ false
      → param_step (going_on rows end) text ≡ (length text, going_on rows end)
  unfolding param_step
  param_step-end rows end text none =
      rw (segment-whole text none, longest-no_slash text rows end (cuts-plain text none), none) refl

  param_step-stop : (rows : RowsOf K) (text : List ℕ) → longest_suffix (segment text) rows ≡ []
      → has_slash text ≡ true → param_step rows text ≡ (0, [])
  unfolding param_step
  param_step-stop rows text no_suffix some = rw (no_suffix, some) refl

  param_step-slash : (rows : RowsOf K) (text : List ℕ) → longest_suffix (segment text) rows ≡ slash ∷ []
      → param_step rows text ≡ (length (segment text) - 1, with_suffix (slash ∷ []) rows)
  unfolding param_step
  param_step-slash rows text suffix = rw suffix refl

  param_step-cut : (pattern : List ℕ) (key : K) (rows : RowsOf K) (end : Option K) (x : ℕ)
      (word rest : List ℕ) → has_slash (x ∷ word) ≡ false
      → param_step (going_on ((pattern, key) ∷ rows) end) (x ∷ (word ++ slash ∷ rest))
      ≡ (length (x ∷ word), behind (slash ∷ []) ((pattern, key) ∷ rows))
  param_step-cut pattern key rows end x word rest none =
      param_step-slash (going_on ((pattern, key) ∷ rows) end) (x ∷ (word ++ slash ∷ rest))
      (ap (λ text. longest_suffix text (going_on ((pattern, key) ∷ rows) end))
      (segment-cut (x ∷ word) rest none)
      ∙ longest-cut (x ∷ (word ++ slash ∷ [])) pattern key rows end (cuts-word x word))
      ∙ ap (λ text. (length text - 1, with_suffix (slash ∷ []) (going_on ((pattern, key) ∷ rows) end)))
      (segment-cut (x ∷ word) rest none)
      ∙ ap (λ count. (count, with_suffix (slash ∷ []) (going_on ((pattern, key) ∷ rows) end)))
      (length-word x word)
      ∙ ap (λ more. (length (x ∷ word), more)) (with_slash-going_on ((pattern, key) ∷ rows) end)

  -- a name that ends the path
  pub first-name_end : (rows : RowsOf K) (end : Option K) (path : List ℕ) → IsText path
      → has_slash path ≡ false → first (behind (param_token ∷ []) (going_on rows end)) path ≡ if_some path end
  unfolding seek
  first-name_end rows end [] bytes none = own-behind param_token [] (going_on rows end)
  first-name_end rows end (b ∷ path) bytes none =
      first-parameter (going_on rows end) b path bytes.0
      ∙ ap (λ taken. seek (taken.0 - 1) taken.1 path) (param_step-end rows end (b ∷ path) none)
      ∙ rw (one_less (length path), seek-drop (length path) (going_on rows end) path, drop-length path)
      (own-going_on rows end)

  -- a name and a slash
  pub first-name : (rows : RowsOf K) (end : Option K) (word rest : List ℕ) → IsText (word ++ slash ∷ rest)
      → has_slash word ≡ false
      → first (behind (param_token ∷ []) (going_on rows end)) (word ++ slash ∷ rest)
      ≡ if_some word (first rows rest)
  first-name rows end [] rest bytes none =
      first-parameter (going_on rows end) slash rest (omega arith)
      ∙ ap (λ taken. seek (taken.0 - 1) taken.1 rest)
      (param_step-stop (going_on rows end) (slash ∷ rest) (longest-no_slash (slash ∷ []) rows end refl) refl)
      ∙ seek-none (0 - 1) rest
  first-name [] end (x ∷ word) rest bytes none =
      first-parameter (going_on [] end) x (word ++ slash ∷ rest) bytes.0
      ∙ ap (λ taken. seek (taken.0 - 1) taken.1 (word ++ slash ∷ rest))
      (param_step-stop (going_on [] end) (x ∷ (word ++ slash ∷ rest))
      (longest-ended (segment (x ∷ (word ++ slash ∷ rest))) [] end) (has_slash-cut (x ∷ word) rest none))
      ∙ seek-none (0 - 1) (word ++ slash ∷ rest) ∙ sym (seek-none 0 rest)
  first-name ((pattern, key) ∷ rows) end (x ∷ word) rest bytes none =
      first-parameter (going_on ((pattern, key) ∷ rows) end) x (word ++ slash ∷ rest) bytes.0
      ∙ ap (λ taken. seek (taken.0 - 1) taken.1 (word ++ slash ∷ rest))
      (param_step-cut pattern key rows end x word rest none)
      ∙ rw (
        one_less (length word),
        seek-drop (length word) (behind (slash ∷ []) ((pattern, key) ∷ rows)) (word ++ slash ∷ rest),
        drop_at word (slash ∷ rest) (length word) refl,
      )
      (first-slash ((pattern, key) ∷ rows) rest)
