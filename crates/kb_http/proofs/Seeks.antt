-- The steps of a walk over rows whose keys are of any type.
use Rattle.std.proofs.Common.{◌≡◌, ◌≢◌, ℕ, zero, suc, ◌-◌, ◌<◌, ◌==◌, Bool, true, false, cond, List, [], ◌∷◌}
use Rattle.std.proofs.Common.{◌++◌, length, drop, Option, Some, None, refl, sym, ap, ◌∙◌, arith, append-nil}
use Rattle.std.proofs.lemmas.Bool.{eqb-true, eqb-false, eq-eqb, ne_eqb}
use Rattle.matchit.specs.Rows.{RowsOf, param_token, catch_all_token}
use Rattle.matchit.specs.Seek.{own, step, or_else, seek, first, param_step, has_slash}

module _ {K : Type 0} where
  -- rows, with a text before the pattern of each
  abbrev pub behind : List ℕ → RowsOf K → RowsOf K
  behind text [] = []
  behind text ((pattern, key) ∷ rows) = (text ++ pattern, key) ∷ behind text rows

  pub behind-nil : (rows : RowsOf K) → behind [] rows ≡ rows
  behind-nil [] = refl
  behind-nil ((pattern, key) ∷ rows) = ap (λ more. (pattern, key) ∷ more) (behind-nil rows)

  pub own-append : (xs ys : RowsOf K) → own (xs ++ ys) ≡ or_else (own xs) (own ys)
  own-append [] ys = refl
  own-append (([], key) ∷ xs) ys = refl
  own-append ((x ∷ pattern, key) ∷ xs) ys = own-append xs ys

  pub own-behind : (x : ℕ) (text : List ℕ) (rows : RowsOf K) → own (behind (x ∷ text) rows) ≡ None
  own-behind x text [] = refl
  own-behind x text ((pattern, key) ∷ rows) = own-behind x text rows

  pub step-append : (b : ℕ) (xs ys : RowsOf K) → step b (xs ++ ys) ≡ step b xs ++ step b ys
  step-append b [] ys = refl
  step-append b (([], key) ∷ xs) ys = step-append b xs ys
  step-append b ((x ∷ pattern, key) ∷ xs) ys = by_test (x == b) (step b xs) (step b ys) (step-append b xs ys)
    where
      by_test : (test : Bool) (some more : RowsOf K) → step b (xs ++ ys) ≡ some ++ more
          → cond test ((pattern, key) ∷ step b (xs ++ ys)) (step b (xs ++ ys))
          ≡ cond test ((pattern, key) ∷ some) some ++ more
      by_test true some more both = ap (λ rows. (pattern, key) ∷ rows) both
      by_test false some more both = both

  pub step-hit : (x : ℕ) (text : List ℕ) (rows : RowsOf K)
      → step x (behind (x ∷ text) rows) ≡ behind text rows
  step-hit x text [] = refl
  step-hit x text ((pattern, key) ∷ rows) =
      rw (eq-eqb x x refl) (ap (λ more. (text ++ pattern, key) ∷ more) (step-hit x text rows))

  pub step-miss : (b x : ℕ) (text : List ℕ) (rows : RowsOf K) → x ≢ b → step b (behind (x ∷ text) rows) ≡ []
  step-miss b x text [] other = refl
  step-miss b x text ((pattern, key) ∷ rows) other =
      rw (ne_eqb x b other) (step-miss b x text rows other)

  pub or_else-none : (a : Option K) → or_else a None ≡ a
  or_else-none None = refl
  or_else-none (Some key) = refl

  -- no row leads nowhere
  pub param_step-none : (path : List ℕ) → (param_step {K = K} [] path).1 ≡ []
  unfolding param_step
  param_step-none path = by_test (has_slash path)
    where
      by_test : (test : Bool) → (cond {A = ℕ × RowsOf K} test (0, []) (length path, [])).1 ≡ []
      by_test true = refl
      by_test false = refl

  pub seek-none : (skip : ℕ) (path : List ℕ) → seek {K = K} skip [] path ≡ None
  unfolding seek
  seek-none skip [] = refl
  seek-none (suc skip) (b ∷ path) = seek-none skip path
  seek-none zero (b ∷ path) =
      simp (
        seek-none 0 path,
        param_step-none (b ∷ path),
        seek-none ((param_step {K = K} [] (b ∷ path)).0 - 1) path,
      )

  pub seek-drop : (skip : ℕ) (rows : RowsOf K) (path : List ℕ)
      → seek skip rows path ≡ first rows (drop skip path)
  unfolding seek
  seek-drop zero rows path = refl
  seek-drop (suc skip) rows [] = refl
  seek-drop (suc skip) rows (b ∷ path) = seek-drop skip rows path

  -- where no row goes on by a parameter, the next byte decides
  pub first-byte : (rows : RowsOf K) (b : ℕ) (path : List ℕ) → step param_token rows ≡ []
      → step catch_all_token rows ≡ [] → first rows (b ∷ path) ≡ first (step b rows) path
  unfolding seek
  first-byte rows b path no_parameter no_catch_all =
      simp (
        no_parameter,
        no_catch_all,
        param_step-none (b ∷ path),
        seek-none ((param_step {K = K} [] (b ∷ path)).0 - 1) path,
        or_else-none,
      )

  -- so it does where all go on by one byte
  pub first-behind : (x : ℕ) (text : List ℕ) (rows : RowsOf K) (b : ℕ) (path : List ℕ) → x < 256
      → first (behind (x ∷ text) rows) (b ∷ path) ≡ cond (x == b) (first (behind text rows) path) None
  first-behind x text rows b path byte =
      first-byte (behind (x ∷ text) rows) b path (step-miss param_token x text rows (λ same. omega arith))
      (step-miss catch_all_token x text rows (λ same. omega arith))
      ∙ by_test (x == b) refl
    where
      by_test : (test : Bool) → (x == b) ≡ test
          → first (step b (behind (x ∷ text) rows)) path ≡ cond test (first (behind text rows) path) None
      by_test true is =
          ap (λ y. first (step y (behind (x ∷ text) rows)) path) (sym (eqb-true x b is))
          ∙ ap (λ more. first more path) (step-hit x text rows)
      by_test false is =
          ap (λ more. first more path) (step-miss b x text rows (eqb-false x b is)) ∙ seek-none 0 path

  -- rows that go on by one byte, and others that don't go on by it: the first that finds a key
  pub first-append : (x : ℕ) (text : List ℕ) (rows others : RowsOf K) (path : List ℕ) → x < 256
      → step x others ≡ [] → step param_token others ≡ [] → step catch_all_token others ≡ []
      → first (behind (x ∷ text) rows ++ others) path
      ≡ or_else (first (behind (x ∷ text) rows) path) (first others path)
  unfolding seek
  first-append x text rows others [] byte no_byte no_parameter no_catch_all =
      own-append (behind (x ∷ text) rows) others
  first-append x text rows others (b ∷ path) byte no_byte no_parameter no_catch_all =
      first-byte (behind (x ∷ text) rows ++ others) b path
      (step-append param_token (behind (x ∷ text) rows) others
      ∙ rw (step-miss param_token x text rows (λ same. omega arith)) no_parameter)
      (step-append catch_all_token (behind (x ∷ text) rows) others
      ∙ rw (step-miss catch_all_token x text rows (λ same. omega arith)) no_catch_all)
      ∙ ap (λ more. first more path) (step-append b (behind (x ∷ text) rows) others)
      ∙ by_test (x == b) refl
      ∙ sym (ap (λ found. or_else (first (behind (x ∷ text) rows) (b ∷ path)) found)
      (first-byte others b path no_parameter no_catch_all))
    where
      by_test : (test : Bool) → (x == b) ≡ test
          → first (step b (behind (x ∷ text) rows) ++ step b others) path
          ≡ or_else (first (behind (x ∷ text) rows) (b ∷ path)) (first (step b others) path)
      by_test true is =
          let same : b ≡ x = sym (eqb-true x b is) in
          rw (
            first-behind x text rows b path byte,
            is,
            same,
            step-hit x text rows,
            no_byte,
            append-nil (behind text rows),
            seek-none 0 path,
            or_else-none (first (behind text rows) path),
          ) refl
      by_test false is =
          rw (first-behind x text rows b path byte, is, step-miss b x text rows (eqb-false x b is)) refl
