-- Runs over other days: one more day, fewer days, days without a value, and another key.
use Rattle.std.proofs.Common.{◌≡◌, ℕ, zero, suc, ◌+◌, ◌<◌, ◌≤◌, Bool, [], Option, None}
use Rattle.std.proofs.Common.{refl, sym, ap₂, ◌∙◌, arith}
use Rattle.kb_base.specs.Runs.{with_day, runs}

module _ {V : Type 0} (same : V → V → Bool) where
  -- no day has no run
  pub runs-zero : (key : ℕ → Option V) (day n : ℕ) → n ≡ 0 → runs same key day n ≡ []
  unfolding runs
  runs-zero key day n e = rw e

  -- one more day goes before the runs from the next day on
  pub runs-more : (key : ℕ → Option V) (day next n m : ℕ) → next ≡ day + 1 → n ≡ m + 1
      → runs same key day n ≡ with_day same day (key day) (runs same key next m)
  unfolding runs
  runs-more key day next n m e f =
      let g : n ≡ suc m = omega arith in
      rw (e, g)

  -- days without a value have no run
  pub runs-none : (key : ℕ → Option V) (day count : ℕ)
      → ((d : ℕ) → day ≤ d → d < day + count → key d ≡ None)
      → runs same key day count ≡ []
  runs-none key day zero none = runs-zero key day 0 refl
  runs-none key day (suc count) none =
      let here = none day (omega arith) (omega arith) in
      let later = runs-none key (day + 1) count (λ d low high. none d (omega arith) (omega arith)) in
      runs-more key day (day + 1) (suc count) count refl (omega arith) ∙ rw here later

  -- two keys that agree on some days have the same runs there
  pub runs-same-key : (key other : ℕ → Option V) (day count : ℕ)
      → ((d : ℕ) → day ≤ d → d < day + count → key d ≡ other d)
      → runs same key day count ≡ runs same other day count
  runs-same-key key other day zero agree = runs-zero key day 0 refl ∙ sym (runs-zero other day 0 refl)
  runs-same-key key other day (suc count) agree =
      let here = agree day (omega arith) (omega arith) in
      let later = runs-same-key key other (day + 1) count
      (λ d low high. agree d (omega arith) (omega arith)) in
      runs-more key day (day + 1) (suc count) count refl (omega arith)
      ∙ ap₂ (with_day same day) here later
      ∙ sym (runs-more other day (day + 1) (suc count) count refl (omega arith))
