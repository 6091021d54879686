-- What the runs of a key say of one day, and what each of them says.
use Rattle.std.proofs.Common.{◌≡◌, ℕ, zero, suc, ◌+◌, ◌<◌, ◌≤◌, ◌⊎◌, inl, inr, Bool, true, false, ◌&&◌, ◌==◌}
use Rattle.std.proofs.Common.{nat_eq, nat_le, List, [], ◌∷◌, map, Option, Some, None, All, option_to_list}
use Rattle.std.proofs.Common.{refl, ap, ◌∙◌, arith}
use Rattle.std.proofs.lemmas.Bool.{cond_both, cond-true, cond-false, and_from, and_left, and_right, le-leb}
use Rattle.std.proofs.lemmas.Bool.{lt-leb, lt-ltb, le-ltb, eqb-true, eq-eqb, cases_lt}
use Rattle.std.proofs.lemmas.List.Elements.{All-nil, All-cons, All-head, All-tail}
use Rattle.kb_base.specs.Runs.{Stretch, has_day, values_on, with_day, runs, IsSame, IsStretch, AreRuns}
use Rattle.kb_base.proofs.Tiled.{runs-are, joined-parts}

module _ {V : Type 0} where
  -- a stretch that has the day gives its value
  values_on-has : (d : ℕ) (first : Stretch V) (later : List (Stretch V)) → first.from ≤ d → d < first.to
      → values_on d (first ∷ later) ≡ first.value ∷ values_on d later
  values_on-has d first later begins ends =
      let has : has_day d first ≡ true = and_from _ _ (le-leb first.from d begins) (lt-ltb d first.to ends) in
      ap (map (λ stretch. stretch.value)) (cond-true (has_day d first) _ _ has)

  -- a stretch that hasn't the day gives nothing
  values_on-misses : (d : ℕ) (first : Stretch V) (later : List (Stretch V)) → has_day d first ≡ false
      → values_on d (first ∷ later) ≡ values_on d later
  values_on-misses d first later misses =
      ap (map (λ stretch. stretch.value)) (cond-false (has_day d first) _ _ misses)

  -- a stretch has no day before it
  has_day-before : (d : ℕ) (stretch : Stretch V) → d < stretch.from → has_day d stretch ≡ false
  has_day-before d stretch before = and_left _ _ (lt-leb stretch.from d before)

  -- a stretch has no day from its end on
  has_day-after : (d : ℕ) (stretch : Stretch V) → stretch.to ≤ d → has_day d stretch ≡ false
  has_day-after d stretch after = and_right (nat_le stretch.from d) _ (le-ltb d stretch.to after)

  -- a stretch has some day, and none outside of these
  pub record IsWithin (low high : ℕ) (stretch : Stretch V) : Type 0 where
    pub begins : low ≤ stretch.from
    pub some_day : stretch.from < stretch.to
    pub ends : stretch.to ≤ high

  -- stretches have no day that lies outside of theirs
  values_on-outside : (low high d : ℕ) (stretches : List (Stretch V)) → (d < low) ⊎ (high ≤ d)
      → All (IsWithin low high) stretches → values_on d stretches ≡ []
  values_on-outside low high d [] outside within = refl
  values_on-outside low high d (first ∷ later) outside within =
      values_on-misses d first later (misses outside (All-head (IsWithin low high) first later within))
      ∙ values_on-outside low high d later outside (All-tail (IsWithin low high) first later within)
    where
      misses : (d < low) ⊎ (high ≤ d) → IsWithin low high first → has_day d first ≡ false
      misses (inl before) is = has_day-before d first (omega (arith, is.begins))
      misses (inr after) is = has_day-after d first (omega (arith, is.ends))

module _ {V : Type 0} (same : V → V → Bool) where
  -- a day more lies within these days too
  with_day-within : (low high day : ℕ) (found : Option V) (later : List (Stretch V)) → low ≤ day
      → day + 1 ≤ high
      → All (IsWithin low high) later → All (IsWithin low high) (with_day same day found later)
  with_day-within low high day None later above below within = within
  with_day-within low high day (Some value) [] above below within =
      All-cons (IsWithin low high) _ [] (record {
        begins = above;
        some_day = omega arith;
        ends = below;
      }) within
  with_day-within low high day (Some value) (next ∷ later) above below within =
      cond_both ((next.from == day + 1) && same value next.value) _ _ (All (IsWithin low high))
      (λ test. All-cons (IsWithin low high) _ later (joined test)
      (All-tail (IsWithin low high) next later within))
      (λ _. All-cons (IsWithin low high) _ (next ∷ later) alone within)
    where
      joined : ((next.from == day + 1) && same value next.value) ≡ true
          → IsWithin low high (record { from = day; to = next.to; value = value })
      joined test =
          let parts = joined-parts same value day next test in
          let is = All-head (IsWithin low high) next later within in
          record { begins = above; some_day = omega (arith, parts.0, is.some_day); ends = is.ends }

      alone : IsWithin low high (record { from = day; to = day + 1; value = value })
      alone = record { begins = above; some_day = omega arith; ends = below }

  -- runs lie within the days that they are over
  pub runs-within : (key : ℕ → Option V) (low high day count : ℕ) → low ≤ day → day + count ≤ high
      → All (IsWithin low high) (runs same key day count)
  unfolding runs
  runs-within key low high day zero above below = All-nil (IsWithin low high)
  runs-within key low high day (suc count) above below =
      with_day-within low high day (key day) (runs same key (day + 1) count) above (omega arith)
      (runs-within key low high (day + 1) count (omega arith) (omega arith))

  -- no run has a day before the first one
  pub runs-before : (key : ℕ → Option V) (day count d : ℕ) → d < day
      → values_on d (runs same key day count) ≡ []
  runs-before key day count d before =
      values_on-outside day (day + count) d (runs same key day count) (inl before)
      (runs-within key day (day + count) day count (omega arith) (omega arith))

  -- no run has a day past the last one
  pub runs-after : (key : ℕ → Option V) (day count d : ℕ) → day + count ≤ d
      → values_on d (runs same key day count) ≡ []
  runs-after key day count d after =
      values_on-outside day (day + count) d (runs same key day count) (inr after)
      (runs-within key day (day + count) day count (omega arith) (omega arith))

module _ {V : Type 0} (same : V → V → Bool) (key : ℕ → Option V) where
  -- the longest runs have no day before the first one
  AreRuns-before : (day end d : ℕ) (stretches : List (Stretch V)) → d < day
      → AreRuns same key day end stretches
      → values_on d stretches ≡ []
  AreRuns-before day end d [] before are = refl
  AreRuns-before day end d (first ∷ later) before are =
      values_on-misses d first later (has_day-before d first (omega (arith, are.0.begins)))
      ∙ AreRuns-before first.to end d later (omega (arith, are.0.begins, are.0.some_day)) are.3

  -- the values of the longest runs on a day are the key's value there
  pub AreRuns-cover : (day end d : ℕ) (stretches : List (Stretch V)) → day ≤ d → d < end
      → AreRuns same key day end stretches → values_on d stretches ≡ option_to_list (key d)
  AreRuns-cover day end d [] low high are = rw (are d low high) refl
  AreRuns-cover day end d (first ∷ later) low high are =
      by_place (cases_lt d first.from) (cases_lt d first.to)
      (λ after. AreRuns-cover first.to end d later after high are.3)
    where
      by_place : (d < first.from) ⊎ (first.from ≤ d) → (d < first.to) ⊎ (first.to ≤ d)
          → (first.to ≤ d → values_on d later ≡ option_to_list (key d))
          → values_on d (first ∷ later) ≡ option_to_list (key d)
      by_place (inl before) at_end rest =
          values_on-misses d first later (has_day-before d first before)
          ∙ rw (are.1 d low before)
          (AreRuns-before first.to end d later (omega (arith, are.0.some_day)) are.3)
      by_place (inr from) (inl to) rest =
          values_on-has d first later from to
          ∙ rw (are.0.valued d from to, AreRuns-before first.to end d later to are.3) refl
      by_place (inr from) (inr after) rest =
          values_on-misses d first later (has_day-after d first after) ∙ rest after

  -- each of the longest runs is a stretch of the key
  pub AreRuns-each : (low day end : ℕ) (stretches : List (Stretch V)) → low ≤ day
      → AreRuns same key day end stretches → All (IsStretch key low end) stretches
  AreRuns-each low day end [] above are = All-nil (IsStretch key low end)
  AreRuns-each low day end (first ∷ later) above are =
      All-cons (IsStretch key low end) first later
      (record {
        begins = omega (arith, are.0.begins);
        some_day = are.0.some_day;
        ends = are.0.ends;
        valued = are.0.valued;
      })
      (AreRuns-each low first.to end later (omega (arith, are.0.begins, are.0.some_day)) are.3)

-- the values of the runs on one of their days are the key's value there
pub runs-cover : {V : Type 0} (same : V → V → Bool) → IsSame same → (key : ℕ → Option V) (day count d : ℕ)
    → day ≤ d → d < day + count → values_on d (runs same key day count) ≡ option_to_list (key d)
runs-cover same is key day count d low high =
    AreRuns-cover same key day (day + count) d (runs same key day count) low high
    (runs-are same is key day count)

-- each run is a stretch of the key
pub each-run : {V : Type 0} (same : V → V → Bool) → IsSame same → (key : ℕ → Option V) (day count : ℕ)
    → All (IsStretch key day (day + count)) (runs same key day count)
each-run same is key day count =
    AreRuns-each same key day day (day + count) (runs same key day count) (omega arith)
    (runs-are same is key day count)

-- a stretch's value is what its first day has
pub IsStretch-first : {V : Type 0} (key : ℕ → Option V) (day end : ℕ) (stretch : Stretch V)
    → IsStretch key day end stretch → key stretch.from ≡ Some stretch.value
IsStretch-first key day end stretch is = is.valued stretch.from (omega arith) is.some_day

-- the test of two numbers tells whether they are the same
pub nat_eq-same : IsSame nat_eq
nat_eq-same = record { sound = eqb-true; complete = λ a. eq-eqb a a refl }
