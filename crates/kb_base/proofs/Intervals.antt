-- Intervals with one value each, told in rising order and joined, are the runs of a key.
use Rattle.std.proofs.Common.{◌≡◌, inl, inr, ⊎_elim, ℕ, ◌-◌, ◌<◌, ◌≤◌, Bool, true, false, ◌&&◌, ◌==◌, List}
use Rattle.std.proofs.Common.{[], ◌∷◌, ◌++◌, Option, Some, None, refl, sym, ap, subst, arith}
use Rattle.std.proofs.lemmas.Bool.{cond_both, and_parts, and_cases, eqb-true, eqb-false, cases_lt}
use Rattle.kb_base.specs.Runs.{Stretch, runs, IsSame, HasNone, IsStretch, IsOther, AreRuns}
use Rattle.kb_base.proofs.Tiled.{runs-are-to, are-runs-only-to}
use Rattle.kb_base.specs.Intervals.{last_two, push_stretch, push_run}

-- a stretch is pushed behind the last one, whatever stands before that
pub push_stretch-last : {V : Type 0} (same : V → V → Bool) (front : List (Stretch V)) (last next : Stretch V)
    → push_stretch same (front ++ last ∷ []) next ≡ front ++ last_two same last next
push_stretch-last same [] last next = refl
push_stretch-last same (first ∷ []) last next = refl
push_stretch-last same (first ∷ second ∷ front) last next =
    ap (λ later. first ∷ later) (push_stretch-last same (second ∷ front) last next)

module _ {V : Type 0} (same : V → V → Bool) (key : ℕ → Option V) where
  -- a stretch of fewer days is one of more
  IsStretch-longer : (day end more : ℕ) (stretch : Stretch V) → end ≤ more → IsStretch key day end stretch
      → IsStretch key day more stretch
  IsStretch-longer day end more stretch order is =
      record { begins = is.begins; some_day = is.some_day; ends = omega (arith, is.ends); valued = is.valued }

  -- days without a value behind days without one
  HasNone-longer : (day end more : ℕ) → HasNone key day end → HasNone key end more → HasNone key day more
  HasNone-longer day end more none later = λ on low high.
      elim (cases_lt on end) [ inl before ↦ none on low before | inr after ↦ later on after high ]

  -- days without a value behind the longest runs add none
  AreRuns-longer : (day a b : ℕ) (found : List (Stretch V)) → a ≤ b → HasNone key a b
      → AreRuns same key day a found → AreRuns same key day b found
  AreRuns-longer day a b [] order none are = HasNone-longer day a b are none
  AreRuns-longer day a b (first ∷ later) order none are = (
    IsStretch-longer day a b first order are.0,
    are.1,
    (λ more. elim (cases_lt first.to a) [
      | inl before ↦ are.2 before
      | inr after ↦ rw (none first.to after more) tt
    ]),
    AreRuns-longer first.to a b later order none are.3,
  )

  -- a stretch behind days without a value is the longest run
  AreRuns-one : (day : ℕ) (next : Stretch V) → day ≤ next.from → next.from < next.to
      → ((on : ℕ) → next.from ≤ on → on < next.to → key on ≡ Some next.value) → HasNone key day next.from
      → AreRuns same key day next.to (next ∷ [])
  AreRuns-one day next order some_day valued none = (
    record { begins = order; some_day = some_day; ends = omega arith; valued = valued },
    none,
    (λ more. absurd (omega arith)),
    λ on low high. absurd (omega arith),
  )

  -- behind the last of the longest runs, a stretch makes it longer or follows it
  AreRuns-two : IsSame same → (day : ℕ) (last next : Stretch V) → next.from < next.to
      → ((on : ℕ) → next.from ≤ on → on < next.to → key on ≡ Some next.value)
      → AreRuns same key day next.from (last ∷ [])
      → AreRuns same key day next.to (last_two same last next)
  AreRuns-two is day last next some_day valued are =
      cond_both ((last.to == next.from) && same last.value next.value) _ _ (AreRuns same key day next.to)
      joins follows
    where
      joins : ((last.to == next.from) && same last.value next.value) ≡ true
          → AreRuns same key day next.to (record { from = last.from; to = next.to; value = last.value } ∷ [])
      joins test =
          let parts = and_parts (last.to == next.from) (same last.value next.value) test in
          let meets = eqb-true last.to next.from parts.0 in
          let alike = is.sound last.value next.value parts.1 in (
            record {
              begins = are.0.begins;
              some_day = omega (arith, are.0.some_day, are.0.ends, some_day);
              ends = omega arith;
              valued = λ on low high.
                  elim (cases_lt on last.to) [
                    | inl before ↦ are.0.valued on low before
                    | inr after ↦ subst (λ (value : V). key on ≡ Some value) (sym alike)
                        (valued on (omega (arith, meets, after)) high)
                  ];
            },
            are.1,
            (λ more. absurd (omega arith)),
            λ on low high. absurd (omega arith),
          )

      follows : ((last.to == next.from) && same last.value next.value) ≡ false
          → AreRuns same key day next.to (last ∷ next ∷ [])
      follows test = (
        IsStretch-longer day next.from next.to last (omega arith) are.0,
        are.1,
        stops,
        AreRuns-one last.to next are.0.ends some_day valued are.3,
      )
        where
          stops : last.to < next.to → IsOther same last.value (key last.to)
          stops more =
              elim (cases_lt last.to next.from) [
                | inl before ↦ are.2 before
                | inr after ↦
                    let meets : last.to ≡ next.from = omega (arith, after, are.0.ends) in
                    let other : same last.value next.value
                    ≡ false = ⊎_elim (λ elsewhere. absurd (eqb-false last.to next.from elsewhere meets))
                    (λ differs. differs) (and_cases (last.to == next.from) (same last.value next.value)
                    test) in
                    rw (valued last.to after more) other
              ]

  -- the longest runs with a stretch pushed behind them are those of more days
  AreRuns-pushed : IsSame same → (day : ℕ) (found : List (Stretch V)) (next : Stretch V) → day ≤ next.from
      → next.from < next.to
      → ((on : ℕ) → next.from ≤ on → on < next.to → key on ≡ Some next.value)
      → AreRuns same key day next.from found
      → AreRuns same key day next.to (push_stretch same found next)
  AreRuns-pushed is day [] next order some_day valued are = AreRuns-one day next order some_day valued are
  AreRuns-pushed is day (last ∷ []) next order some_day valued are =
      AreRuns-two is day last next some_day valued are
  AreRuns-pushed is day (first ∷ second ∷ later) next order some_day valued are = (
    IsStretch-longer day next.from next.to first (omega arith) are.0,
    are.1,
    (λ more. are.2 (omega (arith, are.3.0.begins, are.3.0.some_day, are.3.0.ends))),
    AreRuns-pushed is first.to (second ∷ later) next are.0.ends some_day valued are.3,
  )

  -- the longest runs with an interval of one value behind them are those of more days
  AreRuns-push_run : IsSame same → (day a b : ℕ) (found : List (Stretch V)) (value : Option V) → day ≤ a
      → a < b
      → ((on : ℕ) → a ≤ on → on < b → key on ≡ value) → AreRuns same key day a found
      → AreRuns same key day b (push_run same found a b value)
  AreRuns-push_run is day a b found None order some_day valued are =
      AreRuns-longer day a b found (omega arith) valued are
  AreRuns-push_run is day a b found (Some value) order some_day valued are =
      AreRuns-pushed is day found (record { from = a; to = b; value = value }) order some_day valued are

-- an interval of one value, pushed behind the runs before it, gives the runs up to its end
pub push_run-runs : {V : Type 0} (same : V → V → Bool) → IsSame same
    → (key : ℕ → Option V) (first a b : ℕ) (found : List (Stretch V)) (value : Option V)
    → first ≤ a → a < b → ((day : ℕ) → a ≤ day → day < b → key day ≡ value)
    → found ≡ runs same key first (a - first)
    → push_run same found a b value ≡ runs same key first (b - first)
push_run-runs same is key first a b found value order some_day valued known =
    let before : AreRuns same key first a found =
    rw known (runs-are-to same key is first (a - first) a (omega arith)) in
    sym (are-runs-only-to same key is first (b - first) b (push_run same found a b value) (omega arith)
    (AreRuns-push_run same key is first a b found value order some_day valued before))
