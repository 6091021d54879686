-- The last of some days up to a day.
use Rattle.std.proofs.Common.{◌≡◌, inl, inr, ◌⊎◌, ℕ, ◌+◌, ◌<◌, ◌≤◌, List, [], ◌∷◌, Contains, refl, sym, subst}
use Rattle.std.proofs.Common.{arith}
use Rattle.std.proofs.lemmas.Bool.{cases_lt}
use Rattle.std.proofs.lemmas.List.Elements.{Contains-append_left, Contains-append_right}
use Rattle.std.proofs.lemmas.List.Elements.{Contains-append_cases, Contains-push, Contains-push_cases}
use Rattle.kb_events.specs.Private.Cuts.{IsGap}

-- a member is the first one or a later one
Contains-cons_cases : (first : ℕ) (later : List ℕ) (day : ℕ) → Contains (first ∷ later) day
    → (first ≡ day) ⊎ Contains later day
Contains-cons_cases first later day has =
    elim (Contains-append_cases (first ∷ []) later day has) [
      | inl here ↦ elim (Contains-push_cases [] first day here)
          [ inl none ↦ absurd (omega (arith, none.1)) | inr same ↦ inl same ]
      | inr behind ↦ inr behind
    ]

-- the first one is a member
Contains-first : (first : ℕ) (later : List ℕ) → Contains (first ∷ later) first
Contains-first first later = Contains-append_left (first ∷ []) later first (Contains-push [] first)

-- a day that is the last one of some and of one more, up to a day
record IsLast (cuts : List ℕ) (one day last : ℕ) : Type 0 where
  among : (last ≡ one) ⊎ Contains cuts last
  begins : one ≤ last
  past : last ≤ day
  greatest : (other : ℕ) → Contains cuts other → other ≤ day → other ≤ last

last_of : (cuts : List ℕ) (one day : ℕ) → one ≤ day → (last : ℕ) × IsLast cuts one day last
last_of [] one day past = (
  one,
  record {
    among = inl refl;
    begins = omega arith;
    past = past;
    greatest = λ other has up_to. absurd
        (omega (arith, has.1));
  },
)
last_of (first ∷ later) one day past = by_place (cases_lt day first) (cases_lt one first)
    (last_of later one day past) (λ up_to_day. last_of later first day up_to_day)
  where
    skipped : ((last : ℕ) × IsLast later one day last)
        → ((other : ℕ) → first ≡ other → other ≤ day → other ≤ one)
        → (last : ℕ) × IsLast (first ∷ later) one day last
    skipped found bounded =
        let last = found.0 in
        let is = found.1 in (
          last,
          record {
            among = elim is.among [
              | inl same ↦ inl same
              | inr has ↦ inr
                  (Contains-append_right (first ∷ []) later last has)
            ];
            begins = is.begins;
            past = is.past;
            greatest = λ other has up_to.
                elim (Contains-cons_cases first later other has) [
                  | inl same ↦ let low = bounded other same up_to in omega (arith, low, is.begins)
                  | inr behind ↦ is.greatest other behind up_to
                ];
          },
        )

    taken : ((last : ℕ) × IsLast later first day last) → one ≤ first
        → (last : ℕ) × IsLast (first ∷ later) one day last
    taken found begins =
        let last = found.0 in
        let is = found.1 in (
          last,
          record {
            among = inr (elim is.among [
              | inl same ↦ subst (Contains (first ∷ later)) (sym same) (Contains-first first later)
              | inr has ↦ Contains-append_right (first ∷ []) later last has
            ]);
            begins = omega (arith, begins, is.begins);
            past = is.past;
            greatest = λ other has up_to.
                elim (Contains-cons_cases first later other has) [
                  | inl same ↦ omega (arith, same, is.begins)
                  | inr behind ↦ is.greatest other behind up_to
                ];
          },
        )

    by_place : (day < first) ⊎ (first ≤ day) → (one < first) ⊎ (first ≤ one)
        → ((last : ℕ) × IsLast later one day last)
        → (first ≤ day → (last : ℕ) × IsLast later first day last)
        → (last : ℕ) × IsLast (first ∷ later) one day last
    by_place (inl behind) other from_one from_first =
        skipped from_one (λ other same up_to. absurd (omega (arith, same, up_to, behind)))
    by_place (inr up_to_day) (inl after) from_one from_first =
        taken (from_first up_to_day) (omega (arith, after))
    by_place (inr up_to_day) (inr before) from_one from_first =
        skipped from_one (λ other same up_to. omega (arith, same, before))

-- from a cut up to a day there is a last one
pub last_cut : (cuts : List ℕ) (start day : ℕ) → Contains cuts start → start ≤ day
    → (last : ℕ) × Contains cuts last × (start ≤ last) × (last ≤ day) × IsGap cuts last (day + 1)
last_cut cuts start day has past =
    let found = last_of cuts start day past in
    let last = found.0 in
    let is = found.1 in (
      last,
      elim is.among [ inl same ↦ subst (Contains cuts) (sym same) has | inr among ↦ among ],
      is.begins,
      is.past,
      (λ other among after before. let low = is.greatest other among (omega (arith, before)) in absurd
          (omega (arith, low, after))),
    )
