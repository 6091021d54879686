-- Places of lanes, and lanes that are among the first of a folder.
use Rattle.std.proofs.Common.{◌≡◌, ◌<◌, ◌≤◌, ◌+◌, ℕ, Bool, true, false, cond, List, arith, refl, ap, sym}
use Rattle.std.proofs.Common.{subst, ◌∙◌}
use Rattle.std.specs.Prelude.{bytes_eq, ◌&&◌, ◌||◌, nat_lt, ◌==◌}
use Rattle.std.proofs.lemmas.Bool.{and_from, and_right, and_parts, lt-ltb, le-ltb, ne_eqb, ltb-true, eqb-true}
use Rattle.std.proofs.lemmas.Bool.{false≢true}
use Rattle.std.proofs.lemmas.Bool.Decides.{nat_tests}
use Rattle.std.proofs.lemmas.Slice.Eq.{bytes_eq-Decides}
use Rattle.kb_disk.specs.Places.{is_among, is_place, with_lane, SameLanes}
use Rattle.kb_folder.specs.Folders.{with_lanes}

same_folder : (folder : List ℕ) → bytes_eq folder folder ≡ true
same_folder folder = (bytes_eq-Decides folder folder).1 refl

-- each lane with a smaller number is among them
pub among : (folder : List ℕ) (count lane : ℕ) → lane < count → is_among folder count folder lane ≡ true
among folder count lane less =
    and_from (bytes_eq folder folder) (nat_lt lane count) (same_folder folder) (lt-ltb lane count less)

-- a lane that is among them is of the folder, and has a smaller number
pub of_folder : (this_folder : List ℕ) (count : ℕ) (folder : List ℕ) (lane : ℕ)
    → is_among this_folder count folder lane ≡ true → (this_folder ≡ folder) × (lane < count)
of_folder this_folder count folder lane is =
    let parts = and_parts _ _ is in (
      (bytes_eq-Decides this_folder folder).0 parts.0,
      ltb-true lane
          count parts.1,
    )

-- no lane with another number is among them
pub not_among : (this_folder : List ℕ) (count : ℕ) (folder : List ℕ) (lane : ℕ) → count ≤ lane
    → is_among this_folder count folder lane ≡ false
not_among this_folder count folder lane more =
    and_right (bytes_eq this_folder folder) (nat_lt lane count) (le-ltb lane count more)

is_false : (test : Bool) → (test ≡ true → ⊥) → test ≡ false
is_false true never = absurd (never refl)
is_false false never = refl

never_both : (test : Bool) → test ≡ false → test ≡ true → ⊥
never_both test not_so so = false≢true (sym not_so ∙ so)

-- a lane that isn't among more is not among fewer
pub not_among_fewer : (this_folder : List ℕ) (fewer more : ℕ) (folder : List ℕ) (lane : ℕ) → fewer ≤ more
    → is_among this_folder more folder lane ≡ false → is_among this_folder fewer folder lane ≡ false
not_among_fewer this_folder fewer more folder lane few not_there =
    is_false (is_among this_folder fewer folder lane) (λ there.
    let is = of_folder this_folder fewer folder lane there in
    let less = is.1 in
    never_both _ not_there (subst (λ (f : List ℕ). is_among this_folder more f lane ≡ true) is.0
    (among this_folder more lane (omega (arith, few, less)))))

-- a place is one folder and one lane
pub one_place : (this_folder : List ℕ) (this : ℕ) (folder : List ℕ) (lane : ℕ)
    → is_place this_folder this folder lane ≡ true → (this_folder ≡ folder) × (this ≡ lane)
one_place this_folder this folder lane is =
    let parts = and_parts _ _ is in (
      (bytes_eq-Decides this_folder folder).0 parts.0,
      eqb-true
          this lane parts.1,
    )

-- a lane that isn't among some isn't at the place of one of them
pub not_place : (this_folder : List ℕ) (this count : ℕ) (folder : List ℕ) (lane : ℕ) → this < count
    → is_among this_folder count folder lane ≡ false → is_place this_folder this folder lane ≡ false
not_place this_folder this count folder lane less not_there =
    is_false (is_place this_folder this folder lane) (λ there.
    let is = one_place this_folder this folder lane there in
    never_both _ not_there (subst (λ (f : List ℕ). is_among this_folder count f lane ≡ true) is.0
    (among this_folder count lane (subst (λ (l : ℕ). l < count) is.1 less))))

-- a lane with a smaller number isn't at the place
pub apart : (this_folder : List ℕ) (this : ℕ) (folder : List ℕ) (lane : ℕ) → lane < this
    → is_place this_folder this folder lane ≡ false
apart this_folder this folder lane less =
    and_right (bytes_eq this_folder folder) (this == lane)
    (ne_eqb this lane (λ same. omega (arith, less, same)))

-- what is told of a place is told of it by whatever name
pub told_at : {A : Type 0} (told : List ℕ → ℕ → A) (this_folder : List ℕ) (this : ℕ)
    (folder : List ℕ) (lane : ℕ)
    → is_place this_folder this folder lane ≡ true → told this_folder this ≡ told folder lane
told_at told this_folder this folder lane is =
    let at = one_place this_folder this folder lane is in
    ap (λ (f : List ℕ). told f this) at.0 ∙ ap (λ (l : ℕ). told folder l) at.1

less_one_more : (lane count : ℕ) → nat_lt lane (count + 1) ≡ ((count == lane) || nat_lt lane count)
less_one_more lane count = grind (arith, nat_tests)

one_more_now : {A : Type 0} (here same less more : Bool) (now before : A) → more ≡ (same || less)
    → cond (here && same) now (cond (here && less) now before) ≡ cond (here && more) now before
one_more_now false same less more now before is = refl
one_more_now true true less more now before is = rw is refl
one_more_now true false less more now before is = rw is refl

-- one lane more
pub with_one_more : {A : Type 0} (told : List ℕ → ℕ → A) (this_folder : List ℕ) (count : ℕ) (now : A)
    (folder : List ℕ)
    (lane : ℕ) → with_lane (with_lanes told this_folder count now) this_folder count now folder lane
    ≡ with_lanes told this_folder (count + 1) now folder lane
with_one_more told this_folder count now folder lane =
    one_more_now (bytes_eq this_folder folder) (count == lane) (nat_lt lane count)
    (nat_lt lane (count + 1)) now
    (told folder lane) (less_one_more lane count)

-- where nothing was told anew, there is what was told before
pub told_before : {A : Type 0} (told : List ℕ → ℕ → A) (this_folder : List ℕ) (count : ℕ) (now : A)
    (folder : List ℕ)
    (lane : ℕ) → is_among this_folder count folder lane ≡ false
    → with_lanes told this_folder count now folder lane ≡ told folder lane
told_before told this_folder count now folder lane is = ap (λ (b : Bool). cond b now (told folder lane)) is

pub told_now : {A : Type 0} (told : List ℕ → ℕ → A) (this_folder : List ℕ) (count : ℕ) (now : A)
    (folder : List ℕ)
    (lane : ℕ) → is_among this_folder count folder lane ≡ true
    → with_lanes told this_folder count now folder lane ≡ now
told_now told this_folder count now folder lane is = ap (λ (b : Bool). cond b now (told folder lane)) is

-- so for one lane
pub told_elsewhere : {A : Type 0} (told : List ℕ → ℕ → A) (this_folder : List ℕ) (this : ℕ) (now : A)
    (folder : List ℕ)
    (lane : ℕ) → is_place this_folder this folder lane ≡ false
    → with_lane told this_folder this now folder lane ≡ told folder lane
told_elsewhere told this_folder this now folder lane is = ap (λ (b : Bool). cond b now (told folder lane)) is

-- lanes and one more
pub told_more : {A : Type 0} (old mid new : List ℕ → ℕ → A) (this_folder : List ℕ) (count : ℕ) (now : A)
    → SameLanes mid (with_lanes old this_folder count now)
    → SameLanes new (with_lane mid this_folder count now)
    → SameLanes new (with_lanes old this_folder (count + 1) now)
told_more old mid new this_folder count now first last folder lane =
    last folder lane
    ∙ ap (λ before. cond (is_place this_folder count folder lane) now before) (first folder lane)
    ∙ with_one_more old this_folder count now folder lane

again_now : {A : Type 0} (here : Bool) (now gone before : A)
    → cond here now (cond here gone before) ≡ cond here now before
again_now true now gone before = refl
again_now false now gone before = refl

-- one lane, twice
pub told_again : {A : Type 0} (old mid new : List ℕ → ℕ → A) (this_folder : List ℕ) (this : ℕ) (gone now : A)
    → SameLanes mid (with_lane old this_folder this gone) → SameLanes new (with_lane mid this_folder this now)
    → SameLanes new (with_lane old this_folder this now)
told_again old mid new this_folder this gone now first last folder lane =
    last folder lane
    ∙ ap (λ before. cond (is_place this_folder this folder lane) now before) (first folder lane)
    ∙ again_now (is_place this_folder this folder lane) now gone (old folder lane)

-- nothing, and then one lane
pub told_over : {A : Type 0} (old mid new : List ℕ → ℕ → A) (this_folder : List ℕ) (this : ℕ) (now : A)
    → SameLanes mid old → SameLanes new (with_lane mid this_folder this now)
    → SameLanes new (with_lane old this_folder this now)
told_over old mid new this_folder this now first last folder lane =
    last folder lane
    ∙ ap (λ before. cond (is_place this_folder this folder lane) now before) (first folder lane)

-- of a lane what was told of it before
pub told_same : {A : Type 0} (old new : List ℕ → ℕ → A) (this_folder : List ℕ) (this : ℕ) (now : A)
    → old this_folder this ≡ now → SameLanes new (with_lane old this_folder this now) → SameLanes new old
told_same old new this_folder this now was is folder lane =
    is folder lane ∙ by_place (is_place this_folder this folder lane) refl
  where
    by_place : (here : Bool) → is_place this_folder this folder lane ≡ here
        → cond here now (old folder lane) ≡ old folder lane
    by_place true there = sym was ∙ told_at old this_folder this folder lane there
    by_place false there = refl
