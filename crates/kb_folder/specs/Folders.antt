-- What is told of the lanes of a folder.
use Rattle.std.specs.Prelude.{ℕ, ◌≡◌, true, false, if◌then◌else◌, List, codes, refl}
use Rattle.kb_disk.specs.Places.{is_among}

-- what is told of each lane, but for the first of this folder, of each of which this is told
abbrev pub with_lanes : {A : Type 0} → (List ℕ → ℕ → A) → List ℕ → ℕ → A → List ℕ → ℕ → A
with_lanes told this_folder count now folder lane = if is_among this_folder count folder lane then now else
    told folder lane

two_are_out : with_lanes (λ folder lane. false) (codes "shop") 2 true (codes "shop") 1 ≡ true
two_are_out = refl

a_third_is_not : with_lanes (λ folder lane. false) (codes "shop") 2 true (codes "shop") 2 ≡ false
a_third_is_not = refl
