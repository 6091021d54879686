-- Lanes of folders, each by the name of its folder and its number, and what is told of each.
use Rattle.std.specs.Prelude.{ℕ, ◌==◌, Bool, true, false, ◌&&◌, if◌then◌else◌, List, codes, bytes_eq, nat_lt}
use Rattle.std.specs.Prelude.{◌≡◌, Option, refl}

-- whether a lane of a folder is this one of this folder
abbrev pub is_place : List ℕ → ℕ → List ℕ → ℕ → Bool
is_place folder lane this_folder this = bytes_eq folder this_folder && lane == this

of_another_folder : is_place (codes "shop") 3 (codes "shops") 3 ≡ false
of_another_folder = refl

-- what is told of each lane, but for one, of which this is told
abbrev pub with_lane : {A : Type 0} → (List ℕ → ℕ → A) → List ℕ → ℕ → A → List ℕ → ℕ → A
with_lane told folder lane now this_folder this =
    if is_place folder lane this_folder this then now else told this_folder this

lane_3_is_out : with_lane (λ folder lane. false) (codes "shop") 3 true (codes "shop") 3 ≡ true
lane_3_is_out = refl

lane_4_is_not : with_lane (λ folder lane. false) (codes "shop") 3 true (codes "shop") 4 ≡ false
lane_4_is_not = refl

-- whether a lane of a folder is one of the first of this folder, of which there are so many
abbrev pub is_among : List ℕ → ℕ → List ℕ → ℕ → Bool
is_among this_folder count folder lane = bytes_eq this_folder folder && nat_lt lane count

lane_2_of_three : is_among (codes "shop") 3 (codes "shop") 2 ≡ true
lane_2_of_three = refl

no_lane_3_of_three : is_among (codes "shop") 3 (codes "shop") 3 ≡ false
no_lane_3_of_three = refl

-- the same is told of each lane
abbrev pub SameLanes : {A : Type 0} → (List ℕ → ℕ → A) → (List ℕ → ℕ → A) → Type 0
SameLanes one other = (folder : List ℕ) (lane : ℕ) → one folder lane ≡ other folder lane

-- the same is told of each text
abbrev pub SameFiles : (List ℕ → Option (List ℕ)) → (List ℕ → Option (List ℕ)) → Type 0
SameFiles one other = (name : List ℕ) → one name ≡ other name
