-- Folders of the system: the names of their files, and which lanes are out.
use Rattle.std.specs.Prelude.{ℕ, Bool, true, not, nat_lt, if◌then◌else◌, List, [], ◌∷◌, ◌++◌, codes}
use Rattle.std.specs.Prelude.{◌≡◌, refl}
use Rattle.std.specs.Fmt.{decimal, digits}
use Rattle.std.specs.List.{filter, list_any}
use Rattle.kb_disk.specs.Places.{is_place}

-- what makes two digits of the number of a lane
abbrev pub zero_before : ℕ → List ℕ
zero_before lane = if nat_lt lane 10 then codes "0" else []

-- the path of a lane's file in a folder
abbrev pub lane_path : List ℕ → ℕ → List ℕ
lane_path folder lane = folder ++ codes "/lane-" ++ zero_before lane ++ decimal lane ++ codes ".kbj"

lane_3 : lane_path (codes "shop") 3 ≡ codes "shop/lane-03.kbj"
unfolding digits
lane_3 = refl

lane_63 : lane_path (codes "shop") 63 ≡ codes "shop/lane-63.kbj"
unfolding digits
lane_63 = refl

-- A lane of a folder, by the folder's name and the lane's number.
pub record PlaceValue : Type 0 where
  pub folder : List ℕ
  pub lane : ℕ

-- whether a lane of a folder is among these
abbrev pub is_among : List PlaceValue → List ℕ → ℕ → Bool
is_among places folder lane = list_any (λ place. is_place place.folder place.lane folder lane) places

lane_3_is_out : is_among (record { folder = codes "shop"; lane = 3 } ∷ []) (codes "shop") 3 ≡ true
lane_3_is_out = refl

-- the lanes without this one
abbrev pub without : List PlaceValue → List ℕ → ℕ → List PlaceValue
without places folder lane =
    filter (λ place. not (is_place place.folder place.lane folder lane)) places

lane_3_is_back : without (record { folder = codes "shop"; lane = 3 } ∷ []) (codes "shop") 3 ≡ []
lane_3_is_back = refl

-- The lanes that are out, and how many calls have failed.
pub record FolderValue : Type 0 where
  pub out : List PlaceValue
  pub faults : ℕ
