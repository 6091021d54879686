-- A vault in memory.
use Rattle.std.specs.Prelude.{ℕ, ◌==◌, Bool, true, if◌then◌else◌, List, [], ◌∷◌, ◌++◌, codes, bytes_eq}
use Rattle.std.specs.Prelude.{Option, None, Some, Result, Ok, Err, ◌≡◌, refl}
use Rattle.std.specs.Option.{is_none, unwrap_or, option_map_or}
use Rattle.std.specs.List.{find}
use Rattle.kb_base.specs.Faults.{next_count}
use Rattle.kb_disk.specs.Memory.{DiskValue, fresh, seen}
use Rattle.kb_disk.specs.declared.fault.FileFault.{FileFault}
use Rattle.kb_disk.specs.declared.fault.FileFault.TheVariants.{Failed, NoMemory}
use Rattle.kb_disk.specs.Places.{is_place}
use Rattle.kb_disk.specs.Told.{VaultTold}

-- The file of a lane of a folder: its bytes, and none while it is out; the numbers of the calls of its disk
-- that are to fail; and its disks that came back, each as it was then.
pub record LaneValue : Type 0 where
  pub folder : List ℕ
  pub lane : ℕ
  pub bytes : Option (List ℕ)
  pub failing : List ℕ
  pub came_back : List DiskValue

-- the file of a lane in which there was nothing
abbrev pub empty_file : List ℕ → ℕ → LaneValue
empty_file folder lane =
    record { folder = folder; lane = lane; bytes = Some []; failing = []; came_back = [] }

-- A text, by its name.
pub record TextValue : Type 0 where
  pub name : List ℕ
  pub bytes : List ℕ

-- The files of lanes and the texts, of which the first counts where two have one place or name; the numbers
-- of the calls that are to fail, the calls so far, and how many faults were counted.
pub record VaultValue : Type 0 where
  pub lanes : List LaneValue
  pub texts : List TextValue
  pub failing : List ℕ
  pub calls : ℕ
  pub faults : ℕ

-- these files, before any call
abbrev pub new_vault : List LaneValue → List TextValue → List ℕ → VaultValue
new_vault lanes texts failing =
    record { lanes = lanes; texts = texts; failing = failing; calls = 0; faults = 0 }

-- the file of a lane, which is empty where it isn't among these
abbrev pub file_of : List LaneValue → List ℕ → ℕ → LaneValue
file_of lanes folder lane =
    unwrap_or (find (λ file. is_place file.folder file.lane folder lane) lanes) (empty_file folder lane)

-- the bytes of a lane, and none while it is out
abbrev pub bytes_of : List LaneValue → List ℕ → ℕ → Option (List ℕ)
bytes_of lanes folder lane = (file_of lanes folder lane).bytes

-- whether a lane is out
abbrev pub is_out : List LaneValue → List ℕ → ℕ → Bool
is_out lanes folder lane = is_none (bytes_of lanes folder lane)

-- the disks of a lane that came back
abbrev pub came_of : List LaneValue → List ℕ → ℕ → List DiskValue
came_of lanes folder lane = (file_of lanes folder lane).came_back

-- the files, with that of a lane changed
abbrev pub with_file : List LaneValue → List ℕ → ℕ → (LaneValue → LaneValue) → List LaneValue
with_file [] folder lane change = change (empty_file folder lane) ∷ []
with_file (file ∷ files) folder lane change =
    if is_place file.folder file.lane folder lane then change file ∷ files
    else file ∷ with_file files folder lane change

-- with these bytes of it
abbrev pub with_bytes : List LaneValue → List ℕ → ℕ → Option (List ℕ) → List LaneValue
with_bytes lanes folder lane bytes = with_file lanes folder lane (λ file. record file { bytes = bytes })

-- with the bytes of a disk that came back as that of the lane
abbrev pub with_disk : List LaneValue → List ℕ → ℕ → DiskValue → List LaneValue
with_disk lanes folder lane disk = with_file lanes folder lane
    (λ file. record file { bytes = Some (seen disk); came_back = file.came_back ++ disk ∷ [] })

taken_out : is_out (with_bytes [] (codes "shop") 3 None) (codes "shop") 3 ≡ true
taken_out = refl

given_back : bytes_of (with_disk (with_bytes [] (codes "shop") 3 None) (codes "shop") 3 (fresh (7 ∷ []) []))
    (codes "shop") 3 ≡ Some (7 ∷ [])
given_back = refl

came_once : came_of (with_disk [] (codes "shop") 3 (fresh (7 ∷ []) [])) (codes "shop") 3
    ≡ fresh (7 ∷ []) [] ∷ []
came_once = refl

-- the disk that is made of a lane's file
abbrev pub disk_of : LaneValue → DiskValue
disk_of file = fresh (unwrap_or file.bytes []) file.failing

-- the bytes of a text, and none where it isn't among these
abbrev pub text_of : List TextValue → List ℕ → List ℕ
text_of texts name = option_map_or (λ text. text.bytes) (find (λ text. bytes_eq text.name name) texts) []

the_first_counts : text_of (record { name = codes "a"; bytes = 1 ∷ [] }
    ∷ record { name = codes "a"; bytes = 2 ∷ [] } ∷ []) (codes "a") ≡ 1 ∷ []
the_first_counts = refl

-- the count of faults after a call
abbrev pub count_after : {A : Type 0} → ℕ → Result A FileFault → ℕ
count_after count (Ok value) = count
count_after count (Err NoMemory) = count
count_after count (Err Failed) = next_count count

-- the count of faults after a disk with so many failed calls came back
abbrev pub count_back : ℕ → ℕ → ℕ
count_back count failed = if failed == 0 then count else next_count count

-- what a vault in memory tells: all
abbrev pub vault_told : VaultValue → VaultTold DiskValue
vault_told vault = record {
  is_out = is_out vault.lanes;
  lane_bytes = bytes_of vault.lanes;
  came_back = λ folder lane. Some (came_of vault.lanes folder lane);
  file_bytes = λ name. Some (text_of vault.texts name);
  faults = vault.faults;
}
