-- What is told of lanes when one of them is taken out or given back.
use Rattle.std.proofs.Common.{◌≡◌, ℕ, Bool, true, false, cond, List, [], ◌∷◌, ◌++◌, Option, None, Some, refl}
use Rattle.std.proofs.Common.{ap, sym, subst, ◌∙◌}
use Rattle.std.specs.Option.{is_none, unwrap_or}
use Rattle.std.specs.List.{find}
use Rattle.kb_disk.specs.Memory.{DiskValue, seen}
use Rattle.kb_disk.specs.Places.{is_place, with_lane}
use Rattle.kb_disk.specs.VaultMemory.{LaneValue, bytes_of, came_of, empty_file, is_out, with_bytes, with_disk}
use Rattle.kb_disk.specs.VaultMemory.{with_file}
use Rattle.kb_disk.proofs.Places.{one_place, own_place, same_place, apart}

-- What is told of a file, and what becomes of that when the file is changed.
module _ {A : Type 0} (part : LaneValue → A) (change : LaneValue → LaneValue) (after : A → A) (none : A)
    (changes : (file : LaneValue) → part (change file) ≡ after (part file))
    (stays : (file : LaneValue) → ((change file).folder ≡ file.folder) × ((change file).lane ≡ file.lane))
    (empty : (folder : List ℕ) (lane : ℕ) → part (empty_file folder lane) ≡ none)
    (folder : List ℕ) (lane : ℕ) (this_folder : List ℕ) (this : ℕ) where
  abbrev is_this : LaneValue → Bool
  is_this file = is_place file.folder file.lane this_folder this

  -- what is told of the file that is found
  abbrev told : Option LaneValue → A
  told file = part (unwrap_or file (empty_file this_folder this))

  -- a file that is changed stays where it is
  is_there : (file : LaneValue) → is_this (change file) ≡ is_this file
  is_there file = ap (λ (f : List ℕ). is_place f (change file).lane this_folder this) (stays file).0
      ∙ ap (λ (l : ℕ). is_place file.folder l this_folder this) (stays file).1

  -- the file of the lane comes first
  changed : (same : Bool) (file : LaneValue) (rest : Option LaneValue)
      → told (cond same (Some (change file)) rest)
      ≡ cond same (after (told (cond same (Some file) rest))) (told (cond same (Some file) rest))
  changed true file rest = changes file
  changed false file rest = refl

  -- another file comes first
  passed : (here same : Bool) (file : LaneValue) (new old : Option LaneValue)
      → (here ≡ true → same ≡ false) → told new ≡ cond same (after (told old)) (told old)
      → told (cond here (Some file) new)
      ≡ cond same (after (told (cond here (Some file) old))) (told (cond here (Some file) old))
  passed true same file new old other later = rw (other refl) refl
  passed false same file new old other later = later

  alone : (same : Bool) → told (cond same (Some (change (empty_file folder lane))) None)
      ≡ cond same (after (told None)) (told None)
  alone true = changes (empty_file folder lane)
      ∙ ap after (empty folder lane ∙ sym (empty this_folder this))
  alone false = refl

  abbrev Told : List LaneValue → Type 0
  Told files = told (find is_this (with_file files folder lane change))
      ≡ cond (is_place folder lane this_folder this) (after (told (find is_this files)))
      (told (find is_this files))

  step : (here : Bool) (file : LaneValue) (files : List LaneValue)
      → is_place file.folder file.lane folder lane ≡ here → Told files → Told (file ∷ files)
  step true file files is later = rw is
      (ap (λ (same : Bool). told (cond same (Some (change file)) (find is_this files))) (is_there file)
      ∙ subst
      (λ (same : Bool). told (cond same (Some (change file)) (find is_this files))
      ≡ cond (is_place folder lane this_folder this)
      (after (told (cond same (Some file) (find is_this files))))
      (told (cond same (Some file) (find is_this files))))
      (sym (same_place file.folder file.lane folder lane this_folder this is))
      (changed (is_place folder lane this_folder this) file (find is_this files)))
  step false file files is later = rw is
      (passed (is_this file) (is_place folder lane this_folder this) file
      (find is_this (with_file files folder lane change)) (find is_this files)
      (apart file.folder file.lane folder lane this_folder this is) later)

  -- of the lane the changed file is told, and of the others what was told
  told_with : (lanes : List LaneValue) → Told lanes
  told_with [] =
      ap (λ (same : Bool). told (cond same (Some (change (empty_file folder lane))) None))
      (is_there (empty_file folder lane))
      ∙ alone (is_place folder lane this_folder this)
  told_with (file ∷ files) = step (is_place file.folder file.lane folder lane) file files refl
      (told_with files)

module _ (folder : List ℕ) (lane : ℕ) (this_folder : List ℕ) (this : ℕ) where
  -- taken out or given other bytes: the lane has them, and the others have theirs
  pub told_with_bytes : (bytes : Option (List ℕ)) (lanes : List LaneValue)
      → bytes_of (with_bytes lanes folder lane bytes) this_folder this
      ≡ with_lane (bytes_of lanes) folder lane bytes this_folder this
  told_with_bytes bytes lanes =
      told_with (λ file. file.bytes) (λ file. record file { bytes = bytes }) (λ old. bytes) (Some [])
      (λ file. refl) (λ file. (refl, refl)) (λ folder lane. refl) folder lane this_folder this lanes

  pub came_with_bytes : (bytes : Option (List ℕ)) (lanes : List LaneValue)
      → came_of (with_bytes lanes folder lane bytes) this_folder this ≡ came_of lanes this_folder this
  came_with_bytes bytes lanes =
      told_with (λ file. file.came_back) (λ file. record file { bytes = bytes }) (λ old. old) []
      (λ file. refl) (λ file. (refl, refl)) (λ folder lane. refl) folder lane this_folder this lanes
      ∙ both (is_place folder lane this_folder this) (came_of lanes this_folder this)
    where
      both : {A : Type 0} (same : Bool) (value : A) → cond same value value ≡ value
      both true value = refl
      both false value = refl

  -- its disk given back: the lane has its bytes, and the disk is the last that came
  pub told_with_disk : (disk : DiskValue) (lanes : List LaneValue)
      → bytes_of (with_disk lanes folder lane disk) this_folder this
      ≡ with_lane (bytes_of lanes) folder lane (Some (seen disk)) this_folder this
  told_with_disk disk lanes =
      told_with (λ file. file.bytes)
      (λ file. record file { bytes = Some (seen disk); came_back = file.came_back ++ disk ∷ [] })
      (λ old. Some (seen disk)) (Some []) (λ file. refl) (λ file. (refl, refl)) (λ folder lane. refl) folder
      lane this_folder this
      lanes

  pub came_with_disk : (disk : DiskValue) (lanes : List LaneValue)
      → came_of (with_disk lanes folder lane disk) this_folder this
      ≡ cond (is_place folder lane this_folder this) (came_of lanes this_folder this ++ disk ∷ [])
      (came_of lanes this_folder this)
  came_with_disk disk lanes =
      told_with (λ file. file.came_back)
      (λ file. record file { bytes = Some (seen disk); came_back = file.came_back ++ disk ∷ [] })
      (λ old. old ++ disk ∷ []) [] (λ file. refl) (λ file. (refl, refl)) (λ folder lane. refl) folder lane
      this_folder this lanes

  none_of : (same : Bool) (bytes old : Option (List ℕ))
      → is_none (cond same bytes old) ≡ cond same (is_none bytes) (is_none old)
  none_of true bytes old = refl
  none_of false bytes old = refl

  -- the lane is out if it has no bytes, and the others are as before
  pub out_with_bytes : (bytes : Option (List ℕ)) (lanes : List LaneValue)
      → is_out (with_bytes lanes folder lane bytes) this_folder this
      ≡ with_lane (is_out lanes) folder lane (is_none bytes) this_folder this
  out_with_bytes bytes lanes =
      ap (λ (now : Option (List ℕ)). is_none now) (told_with_bytes bytes lanes)
      ∙ none_of (is_place folder lane this_folder this) bytes (bytes_of lanes this_folder this)

  pub out_with_disk : (disk : DiskValue) (lanes : List LaneValue)
      → is_out (with_disk lanes folder lane disk) this_folder this
      ≡ with_lane (is_out lanes) folder lane false this_folder this
  out_with_disk disk lanes =
      ap (λ (now : Option (List ℕ)). is_none now) (told_with_disk disk lanes)
      ∙ none_of (is_place folder lane this_folder this) (Some (seen disk)) (bytes_of lanes this_folder this)

-- the lane itself has the bytes of the disk, which is the last that came; of another none came
module _ (folder : List ℕ) (lane : ℕ) (disk : DiskValue) (lanes : List LaneValue) where
  pub told_own : bytes_of (with_disk lanes folder lane disk) folder lane ≡ Some (seen disk)
  told_own =
      told_with_disk folder lane folder lane disk lanes
      ∙ ap (λ (own : Bool). cond own (Some (seen disk)) (bytes_of lanes folder lane)) (own_place folder lane)

  pub came_own : came_of (with_disk lanes folder lane disk) folder lane
      ≡ came_of lanes folder lane ++ disk ∷ []
  came_own =
      came_with_disk folder lane folder lane disk lanes
      ∙ ap (λ (own : Bool). cond own (came_of lanes folder lane ++ disk ∷ []) (came_of lanes folder lane))
      (own_place folder lane)

  others : (this_folder : List ℕ) (this : ℕ) (same : Bool) → is_place folder lane this_folder this ≡ same
      → came_of (with_disk lanes folder lane disk) this_folder this
      ≡ cond same (came_of (with_disk lanes folder lane disk) folder lane) (came_of lanes this_folder this)
  others this_folder this true is =
      let at = one_place folder lane this_folder this is in
      ap (λ (f : List ℕ). came_of (with_disk lanes folder lane disk) f this) (sym at.0)
      ∙ ap (λ (l : ℕ). came_of (with_disk lanes folder lane disk) folder l) (sym at.1)
  others this_folder this false is = came_with_disk folder lane this_folder this disk lanes ∙ rw is refl

  pub came_others : (this_folder : List ℕ) (this : ℕ)
      → came_of (with_disk lanes folder lane disk) this_folder this
      ≡ with_lane (came_of lanes) folder lane (came_of (with_disk lanes folder lane disk) folder lane)
      this_folder this
  came_others this_folder this = others this_folder this (is_place folder lane this_folder this) refl

  -- as the vault tells it
  some_of : {A : Type 0} (same : Bool) (now old : A) → Some (cond same now old) ≡ cond same (Some now)
      (Some old)
  some_of true now old = refl
  some_of false now old = refl

  pub came_told : (this_folder : List ℕ) (this : ℕ)
      → Some (came_of (with_disk lanes folder lane disk) this_folder this)
      ≡ with_lane (λ folder lane. Some (came_of lanes folder lane)) folder lane
      (Some (came_of (with_disk lanes folder lane disk) folder lane)) this_folder this
  came_told this_folder this =
      ap (λ (came : List DiskValue). Some came) (came_others this_folder this)
      ∙ some_of (is_place folder lane this_folder this)
      (came_of (with_disk lanes folder lane disk) folder lane) (came_of lanes this_folder this)

pub ruleset tellings = (
  told_with_bytes,
  came_with_bytes,
  told_with_disk,
  out_with_bytes,
  out_with_disk,
  told_own,
  came_own,
  came_told,
)
