-- How the lanes of a folder are made, each with the same two texts.
use Rattle.std.specs.Prelude.{ℕ, ◌≡◌, ◌<◌, ◌+◌, ◌⊎◌, false, List, [], ◌∷◌, length, take, codes}
use Rattle.std.specs.Prelude.{Option, Some, None, IfSome, Result, Ok, Err, ⊤, refl}
use Rattle.std.specs.Str.{is_utf8, chars}
use Rattle.std.proofs.Common.{inl, inr, lit≤}
use Rattle.toml.proofs.OnLiterals.{toml_on_literals}
use Rattle.kb_base.specs.Faults.{Rose}
use Rattle.kb_book.specs.Worlds.{WorldValue}
use Rattle.kb_catalog_text.specs.declared.fault.TextFault.{TextFault}
use Rattle.kb_catalog_text.specs.declared.fault.TextFault.TheVariants as texts
use Rattle.kb_catalog_text.specs.Texts.{CatalogText, OverdueText, catalog_read, overdue_read}
use Rattle.kb_catalog_text.specs.Texts.{text_read, document_of}
use Rattle.kb_codec.specs.declared.command.Command.{Command}
use Rattle.kb_codec.specs.declared.command.Command.TheVariants as kinds
use Rattle.kb_codec.specs.Commands.{IsCatalogText, IsOverdueText}
use Rattle.kb_journal.specs.Beginnings.{HasOrBegins}
use Rattle.kb_journal.specs.Format.{StandsFor}
use Rattle.kb_codec.specs.Entries.{History, payloads}
use Rattle.kb_disk.specs.Places.{is_among, SameLanes}
use Rattle.kb_disk.specs.declared.fault.FileFault.{FileFault}
use Rattle.kb_disk.specs.declared.fault.FileFault.TheVariants as files
use Rattle.kb_disk.specs.declared.vault.TheConstants.{MAX_FILE}
use Rattle.kb_folder.specs.declared.unfounded.Unfounded.{Unfounded}
use Rattle.kb_folder.specs.declared.unfounded.Unfounded.TheVariants as faults

-- the key of the first two commands of a lane
abbrev pub first_key : List ℕ
first_key = codes "init"

-- the first command, which hands the catalog text in
abbrev pub catalog_command : CatalogText → Command
catalog_command text = kinds.Catalog (record { key = first_key; text = text })

-- the second one, which hands the overdue text in
abbrev pub overdue_command : OverdueText → Command
overdue_command text = kinds.OverdueRules (record { key = first_key; text = text })

-- both, as they came on a day
abbrev pub first_commands : ℕ → CatalogText → OverdueText → History
first_commands today catalog overdue = (today, catalog_command catalog)
    ∷ (today, overdue_command overdue) ∷ []

-- what a lane's texts say after both: one version of the catalog, and the overdue states
abbrev pub first_world : CatalogText → OverdueText → WorldValue
first_world catalog overdue = record { versions = catalog.version ∷ []; states = overdue.states }

-- what is read of a file: all of it, or one byte more than a text may have
abbrev pub read_part : List ℕ → List ℕ
read_part whole = take MAX_FILE whole

-- what the first of two texts that is refused is refused for
abbrev pub first_fault : {A B : Type 0} → Result A TextFault → Result B TextFault → Option TextFault
first_fault (Err fault) other = Some fault
first_fault (Ok value) (Err fault) = Some fault
first_fault (Ok value) (Ok other) = None

the_second_is_refused : first_fault {A = ℕ} {B = ℕ} (Ok 1) (Err texts.NotToml) ≡ Some texts.NotToml
the_second_is_refused = refl

-- what the texts of two files are refused for: the catalog text, and then the overdue text
abbrev pub text_fault : List ℕ → List ℕ → Option TextFault
text_fault catalog overdue = first_fault (catalog_read (read_part catalog)) (overdue_read (read_part overdue))

no_catalog : text_fault (codes "format = ") (codes "state = ") ≡ Some texts.NotToml
unfolding toml_on_literals is_utf8 chars text_read document_of
no_catalog = refl

-- A text that is refused is told, unless a call failed or memory ran out before; and no other one is.
abbrev pub TellsFault : {A : Type 0} → Option TextFault → Result A Unfounded → Type 0
TellsFault fault (Ok value) = fault ≡ None
TellsFault fault (Err (faults.Text told)) = fault ≡ Some told
TellsFault fault (Err (faults.NotEmpty lane)) = fault ≡ None
TellsFault fault (Err faults.Disk) = ⊤
TellsFault fault (Err faults.NoMemory) = ⊤

-- a text is all that a file has, where that is told
abbrev pub IsTextOf : Option (List ℕ) → List ℕ → Type 0
IsTextOf file text = IfSome file (λ whole. text ≡ whole)

-- Two texts are those of two files, and say what is told of them.
pub record AreTextsOf (catalog_file overdue_file : Option (List ℕ)) (catalog : CatalogText)
    (overdue : OverdueText)
    : Type 0 where
  pub catalog_kept : IsTextOf catalog_file catalog.text
  pub catalog_said : IsCatalogText catalog
  pub overdue_kept : IsTextOf overdue_file overdue.text
  pub overdue_said : IsOverdueText overdue

-- what is told of the bytes of lanes
abbrev pub Bytes : Type 0
Bytes = List ℕ → ℕ → Option (List ℕ)

-- this holds of the bytes of a lane before and after, if both are told
abbrev pub WhereTold : Option (List ℕ) → Option (List ℕ) → (List ℕ → List ℕ → Type 0) → Type 0
WhereTold old new P = IfSome old (λ before. IfSome new (P before))

-- A lane is made: it was empty, and stands for these records.
pub record IsFounded (lanes lane : ℕ) (records : List (List ℕ)) (old new : Option (List ℕ)) : Type 0 where
  pub empty : IfSome old (λ before. before ≡ [])
  pub stands : WhereTold old new (λ before after. StandsFor lanes lane records after)

-- A lane that isn't empty stays as it was.
pub record IsLeft (old new : Option (List ℕ)) : Type 0 where
  pub some : IfSome old (λ before. 0 < length before)
  pub same : WhereTold old new (λ before after. after ≡ before)

-- of all lanes but the first so many of a folder the same is told
abbrev pub SameFrom : {A : Type 0} → List ℕ → ℕ → (List ℕ → ℕ → A) → (List ℕ → ℕ → A) → Type 0
SameFrom folder count old new = (this_folder : List ℕ) (this : ℕ)
    → is_among folder count this_folder this ≡ false
    → new this_folder this ≡ old this_folder this

-- The first lanes of a folder are made, so many of all, each with these records; and no lane was touched
-- but the first so many.
pub record FoundsFirst (folder : List ℕ) (lanes count touched : ℕ) (records : List (List ℕ)) (old new : Bytes)
    : Type 0 where
  pub founded : (lane : ℕ) → lane < count → IsFounded lanes lane records (old folder lane) (new folder lane)
  pub others : SameFrom folder touched old new

-- They are made with the texts of two files, handed in on a day.
abbrev pub FoundsWith : ℕ → List ℕ → ℕ → ℕ → ℕ → Option (List ℕ) → Option (List ℕ) → Bytes → Bytes → Type 0
FoundsWith today folder lanes count touched catalog_file overdue_file old new =
    (catalog : CatalogText) × (overdue : OverdueText) × AreTextsOf catalog_file overdue_file catalog overdue
    × FoundsFirst folder lanes count touched (payloads (first_commands today catalog overdue)) old new

-- A lane is unharmed: where its bytes are told before and after, they are those that it had, or, if it had
-- none, they begin its journal of these records.
abbrev pub IsUnharmed : ℕ → ℕ → List (List ℕ) → Option (List ℕ) → Option (List ℕ) → Type 0
IsUnharmed lanes lane records old new = WhereTold old new (HasOrBegins lanes lane records)

two_letters_where_none_were : IsUnharmed 3 1 [] (Some []) (Some (75 ∷ 66 ∷ []))
two_letters_where_none_were = inr (refl, inl (lit≤ tt))

-- no lane of a folder is harmed, of so many that were to be made with these records
abbrev pub HarmsNone : List ℕ → ℕ → List (List ℕ) → Bytes → Bytes → Type 0
HarmsNone folder lanes records old new = (lane : ℕ) → lane < lanes
    → IsUnharmed lanes lane records (old folder lane) (new folder lane)

all_as_before : HarmsNone (codes "shop") 2 [] (λ folder lane. Some (7 ∷ [])) (λ folder lane. Some (7 ∷ []))
all_as_before = λ lane less. inl refl

-- The lanes before one are made; that one isn't harmed, and none behind it is touched.
abbrev pub FailsAtOne : List ℕ → ℕ → List (List ℕ) → Bytes → Bytes → Type 0
FailsAtOne folder lanes records old new = (lane : ℕ) × (lane < lanes)
    × FoundsFirst folder lanes lane (lane + 1) records old new
    × IsUnharmed lanes lane records (old folder lane) (new folder lane)

-- The lanes before one are made, and none from it on is touched.
abbrev pub StopsBeforeOne : List ℕ → ℕ → List (List ℕ) → Bytes → Bytes → Type 0
StopsBeforeOne folder lanes records old new = (lane : ℕ) × (lane < lanes)
    × FoundsFirst folder lanes lane lane records old new

-- Of all lanes the same is told; or this holds of them, with the texts of two files, handed in on a day, as
-- records.
abbrev pub SameOrWith : ℕ → Option (List ℕ) → Option (List ℕ) → (List (List ℕ) → Bytes → Bytes → Type 0)
    → Bytes → Bytes → Type 0
SameOrWith today catalog_file overdue_file P old new = SameLanes new old
    ⊎ ((catalog : CatalogText) × (overdue : OverdueText)
    × AreTextsOf catalog_file overdue_file catalog overdue
    × P (payloads (first_commands today catalog overdue)) old new)

-- a fault of a disk is counted, and nothing else is
abbrev pub CountsFaults : {A : Type 0} → ℕ → ℕ → Result A Unfounded → Type 0
CountsFaults old new (Ok value) = new ≡ old
CountsFaults old new (Err faults.Disk) = Rose old new
CountsFaults old new (Err faults.NoMemory) = new ≡ old
CountsFaults old new (Err (faults.Text fault)) = new ≡ old
CountsFaults old new (Err (faults.NotEmpty lane)) = new ≡ old

-- why no lane is made where a file can't be had
abbrev pub of_file : FileFault → Unfounded
of_file files.Failed = faults.Disk
of_file files.NoMemory = faults.NoMemory

-- why none is made where a text isn't read
abbrev pub of_text : TextFault → Unfounded
of_text texts.NotToml = faults.Text texts.NotToml
of_text (texts.Missing key) = faults.Text (texts.Missing key)
of_text (texts.WrongKind key) = faults.Text (texts.WrongKind key)
of_text (texts.Unknown key) = faults.Text (texts.Unknown key)
of_text (texts.Rule rule index) = faults.Text (texts.Rule rule index)
of_text texts.Memory = faults.NoMemory
of_text (texts.TooLong count) = faults.Text (texts.TooLong count)
