-- The accounts of all lanes, listed by name, and what a report says of them.
use Rattle.std.specs.Prelude.{ℕ, ◌+◌, ◌≡◌, ◌⊎◌, List, [], ◌∷◌, ◌++◌, map, slice_get, codes, Option, Some}
use Rattle.std.specs.Prelude.{None, refl}
use Rattle.std.specs.declared.cmp.Ordering.{Ordering}
use Rattle.std.specs.declared.cmp.Ordering.TheVariants.{Less}
use Rattle.std.specs.Ordering.{nat_cmp, ordering_then}
use Rattle.std.specs.List.{flat_map}
use Rattle.std.specs.List.Sorted.{IsPermutation, IsSorted}
use Rattle.std.specs.Io.KnownBytes.{Appends, Keeps}
use Rattle.kb_base.specs.Stream.{Writes}
use Rattle.kb_sharing.specs.Keys.{by_words}
use Rattle.kb_book.specs.Worlds.{WorldValue}
use Rattle.kb_book.specs.Books.{BookValue}
use Rattle.kb_machine.specs.Machines.{MachineValue, book_of}
use Rattle.kb_reports.specs.declared.listed.Listed.{Listed}

-- the accounts of the lane of a number
abbrev pub accounts_in : ℕ → MachineValue → List Listed
accounts_in lane machine =
    map (λ (entry : List ℕ × BookValue). record { account = entry.0; lane = lane }) machine.books

-- those of lanes that are numbered from one on
abbrev pub accounts_from : ℕ → List MachineValue → List Listed
accounts_from lane [] = []
accounts_from lane (machine ∷ later) = accounts_in lane machine ++ accounts_from (lane + 1) later

-- how accounts stand to one another: by name, and those of one name by their lanes
abbrev pub by_name : Listed → Listed → Ordering
by_name one other = ordering_then (by_words one.account other.account) (nat_cmp one.lane other.lane)

a10_before_a2 : by_name (record { account = codes "a10"; lane = 1 })
    (record { account = codes "a2"; lane = 0 })
    ≡ Less
a10_before_a2 = refl

-- All accounts of some lanes, in that order.
pub record IsListing (lanes : List MachineValue) (listed : List Listed) : Type 0 where
  pub all : IsPermutation (accounts_from 0 lanes) listed
  pub ordered : IsSorted by_name listed

-- what a report says of an account, by its name, the texts of its lane, and its book
abbrev pub Said : Type 0
Said = List ℕ → WorldValue → BookValue → List ℕ

-- of one that is listed
abbrev pub of_book : Said → List ℕ → WorldValue → Option BookValue → List ℕ
of_book said account world None = []
of_book said account world (Some book) = said account world book

abbrev pub of_lane : Said → List ℕ → Option MachineValue → List ℕ
of_lane said account None = []
of_lane said account (Some machine) = of_book said account machine.texts.world (book_of machine account)

abbrev pub of_listed : Said → List MachineValue → Listed → List ℕ
of_listed said lanes one = of_lane said one.account (slice_get lanes one.lane)

-- and of all that are
abbrev pub report_text : Said → List MachineValue → List Listed → List ℕ
report_text said lanes listed = flat_map (of_listed said lanes) listed

-- A report of all accounts is written.
abbrev pub Prints : Said → List MachineValue → Option (List ℕ) → Option (List ℕ) → Type 0
Prints said lanes written written_after = (listed : List Listed) × IsListing lanes listed
    × Appends written written_after (report_text said lanes listed)

-- A first part of one is, or nothing.
abbrev pub PrintsPart : Said → List MachineValue → Option (List ℕ) → Option (List ℕ) → Type 0
PrintsPart said lanes written written_after = Keeps written written_after
    ⊎ ((listed : List Listed) × IsListing lanes listed
    × Writes written written_after (λ part. (rest : List ℕ) × (part ++ rest ≡ report_text said lanes listed)))
