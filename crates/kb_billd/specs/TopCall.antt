-- What the program does by its words.
use Rattle.std.specs.Prelude.{ℕ, ◌≡◌, ◌≤◌, ◌⊎◌, ⊤, List, codes, bytes_eq, if◌then◌else◌, Option, Some}
use Rattle.std.specs.Prelude.{None, IfSome, refl, Result, Err}
use Rattle.std.specs.Io.KnownBytes.{Keeps}
use Rattle.kb_days.specs.Calendar.{first_day, last_day}
use Rattle.kb_runs.specs.Reading.{Known}
use Rattle.kb_runs.specs.declared.run_stop.RunStop.TheVariants as runs
use Rattle.kb_words.specs.declared.words.Init.{Init}
use Rattle.kb_words.specs.declared.words.Make.{Make}
use Rattle.kb_words.specs.declared.words.Report.{Report}
use Rattle.kb_words.specs.declared.words.Words.{Words}
use Rattle.kb_words.specs.declared.words.Words.TheVariants as words
use Rattle.kb_disk.specs.Places.{SameLanes, SameFiles}
use Rattle.kb_disk.specs.Told.{DiskTold, VaultTold}
use Rattle.kb_apply.specs.LaneRuns.{Outside, outside_of}
use Rattle.kb_gateway.specs.declared.no_market.NoGateway.{NoGateway}
use Rattle.kb_gateway.specs.Told.{MarketTold, canceling, no_market_told}
use Rattle.kb_runs.specs.Endings.{Closes}
use Rattle.kb_runs.specs.declared.stop.Stop.{Stop}
use Rattle.kb_runs.specs.declared.stop.Stop.TheVariants as stops
use Rattle.kb_billd.specs.Foundings.{FoundsFolder}
use Rattle.kb_billd.specs.Reports.{ReportsFolder, said_by}
use Rattle.kb_billd.specs.Runs.{AppliesFolder}
use Rattle.kb_billd.specs.Summaries.{MakesBy}

-- what is told of lanes without a gateway: each order is canceled, and none was seen
abbrev pub alone : {D G C : Type 0} → Outside D G C → Outside D NoGateway C
alone outside = outside_of outside.disks canceling outside.day

-- What is told around the program: what is left of its input, what is written of its output, its vault, and
-- its market.
pub record Around (D G : Type 0) : Type 0 where
  pub left : Known
  pub written : Known
  pub vault : VaultTold D
  pub market : MarketTold G

abbrev pub around_of : {D G : Type 0} → Known → Known → VaultTold D → MarketTold G → Around D G
around_of left written vault market =
    record { left = left; written = written; vault = vault; market = market }

-- Nothing is read, written or changed.
pub record IsUntouched {D G : Type 0} (old new : Around D G) : Type 0 where
  pub unread : Keeps old.left new.left
  pub unwritten : Keeps old.written new.written
  pub inside : SameLanes new.vault.is_out old.vault.is_out
  pub lanes : SameLanes new.vault.lane_bytes old.vault.lane_bytes
  pub back : SameLanes new.vault.came_back old.vault.came_back
  pub files : SameFiles new.vault.file_bytes old.vault.file_bytes
  pub faults : new.vault.faults ≡ old.vault.faults
  pub market : new.market ≡ old.market

-- the gateway that a market is asked for; for `none`, and where none is named, no market is asked
abbrev pub gateway_of : Option (List ℕ) → Option (List ℕ)
gateway_of None = None
gateway_of (Some name) = if bytes_eq name (codes "none") then None else Some name

no_market : gateway_of (Some (codes "none")) ≡ None
no_market = refl

a_market : gateway_of (Some (codes "localhost:9000")) ≡ Some (codes "localhost:9000")
a_market = refl

-- `apply`, by the gateway: with those of a market, each of which serves its lane under the name; or with
-- none, when each order is canceled.
abbrev pub AppliesBy : {D G C : Type 0} → Outside D G C → (G → List ℕ → ℕ → Type 0) → List ℕ → C
    → Around D G → Around D G → Result (Unit {0}) Stop → Option (List ℕ) → Type 0
AppliesBy outside serves folder clock old new outcome (Some name) =
    AppliesFolder outside (λ gateway place. serves gateway name place) folder clock old.vault new.vault
    old.market new.market old.left new.left old.written new.written outcome
AppliesBy outside serves folder clock old new outcome None = (new.market ≡ old.market)
    × AppliesFolder (alone outside) (λ gateway place. ⊤) folder clock old.vault new.vault no_market_told
    no_market_told old.left new.left old.written new.written outcome

-- a day that a clock gave, by the day that it tells to give
abbrev pub IsToday : Option ℕ → ℕ → Type 0
IsToday told today = (first_day ≤ today) × (today ≤ last_day) × IfSome told (λ day. today ≡ day)

-- `init`, on a day of the clock. It reads no input and writes no answers.
pub record Founds {D G : Type 0} (disks : DiskTold D) (told : Option ℕ) (init : Init) (old new : Around D G)
    (outcome : Result (Unit {0}) Stop) : Type 0 where
  pub today : ℕ
  pub day : IsToday told today
  pub founded : FoundsFolder disks today init old.vault new.vault outcome
  pub unread : Keeps old.left new.left
  pub unwritten : Keeps old.written new.written
  pub market : new.market ≡ old.market

-- `report`, which reads no input.
pub record Reports {D G : Type 0} (disks : DiskTold D) (report : Report) (old new : Around D G)
    (outcome : Result (Unit {0}) Stop) : Type 0 where
  pub reported : ReportsFolder disks report.dir (said_by report.kind report.day) old.vault
      new.vault old.written
      new.written outcome
  pub unread : Keeps old.left new.left
  pub market : new.market ≡ old.market

-- `make`, which touches nothing but the output.
pub record Makes {D G : Type 0} (make : Make) (old new : Around D G) (outcome : Result (Unit {0}) Stop) :
    Type 0 where
  pub made : MakesBy make old.written new.written outcome
  pub untouched : IsUntouched old (record new { written = old.written })

-- What the words ask for is done, up to the last output line. Words that aren't in the grammar, or whose
-- command isn't built yet, do nothing.
abbrev pub Does : {D G C : Type 0} → Outside D G C → (G → List ℕ → ℕ → Type 0) → C → Around D G → Around D G
    → Result (Unit {0}) Stop → Option Words → Type 0
Does outside serves clock old new outcome (Some (words.Init init)) =
    Founds outside.disks (outside.day clock) init old new outcome
Does outside serves clock old new outcome (Some (words.Apply apply)) =
    AppliesBy outside serves apply.dir clock old new outcome (gateway_of apply.gateway)
Does outside serves clock old new outcome (Some (words.Report report)) =
    Reports outside.disks report old new outcome
Does outside serves clock old new outcome (Some (words.Make make)) = Makes make old new outcome
Does outside serves clock old new outcome other = (outcome ≡ Err stops.Words) × IsUntouched old new

-- It is done, unless memory runs out before anything is.
abbrev pub Begins : {D G C : Type 0} → Outside D G C → (G → List ℕ → ℕ → Type 0) → C → Around D G → Around D G
    → Result (Unit {0}) Stop → Option Words → Type 0
Begins outside serves clock old new outcome words = Does outside serves clock old new outcome words
    ⊎ ((outcome ≡ Err (stops.Run runs.Memory)) × IsUntouched old new)

-- And then the last output line is written, and the status is that of how it ended.
pub record Ends {D G C : Type 0} (outside : Outside D G C) (serves : G → List ℕ → ℕ → Type 0) (clock : C)
    (words : Option Words) (old new : Around D G) (status : ℕ) : Type 0 where
  pub outcome : Result (Unit {0}) Stop
  pub written : Known
  pub done : Begins outside serves clock old (record new { written = written }) outcome words
  pub closed : Closes outcome status written new.written
