-- What is done by words, put together.
use Rattle.std.proofs.Common.{◌≤◌, ◌⊎◌, ℕ, List, Option, None, Some, Result, arith, inl, inr, refl}
use Rattle.std.specs.Io.KnownBytes.{Keeps}
use Rattle.kb_base.specs.Faults.{Rose}
use Rattle.kb_disk.specs.Told.{DiskTold, VaultTold}
use Rattle.kb_gateway.specs.Told.{MarketTold}
use Rattle.kb_runs.specs.Reading.{Known}
use Rattle.kb_words.specs.declared.words.Init.{Init}
use Rattle.kb_words.specs.declared.words.Make.{Make}
use Rattle.kb_words.specs.declared.words.Report.{Report}
use Rattle.kb_runs.specs.declared.stop.Stop.{Stop}
use Rattle.kb_billd.specs.Foundings.{FoundsFolder}
use Rattle.kb_billd.specs.Reports.{ReportsFolder, said_by}
use Rattle.kb_billd.specs.Summaries.{MakesBy}
use Rattle.kb_billd.specs.TopCall.{Around, around_of, Founds, IsToday, IsUntouched, Makes, Reports}

-- known bytes that nobody moved are kept
keeps : (known : Option (List ℕ)) → Keeps known known
keeps None = tt
keeps (Some bytes) = refl

-- nothing was done
pub untouched : {D G : Type 0} (around : Around D G) → IsUntouched around around
untouched around = record {
  unread = keeps around.left;
  unwritten = keeps around.written;
  inside = λ folder lane. refl;
  lanes = λ folder lane. refl;
  back = λ folder lane. refl;
  files = λ name. refl;
  faults = refl;
  market = refl;
}

-- lanes are made, and nothing is read or written for that
pub founds : {D G : Type 0} (disks : DiskTold D) (told : Option ℕ) (init : Init) (left written : Known) (old new : VaultTold D)
    (market : MarketTold G)
    (outcome : Result (Unit {0}) Stop) (today : ℕ) → IsToday told today
    → FoundsFolder disks today init old new outcome
    → Founds disks told init (around_of left written old market) (around_of left written new market) outcome
founds disks told init left written old new market outcome today day founded = record {
  today = today;
  day = day;
  founded = founded;
  unread = keeps left;
  unwritten = keeps written;
  market = refl;
}

-- a report is printed, and nothing is read for that
pub reports : {D G : Type 0} (disks : DiskTold D) (report : Report) (left written written_after : Known)
    (old new : VaultTold D) (market : MarketTold G) (outcome : Result (Unit {0}) Stop)
    → ReportsFolder disks report.dir (said_by report.kind report.day) old new written written_after outcome
    → Reports disks report (around_of left written old market)
    (around_of left written_after new market) outcome
reports disks report left written written_after old new market outcome reported = record {
  reported = reported;
  unread = keeps left;
  market = refl;
}

-- accounts are made, and nothing but the output is touched for that
pub makes : {D G : Type 0} (make : Make) (left written written_after : Known) (vault : VaultTold D)
    (market : MarketTold G)
    (outcome : Result (Unit {0}) Stop) → MakesBy make written written_after outcome
    → Makes make (around_of left written vault market) (around_of left written_after vault market) outcome
makes make left written written_after vault market outcome made = record {
  made = made;
  untouched = untouched (around_of left written vault market);
}

-- a count that rose before or after another time has risen over both
pub rose_over : (old mid new : ℕ) (P : Type 0) → old ≤ mid → mid ≤ new → (P → Rose old mid) → P ⊎ Rose mid new
    → Rose old new
rose_over old mid new P first second before (inl is) below =
    let risen = before is (omega (arith, second, below)) in omega (arith, risen, second)
rose_over old mid new P first second before (inr rose) below =
    let risen = rose below in omega (arith, first, risen)
