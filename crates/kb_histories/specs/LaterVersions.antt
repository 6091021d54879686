-- Later versions of a catalog change no charge of what was chosen before.
use Rattle.std.specs.Prelude.{ℕ, ◌≡◌, List, [], ◌∷◌, ◌++◌, Option, Some, refl}
use Rattle.kb_days.specs.Calendar.{month_of, month_after, month_start, month_length}
use Rattle.kb_days.specs.Dates.{march}
use Rattle.kb_catalog.specs.declared.version.Version.{Version}
use Rattle.kb_catalog.specs.SmallVersion.{small}
use Rattle.kb_align.specs.Phases.{phase_on, phase_starts}
use Rattle.kb_align.specs.PeriodDays.{period_on, last_day_on, next_day_after, is_boundary, first_month}
use Rattle.kb_blocking.specs.Blocking.{is_on}
use Rattle.kb_due.specs.Facts.{FactsValue}
use Rattle.kb_due.specs.Cells.{cell_on}
use Rattle.kb_due.specs.DueDays.{due_on, due_at, fee_on, fee_at}
use Rattle.kb_due.specs.SmallFacts.{facts, gold_in_march}
use Rattle.kb_book.specs.Worlds.{WorldValue}
use Rattle.kb_book.specs.Books.{BookValue}
use Rattle.kb_book.specs.Dues.{charged_by}
use Rattle.kb_histories.specs.HeldPlans.{HasPlansOf}

-- what billing looks at, with later versions behind those of the catalog
abbrev pub with_later : FactsValue → List Version → FactsValue
with_later facts later = record facts { catalog = facts.catalog ++ later }

-- where the catalog has the plans of all subscriptions, each day has the due cell that it had
abbrev pub DuesStay : Type 0
DuesStay = (facts : FactsValue) (later : List Version) (sub : ℕ) (billed : Option ℕ) (day : ℕ)
    → HasPlansOf facts.catalog facts.timeline
    → due_at (with_later facts later) sub billed day ≡ due_at facts sub billed day

gold_stays : due_at (with_later facts (small ∷ [])) 0 (Some (march 11)) (march 12) ≡ Some gold_in_march
unfolding due_on cell_on is_on phase_on phase_starts period_on last_day_on next_day_after is_boundary
    first_month month_of month_after month_start month_length
gold_stays = refl

-- and the fee cell
abbrev pub FeesStay : Type 0
FeesStay = (facts : FactsValue) (later : List Version) (sub : ℕ) (billed : Option ℕ) (day : ℕ)
    → HasPlansOf facts.catalog facts.timeline
    → fee_at (with_later facts later) sub billed day ≡ fee_at facts sub billed day

trial_stays : fee_at (with_later facts (small ∷ [])) 0 (Some (march 1)) (march 1)
    ≡ Some (record {
      plan = record { version = 0; list = 0; plan = 0 };
      phase = 0;
      start = march 1;
      end = march 2;
      price = 500;
    })
unfolding fee_on phase_on phase_starts
trial_stays = refl

-- so an account is charged in all what it was
abbrev pub TotalsStay : Type 0
TotalsStay = (world : WorldValue) (later : List Version) (book : BookValue)
    → HasPlansOf world.versions book.timeline
    → charged_by (record world { versions = world.versions ++ later }) book ≡ charged_by world book
