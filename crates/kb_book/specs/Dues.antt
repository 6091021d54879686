-- What is due by a book, day by day, and what is charged by it in all.
use Rattle.std.specs.Prelude.{ℕ, ◌+◌, length, sum_by, Option, ℤ, pos, ◌+ℤ◌}
use Rattle.std.specs.List.{range_with_len}
use Rattle.kb_days.specs.Calendar.{first_day, charged_days}
use Rattle.kb_due.specs.declared.cell.Cell.{Cell}
use Rattle.kb_due.specs.Facts.{FactsValue}
use Rattle.kb_due.specs.DueDays.{due_at, fee_at}
use Rattle.kb_tree.specs.Amounts.{charged}
use Rattle.kb_book.specs.Worlds.{WorldValue}
use Rattle.kb_book.specs.Books.{BookValue}

-- what billing looks at
abbrev pub facts_of : WorldValue → BookValue → FactsValue
facts_of world book = record {
  catalog = world.versions;
  timeline = book.timeline;
  blocks = book.blocks;
  currency = book.currency;
  bcd = book.bcd;
}

-- the due cell of a day of the subscription at a place, and its fee cell
abbrev pub due_day : WorldValue → BookValue → ℕ → ℕ → Option Cell
due_day world book sub day = due_at (facts_of world book) sub book.billed day

abbrev pub fee_day : WorldValue → BookValue → ℕ → ℕ → Option Cell
fee_day world book sub day = fee_at (facts_of world book) sub book.billed day

-- what the days of a subscription cost, over a number of them from one on
abbrev pub subscription_charged : WorldValue → BookValue → ℕ → ℕ → ℕ → ℕ
subscription_charged world book day count sub =
    charged (fee_day world book sub) day count + charged (due_day world book sub) day count

-- what an account is charged in all: its days' due and fee cells, and what was charged and credited beside
-- them
abbrev pub charged_over : WorldValue → BookValue → ℕ → ℕ → ℤ
charged_over world book day count =
    pos (sum_by (subscription_charged world book day count)
    (range_with_len 0 (length book.timeline.subscriptions)))
    +ℤ book.beside

abbrev pub charged_by : WorldValue → BookValue → ℤ
charged_by world book = charged_over world book first_day charged_days
