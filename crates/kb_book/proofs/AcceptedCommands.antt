-- An accepted command leaves each day charged by what is due, invoices that total that, items that are only
-- added, and credit in closed form.
use Rattle.std.proofs.Common.{ℕ, List, Option, Some, None, arith}
use Rattle.std.proofs.lemmas.Int.{ints, clamps}
use Rattle.kb_days.specs.Calendar.{first_day, charged_days}
use Rattle.kb_codec.specs.declared.command.Command.{Command}
use Rattle.kb_book.specs.Worlds.{WorldValue}
use Rattle.kb_book.specs.Books.{BookValue}
use Rattle.kb_book.specs.Commands.{begun, own_lines}
use Rattle.kb_book.specs.Steps.{Outcome, keep, accepted_over, billed_outcome, issue_over}
use Rattle.kb_codec.specs.Senders.{key_of}
use Rattle.kb_book.specs.SoundBooks.{IsBook}
use Rattle.kb_book.specs.BilledBooks.{IsBilled, IsEven}
use Rattle.kb_book.specs.AddedItems.{AddsFrom, GoOn}
use Rattle.kb_book.proofs.BegunBooks.{begun-edited}
use Rattle.kb_book.proofs.BilledSteps.{after-billed, after-added, after-items, after-even}

-- a book that an answer is kept in is billed as before
billed-keep : (world : WorldValue) (command : Command) (key : Option (List ℕ)) (outcome : Outcome)
    → IsBilled world outcome.1 → IsBilled world (keep command key outcome).1
billed-keep world command None outcome billed = billed
billed-keep world command (Some key) outcome billed = record { days = billed.days; totals = billed.totals }

even-keep : (world : WorldValue) (command : Command) (key : Option (List ℕ)) (outcome : Outcome)
    → IsEven world outcome.1 → IsEven world (keep command key outcome).1
even-keep world command None outcome even = even
even-keep world command (Some key) outcome even = record { credit = even.credit; unpaid = even.unpaid }

-- and adds the same items
adds-keep : (other world : WorldValue) (book : BookValue) (command : Command) (key : Option (List ℕ))
    (outcome : Outcome) → AddsFrom other world book outcome.1
    → AddsFrom other world book (keep command key outcome).1
adds-keep other world book command None outcome added = added
adds-keep other world book command (Some key) outcome added = added

items-keep : (book : BookValue) (command : Command) (key : Option (List ℕ)) (outcome : Outcome)
    → GoOn book outcome.1 → GoOn book (keep command key outcome).1
items-keep book command None outcome more = more
items-keep book command (Some key) outcome more = more

module _ (world : WorldValue) (book : BookValue) (today : ℕ) (command : Command) (sound : IsBook book) where
  -- the edited book, and the answer and the book before the answer is kept
  abbrev edited : BookValue
  edited = begun world book today command

  abbrev outcome : Outcome
  outcome = billed_outcome edited today (issue_over world edited first_day charged_days) (own_lines command)

  -- the book is billed after an accepted command
  pub billed-accepted : IsBilled world (accepted_over world book today command first_day charged_days).1
  billed-accepted =
      billed-keep world command (key_of command) outcome
      (after-billed sound.billed.0 world book edited (own_lines command) today sound sound.billed.1
      (begun-edited world book today command))

  -- its items are only added, and only on days whose cell changes
  pub adds-accepted-from : (other : WorldValue) → IsBilled other book
      → AddsFrom other world book (accepted_over world book today command first_day charged_days).1
  adds-accepted-from other billed =
      adds-keep other world book command (key_of command) outcome
      (after-added other world book edited (own_lines command) today sound billed
      (begun-edited world book today command))

  -- so are those of its invoices
  pub items-accepted : GoOn book (accepted_over world book today command first_day charged_days).1
  items-accepted =
      items-keep book command (key_of command) outcome
      (after-items sound.billed.0 world book edited (own_lines command) today sound sound.billed.1
      (begun-edited world book today command))

  -- credit is by how much payments exceed charges, and the reverse
  pub even-accepted : IsEven world (accepted_over world book today command first_day charged_days).1
  even-accepted =
      even-keep world command (key_of command) outcome
      (after-even sound.billed.0 world book edited (own_lines command) today sound sound.billed.1
      (begun-edited world book today command) (omega (arith, ints, clamps, sound.credited)))
