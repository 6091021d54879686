-- The sums of a book, and how its subscriptions stand.
use Rattle.std.specs.Prelude.{ℕ, ◌+◌, length, List, [], ◌∷◌, slice_get, unwrap_or}
use Rattle.kb_credit.specs.InvoiceRows.{charged, paid, credit, unpaid, unpaid_count, earliest_unpaid}
use Rattle.kb_timeline.specs.declared.subscription.Subscription.{Subscription}
use Rattle.kb_due.specs.Facts.{FactsValue}
use Rattle.kb_due.specs.Entitlements.{state_of}
use Rattle.kb_book.specs.Worlds.{WorldValue}
use Rattle.kb_book.specs.Books.{BookValue}
use Rattle.kb_book.specs.Dues.{facts_of}
use Rattle.kb_account.specs.declared.view.sums.Sums.{Sums}
use Rattle.kb_account.specs.declared.view.states.StateRow.{StateRow}

-- what a book adds up to
abbrev pub sums_of : BookValue → Sums
sums_of book = record {
  commands = book.commands;
  invoices = length book.invoices.rows;
  charged = charged book.invoices.rows;
  paid = paid book.invoices.rows;
  credit = credit book.invoices.rows;
  unpaid = unpaid book.invoices.rows;
  unpaid_count = unpaid_count book.invoices.rows;
  earliest = earliest_unpaid book.invoices.rows;
  overdue = book.overdue;
}

-- the name of the bundle at a place
abbrev pub bundle_at : List (List ℕ) → ℕ → List ℕ
bundle_at bundles place = unwrap_or (slice_get bundles place) []

-- how the subscription at a place stands on a day
abbrev pub state_row : FactsValue → ℕ → ℕ → Subscription → StateRow
state_row facts day sub subscription = record {
  bundle = bundle_at facts.timeline.bundles subscription.bundle;
  subscription = subscription.name;
  state = state_of facts subscription sub day;
}

-- and those from a place on, in order of creation
abbrev pub states_from : FactsValue → ℕ → ℕ → List Subscription → List StateRow
states_from facts day sub [] = []
states_from facts day sub (subscription ∷ later) =
    state_row facts day sub subscription ∷ states_from facts day (sub + 1) later

abbrev pub states_of : WorldValue → BookValue → ℕ → List StateRow
states_of world book day = states_from (facts_of world book) day 0 book.timeline.subscriptions
