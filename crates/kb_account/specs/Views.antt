-- What is shown of an account.
use Rattle.std.specs.Prelude.{ℕ, ◌+◌, nat_eq, List, [], ◌∷◌, ◌++◌, slice_get, option_map, option_and_then}
use Rattle.std.specs.Prelude.{option_to_list, Option, Some, None, Result, Ok, Err, if◌then◌else◌, map, pos}
use Rattle.std.specs.Prelude.{false, codes, ◌≡◌, refl}
use Rattle.kb_days.specs.Dates.{march}
use Rattle.kb_credit.specs.declared.row.Row.{Row}
use Rattle.kb_credit.specs.declared.line.Line.{Line}
use Rattle.kb_credit.specs.declared.line.Line.TheVariants as lines
use Rattle.kb_credit.specs.InvoiceRows.{charged, paid, credit, unpaid, balance_of, numbered}
use Rattle.kb_payment.specs.declared.attempt.Attempt.{Attempt}
use Rattle.kb_payment.specs.PaymentSums.{attempt_of}
use Rattle.kb_timeline.specs.declared.subscription.Subscription.{Subscription}
use Rattle.kb_timeline.specs.TimelineEdits.{TimelineValue, subscription_named, no_subscriptions}
use Rattle.kb_due.specs.Facts.{FactsValue, subscription_at}
use Rattle.kb_due.specs.Governing.{Governing, governing_on}
use Rattle.kb_due.specs.Life.{is_live_of}
use Rattle.kb_due.specs.Entitlements.{state_of}
use Rattle.kb_book.specs.Wishes.{asked_day}
use Rattle.kb_book.specs.Effects.{through_of}
use Rattle.kb_book.specs.declared.refusal.Refusal.{Refusal}
use Rattle.kb_book.specs.declared.refusal.Refusal.TheVariants as refusal
use Rattle.kb_book.specs.Worlds.{WorldValue}
use Rattle.kb_book.specs.Books.{BookValue, new_book}
use Rattle.kb_book.specs.Dues.{facts_of}
use Rattle.kb_book.specs.declared.query.Query.{Query}
use Rattle.kb_book.specs.declared.query.Query.TheVariants as queries
use Rattle.kb_book.specs.declared.views.View.{View}
use Rattle.kb_book.specs.declared.views.View.TheVariants as views
use Rattle.kb_book.specs.declared.views.AccountView.{AccountView}
use Rattle.kb_book.specs.declared.views.InvoiceView.{InvoiceView}
use Rattle.kb_book.specs.declared.views.ItemView.{ItemView}
use Rattle.kb_book.specs.declared.views.PaymentView.{PaymentView}
use Rattle.kb_book.specs.declared.views.SubscriptionView.{SubscriptionView}
use Rattle.kb_account.specs.Prepares.{refusal_by}
use Rattle.kb_account.specs.Sums.{bundle_at}

-- an account
abbrev pub account_view : BookValue → AccountView
account_view book = record {
  account = book.account;
  currency = book.currency;
  billed = book.billed;
  charged = charged book.invoices.rows;
  paid = paid book.invoices.rows;
  credit = credit book.invoices.rows;
  unpaid = unpaid book.invoices.rows;
  overdue = book.overdue;
}

-- the name of the subscription at a place
abbrev pub name_at : TimelineValue → ℕ → Option (List ℕ)
name_at timeline place =
    option_map (λ (subscription : Subscription). subscription.name) (slice_get timeline.subscriptions place)

-- the name of the subscription of a line, if it is of one
abbrev pub line_name : TimelineValue → Line → Option (List ℕ)
line_name timeline (lines.Bill subscription recurring from to amount) = name_at timeline subscription
line_name timeline (lines.Repair subscription of from to amount) = name_at timeline subscription
line_name timeline (lines.Charge amount) = None
line_name timeline (lines.Credit amount) = None
line_name timeline (lines.Cba amount) = None

-- an item of an invoice, with its number
abbrev pub item_view : TimelineValue → ℕ → Line → ItemView
item_view timeline item line = record { item = item; subscription = line_name timeline line; line = line }

-- an item, if it is one of an invoice
abbrev pub shown_item : TimelineValue → ℕ → ℕ → ℕ × Line → Option ItemView
shown_item timeline invoice item entry =
    if nat_eq entry.0 invoice then Some (item_view timeline item entry.1) else None

-- those of an invoice among items that are numbered from one on
abbrev pub items_from : TimelineValue → ℕ → ℕ → List (ℕ × Line) → List ItemView
items_from timeline invoice item [] = []
items_from timeline invoice item (entry ∷ later) =
    option_to_list (shown_item timeline invoice item entry) ++ items_from timeline invoice (item + 1) later

-- items 1 and 3 are of invoice 1
of_the_first : map (λ (view : ItemView). view.item) (items_from no_subscriptions 1 1
    ((1, lines.Charge (pos 250)) ∷ (2, lines.Charge (pos 100)) ∷ (1, lines.Cba (pos 40)) ∷ [])) ≡ 1 ∷ 3 ∷ []
of_the_first = refl

-- an invoice, with its items in order of their numbers
abbrev pub row_view : BookValue → ℕ → Row → InvoiceView
row_view book invoice row = record {
  invoice = invoice;
  day = row.day;
  total = row.total;
  balance = balance_of row;
  items = items_from book.timeline invoice 1 book.invoices.items;
}

abbrev pub invoice_view : BookValue → ℕ → Option InvoiceView
invoice_view book invoice = option_map (row_view book invoice) (numbered invoice book.invoices.rows)

-- a payment, by its key
abbrev pub attempt_view : List ℕ → Attempt → PaymentView
attempt_view payment attempt = record {
  payment = payment;
  kind = attempt.kind;
  invoice = attempt.invoice;
  amount = attempt.amount;
  status = attempt.status;
}

abbrev pub payment_view : BookValue → List ℕ → Option PaymentView
payment_view book payment = option_map (attempt_view payment) (attempt_of book.payments payment)

-- what governs a day of a subscription, if it is live then
abbrev pub live_terms : FactsValue → Subscription → ℕ → Option Governing
live_terms facts subscription day =
    if is_live_of facts subscription day then governing_on facts.catalog subscription.entries day else None

-- the subscription at a place on a day, and until when it is charged at a billed date
abbrev pub place_view : FactsValue → Option ℕ → ℕ → ℕ → Subscription → SubscriptionView
place_view facts billed day sub subscription = record {
  subscription = subscription.name;
  bundle = bundle_at facts.timeline.bundles subscription.bundle;
  day = day;
  state = state_of facts subscription sub day;
  plan = option_map (λ (governing : Governing). governing.choice.plan.name)
      (live_terms facts subscription day);
  phase = option_map (λ (governing : Governing). governing.phase.kind) (live_terms facts subscription day);
  charged_through = through_of facts sub billed;
}

abbrev pub view_at : FactsValue → Option ℕ → ℕ → ℕ → Option SubscriptionView
view_at facts billed day sub = option_map (place_view facts billed day sub) (subscription_at facts sub)

abbrev pub subscription_view : FactsValue → Option ℕ → ℕ → List ℕ → Option SubscriptionView
subscription_view facts billed day name =
    option_and_then (view_at facts billed day) (subscription_named facts.timeline name)

-- what is asked for, or why there is no answer
abbrev pub shown : {A : Type 0} → (A → View) → Refusal → Option A → Result View Refusal
shown view refused None = Err refused
shown view refused (Some one) = Ok (view one)

-- the answer to a query on a day: a query that names no day asks for that one
abbrev pub answer_to : WorldValue → BookValue → ℕ → Query → Result View Refusal
answer_to world book today (queries.Account account) = Ok (views.Account (account_view book))
answer_to world book today (queries.Invoice account invoice) =
    shown views.Invoice refusal.NoInvoice (invoice_view book invoice)
answer_to world book today (queries.Payment account payment) =
    shown views.Payment refusal.NoPayment (payment_view book payment)
answer_to world book today (queries.Subscription account subscription day) =
    shown views.Subscription refusal.NoSubscription
    (subscription_view (facts_of world book) book.billed (asked_day day today) subscription)

-- an account that has just been opened has no invoice 1
no_invoice_yet : refusal_by (answer_to (record { versions = []; states = [] })
    (new_book (codes "a1") (codes "USD") 1 false) (march 1) (queries.Invoice (codes "a1") 1))
    ≡ Some refusal.NoInvoice
no_invoice_yet = refl
