-- What each command does: its refusals in order, its own edit of a book before that is billed, the day up to
-- which it bills, and its own line.
use Rattle.std.specs.Prelude.{ℕ, ◌^◌, ◌≡◌, Bool, true, false, not, nat_lt, max, List, [], ◌∷◌, Option, Some}
use Rattle.std.specs.Prelude.{None, pos, neg_ℤ, ◌+ℤ◌, refl}
use Rattle.kb_days.specs.Dates.{march, april}
use Rattle.kb_credit.specs.declared.line.Line.{Line}
use Rattle.kb_credit.specs.declared.line.Line.TheVariants as lines
use Rattle.kb_credit.specs.InvoiceRows.{InvoicesValue}
use Rattle.kb_payment.specs.PaymentSums.{PaymentsValue}
use Rattle.kb_payment.specs.PaymentEdits.{purchased, refunded, charged_back, settled}
use Rattle.kb_codec.specs.declared.action.Action.{Action}
use Rattle.kb_codec.specs.declared.action.Action.TheVariants as actions
use Rattle.kb_codec.specs.declared.command.Command.{Command}
use Rattle.kb_codec.specs.declared.command.Command.TheVariants as kinds
use Rattle.kb_book.specs.declared.refusal.Refusal.TheVariants as refusal
use Rattle.kb_book.specs.Wishes.{asked_day}
use Rattle.kb_book.specs.Worlds.{WorldValue}
use Rattle.kb_book.specs.Books.{BookValue}
use Rattle.kb_book.specs.Dues.{facts_of}
use Rattle.kb_book.specs.Rows.{Rows}
use Rattle.kb_book.specs.Inner.{is_transition_due, invoice_due, is_this, state_of}
use Rattle.kb_book.specs.SubscriptionCommands.{create_rows, change_rows_of, cancel_rows_of, uncancel_rows_of}
use Rattle.kb_book.specs.SubscriptionCommands.{of_named, with_change, with_cancel, with_uncancel}
use Rattle.kb_book.specs.BlockCommands.{pause_rows, block_rows, state_rows, paused, resumed, blocked}
use Rattle.kb_book.specs.PaymentRows.{pay_rows, give_back_rows, settle_rows, balance_at}
use Rattle.kb_book.specs.Edits.{with_start, with_timeline, with_blocks, with_payments, with_transition}
use Rattle.kb_book.specs.Edits.{auto_key}

-- the most commands of callers that an account accepts
abbrev pub max_commands : ℕ
max_commands = 10 ^ 6

-- the greatest amount of a charge or a credit
abbrev pub max_charge : ℕ
max_charge = 10 ^ 9

-- the refusals of an automatic payment
abbrev pub auto_rows : Bool → PaymentsValue → InvoicesValue → ℕ → ℕ → Rows
auto_rows autopay payments invoices today invoice =
    (not (is_this (invoice_due autopay payments invoices today) invoice), refusal.PaymentState) ∷ []

-- the refusals of each action in their order, once its key is new and the account may have one more command
abbrev pub action_rows : WorldValue → BookValue → ℕ → Action → Rows
action_rows world book today (actions.OpenAccount c) = (true, refusal.AccountExists) ∷ []
action_rows world book today (actions.Create c) = create_rows (facts_of world book) today c
action_rows world book today (actions.Change c) =
    of_named (facts_of world book) c.subscription (change_rows_of (facts_of world book) book.billed today c)
action_rows world book today (actions.Cancel c) =
    of_named (facts_of world book) c.subscription (cancel_rows_of (facts_of world book) book.billed today c)
action_rows world book today (actions.Uncancel c) =
    of_named (facts_of world book) c.subscription uncancel_rows_of
action_rows world book today (actions.Pause c) = pause_rows book.timeline book.blocks c.bundle
action_rows world book today (actions.Resume c) = pause_rows book.timeline book.blocks c.bundle
action_rows world book today (actions.Block c) = block_rows book.account book.timeline book.blocks c
action_rows world book today (actions.Bill c) = []
action_rows world book today (actions.Charge c) = (nat_lt max_charge c.amount, refusal.AmountTooLarge) ∷ []
action_rows world book today (actions.Credit c) = (nat_lt max_charge c.amount, refusal.AmountTooLarge) ∷ []
action_rows world book today (actions.Pay c) = pay_rows book.payments book.invoices c
action_rows world book today (actions.Refund c) = give_back_rows book.payments c.payment c.of c.amount
action_rows world book today (actions.Chargeback c) = give_back_rows book.payments c.payment c.of c.amount
action_rows world book today (actions.Autopay c) = []

-- the refusals of each command; those of an action are the action's
abbrev pub own_rows : WorldValue → BookValue → ℕ → Command → Rows
own_rows world book today (kinds.Catalog c) = []
own_rows world book today (kinds.OverdueRules c) = []
own_rows world book today (kinds.Act account key action) = action_rows world book today action
own_rows world book today (kinds.Auto c) = auto_rows book.autopay book.payments book.invoices today c.invoice
own_rows world book today (kinds.Settle c) = settle_rows book.payments c.payment c.status
own_rows world book today (kinds.Overdue c) = (
  not (is_transition_due world.states book.invoices book.transition book.overdue today),
  refusal.PaymentState,
) ∷ state_rows book.blocks

-- an action's own edit
abbrev pub acted : WorldValue → BookValue → ℕ → Action → BookValue
acted world book today (actions.OpenAccount c) = book
acted world book today (actions.Create c) = with_start world book today c
acted world book today (actions.Change c) =
    with_timeline book (with_change (facts_of world book) book.billed today c)
acted world book today (actions.Cancel c) =
    with_timeline book (with_cancel (facts_of world book) book.billed today c)
acted world book today (actions.Uncancel c) = with_timeline book (with_uncancel book.timeline c)
acted world book today (actions.Pause c) =
    with_blocks book (paused book.timeline book.blocks c.bundle (asked_day c.day today))
acted world book today (actions.Resume c) =
    with_blocks book (resumed book.timeline book.blocks c.bundle (asked_day c.day today))
acted world book today (actions.Block c) =
    with_blocks book (blocked book.timeline book.blocks c (asked_day c.day today))
acted world book today (actions.Bill c) = book
acted world book today (actions.Charge c) = record book { beside = book.beside +ℤ pos c.amount }
acted world book today (actions.Credit c) = record book { beside = book.beside +ℤ neg_ℤ (pos c.amount) }
acted world book today (actions.Pay c) = with_payments book
    (purchased book.payments c.payment c.invoice (balance_at book.invoices c.invoice) c.amount today false)
acted world book today (actions.Refund c) =
    with_payments book (refunded book.payments c.payment c.of c.amount today)
acted world book today (actions.Chargeback c) =
    with_payments book (charged_back book.payments c.payment c.of c.amount today)
acted world book today (actions.Autopay c) = record book { autopay = c.on }

-- a command's own edit
abbrev pub edited : WorldValue → BookValue → ℕ → Command → BookValue
edited world book today (kinds.Catalog c) = book
edited world book today (kinds.OverdueRules c) = book
edited world book today (kinds.Act account key action) = acted world book today action
edited world book today (kinds.Auto c) = with_payments book
    (purchased book.payments (auto_key c.invoice today) c.invoice (balance_at book.invoices c.invoice) None
    today true)
edited world book today (kinds.Settle c) = with_payments book (settled book.payments c.payment c.status)
edited world book today (kinds.Overdue c) =
    with_transition book (state_of world.states book.invoices today) today

-- the day up to which an action bills, if it moves the billed date
abbrev pub action_bills : ℕ → Action → Option ℕ
action_bills today (actions.OpenAccount c) = None
action_bills today (actions.Create c) = Some today
action_bills today (actions.Change c) = Some today
action_bills today (actions.Cancel c) = Some today
action_bills today (actions.Uncancel c) = Some today
action_bills today (actions.Pause c) = Some today
action_bills today (actions.Resume c) = Some today
action_bills today (actions.Block c) = Some today
action_bills today (actions.Bill c) = Some (asked_day c.day today)
action_bills today (actions.Charge c) = None
action_bills today (actions.Credit c) = None
action_bills today (actions.Pay c) = None
action_bills today (actions.Refund c) = None
action_bills today (actions.Chargeback c) = None
action_bills today (actions.Autopay c) = None

-- the day up to which a command bills
abbrev pub billed_by : ℕ → Command → Option ℕ
billed_by today (kinds.Catalog c) = None
billed_by today (kinds.OverdueRules c) = None
billed_by today (kinds.Act account key action) = action_bills today action
billed_by today (kinds.Auto c) = None
billed_by today (kinds.Settle c) = None
billed_by today (kinds.Overdue c) = Some today

-- the billed date moves up to a day, and never back
abbrev pub moved_to : Option ℕ → Option ℕ → Option ℕ
moved_to billed None = billed
moved_to None (Some day) = Some day
moved_to (Some billed) (Some day) = Some (max billed day)

never_back : moved_to (Some (april 1)) (Some (march 10)) ≡ Some (april 1)
never_back = refl

left_alone : moved_to (Some (april 1)) None ≡ Some (april 1)
left_alone = refl

-- the book with a command's own edit, and its billed date
abbrev pub begun : WorldValue → BookValue → ℕ → Command → BookValue
begun world book today command = with_date (edited world book today command)
  where
    with_date : BookValue → BookValue
    with_date edited = record edited { billed = moved_to book.billed (billed_by today command) }

-- the line of a charge or a credit; no other command has one of its own
abbrev pub own_lines : Command → List Line
own_lines (kinds.Act account key (actions.Charge c)) = lines.Charge (pos c.amount) ∷ []
own_lines (kinds.Act account key (actions.Credit c)) = lines.Credit (neg_ℤ (pos c.amount)) ∷ []
own_lines command = []
