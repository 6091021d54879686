-- What is said, as JSON: the members of each answer in their order.
use Rattle.std.specs.Prelude.{ℕ, List, [], ◌∷◌, codes, map, Option, Some, None, option_map, unwrap_or}
use Rattle.json.specs.Json.{Json}
use Rattle.kb_days.specs.DateText.{date_text}
use Rattle.kb_catalog_text.specs.Texts as texts
use Rattle.kb_credit.specs.declared.line.Line.{Line}
use Rattle.kb_credit.specs.declared.line.Line.TheVariants as lines
use Rattle.kb_credit.specs.Items.{amount_of}
use Rattle.kb_book.specs.declared.answer.Answer.{Answer}
use Rattle.kb_book.specs.declared.refusal.Refusal.{Refusal}
use Rattle.kb_book.specs.declared.refusal.Refusal.TheVariants as refusal
use Rattle.kb_book.specs.declared.reply.LaneReply.{LaneReply}
use Rattle.kb_book.specs.declared.reply.LaneReply.TheVariants as reply
use Rattle.kb_book.specs.declared.step.Step.{Step}
use Rattle.kb_book.specs.declared.step.Step.TheVariants as step
use Rattle.kb_book.specs.declared.views.View.{View}
use Rattle.kb_book.specs.declared.views.View.TheVariants as view
use Rattle.kb_book.specs.declared.views.AccountView.{AccountView}
use Rattle.kb_book.specs.declared.views.InvoiceView.{InvoiceView}
use Rattle.kb_book.specs.declared.views.ItemView.{ItemView}
use Rattle.kb_book.specs.declared.views.PaymentView.{PaymentView}
use Rattle.kb_book.specs.declared.views.SubscriptionView.{SubscriptionView}
use Rattle.kb_json.specs.declared.fault.RequestFault.{RequestFault}
use Rattle.kb_json.specs.declared.fault.RequestFault.TheVariants as fault
use Rattle.kb_json.specs.Requests.{fault_number}
use Rattle.kb_json.specs.declared.said.Said.{Said}
use Rattle.kb_json.specs.declared.said.Said.TheVariants as said
use Rattle.kb_json.specs.JsonTexts.{object_of, array_of, word, sum, count, or_null, json_text}
use Rattle.kb_json.specs.Words.{line_word, kind_word, status_word, state_word, phase_word}
use Rattle.kb_json.specs.Refusals.{refusal_number, refusal_name}

-- an answer of a status, with its other members
abbrev pub status : List ℕ → List (List ℕ × Json) → Json
status name rows = object_of ((codes "status", word name) ∷ rows)

-- a day, by its date
abbrev pub date : ℕ → Json
date day = word (date_text day)

-- an accepted command
abbrev pub accepted : Answer → Json
accepted answer = status (codes "ok")
    ((codes "command", count answer.command)
    ∷ (codes "invoice", or_null count answer.invoice)
    ∷ (codes "total", sum answer.total)
    ∷ (codes "credit", sum answer.credit)
    ∷ (codes "unpaid", sum answer.unpaid) ∷ [])

-- a refusal; a limit tells which it is, and its number
abbrev pub limit_of : Refusal → Option (ℕ × ℕ)
limit_of (refusal.Limit which limit) = Some (which, limit)
limit_of other = None

abbrev pub limit_rows : Option (ℕ × ℕ) → List (List ℕ × Json)
limit_rows None = []
limit_rows (Some limit) = (codes "which", count limit.0) ∷ (codes "limit", count limit.1) ∷ []

abbrev pub refused : Refusal → Json
refused one = status (codes "refused")
    ((codes "number", count (refusal_number one)) ∷ (codes "name", word (refusal_name one))
    ∷ limit_rows (limit_of one))

-- what stands in the way of a command
abbrev pub disk : Json
disk = status (codes "disk") []

abbrev pub stopped : ℕ → Json
stopped acknowledged = status (codes "stopped") ((codes "count", count acknowledged) ∷ [])

abbrev pub full : ℕ → ℕ → Json
full commands size =
    status (codes "full") ((codes "commands", count commands) ∷ (codes "size", count size) ∷ [])

abbrev pub memory : Json
memory = status (codes "memory") []

-- the reply of a lane
abbrev pub reply_json : LaneReply → Json
reply_json (reply.Accepted answer) = accepted answer
reply_json (reply.Version versions) = status (codes "ok") ((codes "version", count versions) ∷ [])
reply_json (reply.States states) = status (codes "ok") ((codes "states", count states) ∷ [])
reply_json (reply.Refused one) = refused one
reply_json reply.DiskFault = disk
reply_json (reply.Stopped acknowledged) = stopped acknowledged
reply_json (reply.Full commands size) = full commands size
reply_json reply.NoMemory = memory

-- what came of looking up open payments; nothing to do is done
abbrev pub step_json : Step → Json
step_json step.Idle = status (codes "ok") []
step_json step.Done = status (codes "ok") []
step_json step.DiskFault = disk
step_json (step.Stopped acknowledged) = stopped acknowledged
step_json (step.Full commands size) = full commands size
step_json step.NoMemory = memory

-- a line that is no request
abbrev pub fault_json : RequestFault → Json
fault_json (fault.Json json) = status (codes "bad") ((codes "fault", count (fault_number json)) ∷ [])
fault_json fault.BadName = refused refusal.BadName
fault_json fault.BadDate = refused refusal.BadDate
fault_json (fault.Text text) = status (codes "text") ((codes "fault", count (texts.fault_number text)) ∷ [])
fault_json fault.NoMemory = memory

-- an account
abbrev pub account_json : AccountView → Json
account_json view = status (codes "ok")
    ((codes "account", word view.account)
    ∷ (codes "currency", word view.currency)
    ∷ (codes "billed", or_null date view.billed)
    ∷ (codes "charged", sum view.charged)
    ∷ (codes "paid", sum view.paid)
    ∷ (codes "credit", sum view.credit)
    ∷ (codes "unpaid", sum view.unpaid)
    ∷ (codes "overdue", word (unwrap_or view.overdue (codes "CLEAR"))) ∷ [])

-- the days of an item, the second being the day after the last one, and the item that it takes back
abbrev pub from_of : Line → Option ℕ
from_of (lines.Bill subscription recurring from to amount) = Some from
from_of (lines.Repair subscription of from to amount) = Some from
from_of (lines.Charge amount) = None
from_of (lines.Credit amount) = None
from_of (lines.Cba amount) = None

abbrev pub to_of : Line → Option ℕ
to_of (lines.Bill subscription recurring from to amount) = Some to
to_of (lines.Repair subscription of from to amount) = Some to
to_of (lines.Charge amount) = None
to_of (lines.Credit amount) = None
to_of (lines.Cba amount) = None

abbrev pub repaired_by : Line → Option ℕ
repaired_by (lines.Bill subscription recurring from to amount) = None
repaired_by (lines.Repair subscription of from to amount) = Some of
repaired_by (lines.Charge amount) = None
repaired_by (lines.Credit amount) = None
repaired_by (lines.Cba amount) = None

-- an item of an invoice
abbrev pub item_json : ItemView → Json
item_json view = object_of
    ((codes "item", count view.item)
    ∷ (codes "kind", word (line_word view.line))
    ∷ (codes "subscription", or_null word view.subscription)
    ∷ (codes "from", or_null date (from_of view.line))
    ∷ (codes "to", or_null date (to_of view.line))
    ∷ (codes "amount", sum (amount_of view.line))
    ∷ (codes "repairs", or_null count (repaired_by view.line)) ∷ [])

-- an invoice
abbrev pub invoice_json : InvoiceView → Json
invoice_json view = status (codes "ok")
    ((codes "invoice", count view.invoice)
    ∷ (codes "day", date view.day)
    ∷ (codes "total", sum view.total)
    ∷ (codes "balance", sum view.balance)
    ∷ (codes "items", array_of (map item_json view.items)) ∷ [])

-- a payment
abbrev pub payment_json : PaymentView → Json
payment_json view = status (codes "ok")
    ((codes "payment", word view.payment)
    ∷ (codes "kind", word (kind_word view.kind))
    ∷ (codes "invoice", count view.invoice)
    ∷ (codes "amount", count view.amount)
    ∷ (codes "state", word (status_word view.status)) ∷ [])

-- a subscription
abbrev pub subscription_json : SubscriptionView → Json
subscription_json view = status (codes "ok")
    ((codes "subscription", word view.subscription)
    ∷ (codes "bundle", word view.bundle)
    ∷ (codes "day", date view.day)
    ∷ (codes "state", word (state_word view.state))
    ∷ (codes "plan", or_null word view.plan)
    ∷ (codes "phase", or_null word (option_map phase_word view.phase))
    ∷ (codes "charged_through", or_null date view.charged_through) ∷ [])

-- what is shown
abbrev pub view_json : View → Json
view_json (view.Account one) = account_json one
view_json (view.Invoice one) = invoice_json one
view_json (view.Payment one) = payment_json one
view_json (view.Subscription one) = subscription_json one

-- what is said, and its text
abbrev pub said_json : Said → Json
said_json (said.Reply one) = reply_json one
said_json (said.View one) = view_json one
said_json (said.Refused one) = refused one
said_json (said.Fault one) = fault_json one
said_json (said.Janitor one) = step_json one

abbrev pub say : Said → List ℕ
say answer = json_text (said_json answer)
