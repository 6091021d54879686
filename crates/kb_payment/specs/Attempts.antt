-- One attempt to move money.
use Rattle.std.specs.Prelude.{ℕ, Bool, true, false, ◌&&◌, ◌||◌, ◌==◌, ℤ, pos, neg_ℤ, List, Option, None, Some}
use Rattle.std.specs.Prelude.{bytes_eq, if◌then◌else◌}
use Rattle.kb_payment.specs.declared.attempt.Attempt.{Attempt}
use Rattle.kb_payment.specs.declared.attempt.Kind.{Kind}
use Rattle.kb_payment.specs.declared.attempt.Kind.TheVariants.{Purchase, Refund, Chargeback}
use Rattle.kb_payment.specs.declared.attempt.Status.{Status}
use Rattle.kb_payment.specs.declared.attempt.Status.TheVariants.{Unknown, Pending, Success, PaymentFailure}
use Rattle.kb_payment.specs.declared.attempt.Status.TheVariants.{PluginFailure}

-- it may yet be settled
abbrev pub is_open : Status → Bool
is_open Unknown = true
is_open Pending = true
is_open Success = false
is_open PaymentFailure = false
is_open PluginFailure = false

-- the money has moved
abbrev pub is_success : Status → Bool
is_success Unknown = false
is_success Pending = false
is_success Success = true
is_success PaymentFailure = false
is_success PluginFailure = false

abbrev pub is_purchase : Kind → Bool
is_purchase Purchase = true
is_purchase Refund = false
is_purchase Chargeback = false

-- a refund or a chargeback may name it
abbrev pub is_paid_purchase : Attempt → Bool
is_paid_purchase attempt = is_purchase attempt.kind && is_success attempt.status

-- what an amount comes to on its invoice, once it has moved
abbrev pub signed : Kind → ℕ → ℤ
signed Purchase amount = pos amount
signed Refund amount = neg_ℤ (pos amount)
signed Chargeback amount = neg_ℤ (pos amount)

-- what an attempt pays on the invoice of a number: nothing before it is a success
abbrev pub paid_by : ℕ → Attempt → ℤ
paid_by invoice attempt =
    if (attempt.invoice == invoice) && is_success attempt.status
    then signed attempt.kind attempt.amount else pos 0

-- it names the purchase of a key
abbrev pub names : List ℕ → Option (List ℕ) → Bool
names key None = false
names key (Some of) = bytes_eq key of

-- what it takes of the purchase of a key: its amount, from the day on which it begins until it has failed
abbrev pub taken_by : List ℕ → Attempt → ℤ
taken_by key attempt =
    if names key attempt.of && (is_success attempt.status || is_open attempt.status)
    then pos attempt.amount else pos 0

-- 1 for an open purchase on the invoice of a number, else 0
abbrev pub open_by : ℕ → Attempt → ℤ
open_by invoice attempt =
    if (attempt.invoice == invoice) && (is_purchase attempt.kind && is_open attempt.status) then pos 1 else
    pos 0

-- it is an automatic payment of the invoice of a number
abbrev pub is_automatic : ℕ → Attempt → Bool
is_automatic invoice attempt = (attempt.invoice == invoice) && attempt.auto

-- the attempt with another status
abbrev pub with_status : Attempt → Status → Attempt
with_status attempt status = record attempt { status = status }
