-- The words of an answer.
use Rattle.std.specs.Prelude.{ℕ, List, codes, if◌then◌else◌}
use Rattle.kb_catalog.specs.declared.words.PhaseType.{PhaseType}
use Rattle.kb_catalog.specs.Words as catalog
use Rattle.kb_credit.specs.declared.line.Line.{Line}
use Rattle.kb_credit.specs.declared.line.Line.TheVariants as lines
use Rattle.kb_due.specs.declared.entitlement.Entitlement.{Entitlement}
use Rattle.kb_due.specs.declared.entitlement.Entitlement.TheVariants as states
use Rattle.kb_payment.specs.declared.attempt.Kind.{Kind}
use Rattle.kb_payment.specs.declared.attempt.Kind.TheVariants as kinds
use Rattle.kb_payment.specs.declared.attempt.Status.{Status}
use Rattle.kb_payment.specs.declared.attempt.Status.TheVariants as statuses

-- the word of a kind of item
abbrev pub line_word : Line → List ℕ
line_word (lines.Bill subscription recurring from to amount) =
    if recurring then codes "RECURRING" else codes "FIXED"
line_word (lines.Repair subscription of from to amount) = codes "REPAIR_ADJ"
line_word (lines.Charge amount) = codes "EXTERNAL_CHARGE"
line_word (lines.Credit amount) = codes "CREDIT_ADJ"
line_word (lines.Cba amount) = codes "CBA_ADJ"

-- the word of a kind of payment
abbrev pub kind_word : Kind → List ℕ
kind_word kinds.Purchase = codes "PURCHASE"
kind_word kinds.Refund = codes "REFUND"
kind_word kinds.Chargeback = codes "CHARGEBACK"

-- the word of how a payment stands
abbrev pub status_word : Status → List ℕ
status_word statuses.Unknown = codes "UNKNOWN"
status_word statuses.Pending = codes "PENDING"
status_word statuses.Success = codes "SUCCESS"
status_word statuses.PaymentFailure = codes "PAYMENT_FAILURE"
status_word statuses.PluginFailure = codes "PLUGIN_FAILURE"

-- the word of how a subscription stands
abbrev pub state_word : Entitlement → List ℕ
state_word states.Pending = codes "PENDING"
state_word states.Active = codes "ACTIVE"
state_word states.Blocked = codes "BLOCKED"
state_word states.Cancelled = codes "CANCELLED"

-- the word of a type of phase
abbrev pub phase_word : PhaseType → List ℕ
phase_word = catalog.phase_word
