-- The members of each kind of command, in order, and how the kinds are read.
use Rattle.std.specs.Prelude.{ℕ, Bool, List, [], ◌∷◌, Option, Some, None, slice_get, length, ◌==◌}
use Rattle.std.specs.Prelude.{if◌then◌else◌}
use Rattle.std.specs.Option.{option_and_then}
use Rattle.kb_days.specs.declared.period.Period.{Period}
use Rattle.kb_payment.specs.declared.attempt.Status.{Status}
use Rattle.kb_blocking.specs.declared.state.Flags.{Flags}
use Rattle.kb_catalog_text.specs.Texts.{CatalogText, OverdueText}
use Rattle.kb_codec.specs.declared.scope.BlockScope.{BlockScope}
use Rattle.kb_codec.specs.declared.command.Command.{Command}
use Rattle.kb_codec.specs.declared.command.Command.TheVariants as kinds
use Rattle.kb_codec.specs.declared.action.Action.{Action}
use Rattle.kb_codec.specs.declared.action.Action.TheVariants as actions
use Rattle.kb_codec.specs.Reading.{Reader, into, chained}
use Rattle.kb_codec.specs.MemberKinds.{Member, both, optional, name, currency, bcd, day, invoice, amount}
use Rattle.kb_codec.specs.MemberKinds.{truth, period, scope, status, flags, catalog, overdue}
use Rattle.kb_codec.specs.Reading as reading

-- the members of kind 1
abbrev pub catalog_text : Member (List ℕ × CatalogText)
catalog_text = both name catalog

-- the command of those
abbrev pub catalog_text_of : List ℕ × CatalogText → Command
catalog_text_of m = kinds.Catalog (record { key = m.0; text = m.1 })

-- the members of kind 2
abbrev pub overdue_rules : Member (List ℕ × OverdueText)
overdue_rules = both name overdue

-- the command of those
abbrev pub overdue_rules_of : List ℕ × OverdueText → Command
overdue_rules_of m = kinds.OverdueRules (record { key = m.0; text = m.1 })

-- an action's members, behind its account and its key
abbrev pub acting : {A : Type 0} → Member A → Member (List ℕ × (List ℕ × A))
acting members = both name (both name members)

-- the command of those
abbrev pub acting_of : {A : Type 0} → (A → Action) → List ℕ × (List ℕ × A) → Command
acting_of of m = kinds.Act m.0 m.1.0 (of m.1.1)

-- the members of kind 3
abbrev pub open_account : Member (List ℕ × (ℕ × Bool))
open_account = both currency (both bcd truth)

-- the action of those
abbrev pub open_account_of : List ℕ × (ℕ × Bool) → Action
open_account_of m = actions.OpenAccount (record { currency = m.0; bcd = m.1.0; autopay = m.1.1 })

-- the members of kind 4
abbrev pub create : Member (List ℕ × (List ℕ × (List ℕ × (Period × (List ℕ × Option ℕ)))))
create = both name (both name (both name (both period (both name (optional day)))))

-- the action of those
abbrev pub create_of : List ℕ × (List ℕ × (List ℕ × (Period × (List ℕ × Option ℕ)))) → Action
create_of m = actions.Create (record {
  bundle = m.0;
  subscription = m.1.0;
  product = m.1.1.0;
  period = m.1.1.1.0;
  list = m.1.1.1.1.0;
  day = m.1.1.1.1.1;
})

-- the members of kind 5
abbrev pub change : Member (List ℕ × (List ℕ × (Period × (List ℕ × Option ℕ))))
change = both name (both name (both period (both name (optional day))))

-- the action of those
abbrev pub change_of : List ℕ × (List ℕ × (Period × (List ℕ × Option ℕ))) → Action
change_of m = actions.Change (record {
  subscription = m.0;
  product = m.1.0;
  period = m.1.1.0;
  list = m.1.1.1.0;
  day = m.1.1.1.1;
})

-- the members of kind 6
abbrev pub cancel : Member (List ℕ × Option ℕ)
cancel = both name (optional day)

-- the action of those
abbrev pub cancel_of : List ℕ × Option ℕ → Action
cancel_of m = actions.Cancel (record { subscription = m.0; day = m.1 })

-- the members of kind 7
abbrev pub uncancel : Member (List ℕ)
uncancel = name

-- the action of those
abbrev pub uncancel_of : List ℕ → Action
uncancel_of m = actions.Uncancel (record { subscription = m })

-- the members of kind 8
abbrev pub pause : Member (List ℕ × Option ℕ)
pause = both name (optional day)

-- the action of those
abbrev pub pause_of : List ℕ × Option ℕ → Action
pause_of m = actions.Pause (record { bundle = m.0; day = m.1 })

-- the members of kind 9
abbrev pub resume : Member (List ℕ × Option ℕ)
resume = both name (optional day)

-- the action of those
abbrev pub resume_of : List ℕ × Option ℕ → Action
resume_of m = actions.Resume (record { bundle = m.0; day = m.1 })

-- the members of kind 10
abbrev pub block : Member (BlockScope × (List ℕ × (List ℕ × (List ℕ × (Option ℕ × Flags)))))
block = both scope (both name (both name (both name (both (optional day) flags))))

-- the action of those
abbrev pub block_of : BlockScope × (List ℕ × (List ℕ × (List ℕ × (Option ℕ × Flags)))) → Action
block_of m = actions.Block (record {
  scope = m.0;
  target = m.1.0;
  service = m.1.1.0;
  state = m.1.1.1.0;
  day = m.1.1.1.1.0;
  flags = m.1.1.1.1.1;
})

-- the members of kind 11
abbrev pub bill : Member (Option ℕ)
bill = optional day

-- the action of those
abbrev pub bill_of : Option ℕ → Action
bill_of m = actions.Bill (record { day = m })

-- the members of kind 12
abbrev pub charge : Member (ℕ)
charge = amount

-- the action of those
abbrev pub charge_of : ℕ → Action
charge_of m = actions.Charge (record { amount = m })

-- the members of kind 13
abbrev pub credit : Member (ℕ)
credit = amount

-- the action of those
abbrev pub credit_of : ℕ → Action
credit_of m = actions.Credit (record { amount = m })

-- the members of kind 14
abbrev pub pay : Member (List ℕ × (ℕ × Option ℕ))
pay = both name (both invoice (optional amount))

-- the action of those
abbrev pub pay_of : List ℕ × (ℕ × Option ℕ) → Action
pay_of m = actions.Pay (record { payment = m.0; invoice = m.1.0; amount = m.1.1 })

-- the members of kind 15
abbrev pub refund : Member (List ℕ × (List ℕ × ℕ))
refund = both name (both name amount)

-- the action of those
abbrev pub refund_of : List ℕ × (List ℕ × ℕ) → Action
refund_of m = actions.Refund (record { payment = m.0; of = m.1.0; amount = m.1.1 })

-- the members of kind 16
abbrev pub chargeback : Member (List ℕ × (List ℕ × ℕ))
chargeback = both name (both name amount)

-- the action of those
abbrev pub chargeback_of : List ℕ × (List ℕ × ℕ) → Action
chargeback_of m = actions.Chargeback (record { payment = m.0; of = m.1.0; amount = m.1.1 })

-- the members of kind 17
abbrev pub autopay : Member (Bool)
autopay = truth

-- the action of those
abbrev pub autopay_of : Bool → Action
autopay_of m = actions.Autopay (record { on = m })

-- the members of kind 18
abbrev pub auto_pay : Member (List ℕ × ℕ)
auto_pay = both name invoice

-- the command of those
abbrev pub auto_pay_of : List ℕ × ℕ → Command
auto_pay_of m = kinds.Auto (record { account = m.0; invoice = m.1 })

-- the members of kind 19
abbrev pub settle : Member (List ℕ × (List ℕ × Status))
settle = both name (both name status)

-- the command of those
abbrev pub settle_of : List ℕ × (List ℕ × Status) → Command
settle_of m = kinds.Settle (record { account = m.0; payment = m.1.0; status = m.1.1 })

-- the members of kind 20
abbrev pub overdue_state : Member (List ℕ)
overdue_state = name

-- the command of those
abbrev pub overdue_state_of : List ℕ → Command
overdue_state_of m = kinds.Overdue (record { account = m })

-- how an action of a kind is read, with its account and its key
abbrev pub acts : {A : Type 0} → (A → Action) → Member A → Reader Command
acts of members = into (acting_of of) (acting members).read

-- how the members of each kind are read, from kind 0, which there isn't
abbrev pub readers : List (Reader Command)
readers = (λ bytes. None) ∷ into catalog_text_of catalog_text.read ∷ into overdue_rules_of
    overdue_rules.read
    ∷ acts open_account_of open_account
    ∷ acts create_of create
    ∷ acts change_of change
    ∷ acts cancel_of cancel
    ∷ acts uncancel_of uncancel
    ∷ acts pause_of pause
    ∷ acts resume_of resume
    ∷ acts block_of block
    ∷ acts bill_of bill
    ∷ acts charge_of charge
    ∷ acts credit_of credit
    ∷ acts pay_of pay
    ∷ acts refund_of refund
    ∷ acts chargeback_of chargeback
    ∷ acts autopay_of autopay
    ∷ into auto_pay_of auto_pay.read ∷ into settle_of settle.read ∷ into overdue_state_of
    overdue_state.read ∷ []

-- a command, from its kind on
unfoldable pub command_in : Reader Command
command_in bytes = chained reading.byte_in
    (λ kind rest. option_and_then (λ read. read rest) (slice_get readers kind)) bytes

-- what was read, if nothing is left
abbrev pub ended : Option Command → List ℕ → Option Command
ended found rest = if length rest == 0 then found else None

-- the command that all of some bytes are
unfoldable pub whole : List ℕ → Option Command
whole bytes = option_and_then (λ x. ended (Some x.0) x.1) (command_in bytes)
