-- What a request asks for, once nothing is wrong with its members.
use Rattle.std.specs.Prelude.{ℕ, ◌≡◌, Bool, false, List, [], codes, Option, unwrap_or, option_and_then}
use Rattle.std.specs.Prelude.{Result, Ok, Err}
use Rattle.serde_json.specs.Data.{Data, Members}
use Rattle.serde_json.specs.Find.{as_str, as_bool}
use Rattle.kb_days.specs.declared.period.Period.{Period}
use Rattle.kb_days.specs.declared.period.Period.TheVariants.{NoBillingPeriod}
use Rattle.kb_blocking.specs.declared.state.Flags.{Flags}
use Rattle.kb_catalog.specs.declared.version.Version.{Version}
use Rattle.kb_overdue.specs.declared.state.OverdueState.{OverdueState}
use Rattle.kb_catalog_text.specs.declared.fault.TextFault.{TextFault}
use Rattle.kb_catalog_text.specs.declared.fault.TextFault.TheVariants as texts
use Rattle.kb_catalog_text.specs.Texts.{catalog_read, overdue_read}
use Rattle.kb_codec.specs.declared.scope.BlockScope.{BlockScope}
use Rattle.kb_codec.specs.declared.scope.BlockScope.TheVariants as scope
use Rattle.kb_codec.specs.declared.command.Command.{Command}
use Rattle.kb_codec.specs.declared.command.Command.TheVariants as commands
use Rattle.kb_codec.specs.declared.action.Action.{Action}
use Rattle.kb_codec.specs.declared.action.Action.TheVariants as actions
use Rattle.kb_codec.specs.declared.action.OpenAccount.{OpenAccount}
use Rattle.kb_codec.specs.declared.action.Create.{Create}
use Rattle.kb_codec.specs.declared.action.Change.{Change}
use Rattle.kb_codec.specs.declared.action.Cancel.{Cancel}
use Rattle.kb_codec.specs.declared.action.Uncancel.{Uncancel}
use Rattle.kb_codec.specs.declared.action.Pause.{Pause}
use Rattle.kb_codec.specs.declared.action.Resume.{Resume}
use Rattle.kb_codec.specs.declared.action.Block.{Block}
use Rattle.kb_codec.specs.declared.action.Bill.{Bill}
use Rattle.kb_codec.specs.declared.action.Charge.{Charge}
use Rattle.kb_codec.specs.declared.action.Credit.{Credit}
use Rattle.kb_codec.specs.declared.action.Pay.{Pay}
use Rattle.kb_codec.specs.declared.action.Refund.{Refund}
use Rattle.kb_codec.specs.declared.action.Chargeback.{Chargeback}
use Rattle.kb_codec.specs.declared.action.Autopay.{Autopay}
use Rattle.kb_book.specs.declared.query.Query.{Query}
use Rattle.kb_book.specs.declared.query.Query.TheVariants as queries
use Rattle.kb_json.specs.declared.fault.RequestFault.{RequestFault}
use Rattle.kb_json.specs.declared.fault.RequestFault.TheVariants as faults
use Rattle.kb_json.specs.declared.kind.Kind.{Kind}
use Rattle.kb_json.specs.declared.kind.Kind.TheVariants as kinds
use Rattle.kb_json.specs.declared.member.Member.{Member}
use Rattle.kb_json.specs.declared.member.Member.TheVariants as member
use Rattle.kb_json.specs.declared.request.What.{What}
use Rattle.kb_json.specs.declared.request.What.TheVariants as what
use Rattle.kb_json.specs.Values.{name_in, currency_in, period_in, scope_in, day_in, bcd_in, amount_in}
use Rattle.kb_json.specs.Values.{invoice_in}
use Rattle.kb_json.specs.Wrongs.{value_at}

-- the value at a member, if it is there
abbrev pub found : {A : Type 0} → (Data → Option A) → Members → Member → Option A
found reads object member = option_and_then reads (value_at object member)

-- the value at a member, or another one where it isn't there. For the members that a request has to have the
-- other one never counts, since nothing is missing
abbrev pub found_or : {A : Type 0} → A → (Data → Option A) → Members → Member → A
found_or other reads object member = unwrap_or (found reads object member) other

-- a name: the price list DEFAULT where it is missing
abbrev pub name_at : Members → Member → List ℕ
name_at = found_or (codes "DEFAULT") name_in

-- true or false: false where it is missing
abbrev pub truth_at : Members → Member → Bool
truth_at = found_or false as_bool

-- a day and an amount that may be missing
abbrev pub day_at : Members → Member → Option ℕ
day_at = found day_in

abbrev pub amount_if : Members → Member → Option ℕ
amount_if = found amount_in

-- the values of members that are always there
abbrev pub currency_at : Members → Member → List ℕ
currency_at = found_or (codes "XXX") currency_in

abbrev pub period_at : Members → Member → Period
period_at = found_or NoBillingPeriod period_in

abbrev pub scope_at : Members → Member → BlockScope
scope_at = found_or scope.Account scope_in

abbrev pub bcd_at : Members → Member → ℕ
bcd_at = found_or 1 bcd_in

abbrev pub amount_at : Members → Member → ℕ
amount_at = found_or 1 amount_in

abbrev pub invoice_at : Members → Member → ℕ
invoice_at = found_or 1 invoice_in

abbrev pub text_at : Members → Member → List ℕ
text_at = found_or [] as_str

-- what a blocking state turns on
abbrev pub flags_at : Members → Flags
flags_at object = record {
  change = truth_at object member.Change;
  entitlement = truth_at object member.Entitlement;
  billing = truth_at object member.Billing;
}

-- the fault of a text, as that of the request; want of memory is want of memory
abbrev pub text_fault : TextFault → RequestFault
text_fault texts.NotToml = faults.Text texts.NotToml
text_fault (texts.Missing key) = faults.Text (texts.Missing key)
text_fault (texts.WrongKind key) = faults.Text (texts.WrongKind key)
text_fault (texts.Unknown key) = faults.Text (texts.Unknown key)
text_fault (texts.Rule rule index) = faults.Text (texts.Rule rule index)
text_fault texts.Memory = faults.NoMemory
text_fault (texts.TooLong count) = faults.Text (texts.TooLong count)

-- a command
abbrev pub command_asked : Command → Result What RequestFault
command_asked command = Ok (what.Command command)

-- an action on the account, under the key, that the object names
abbrev pub act_asked : Members → Action → Result What RequestFault
act_asked object action =
    command_asked (commands.Act (name_at object member.Account) (name_at object member.Key) action)

-- a query
abbrev pub query_asked : Query → Result What RequestFault
query_asked query = Ok (what.Query query)

-- a text that is handed in, as it is read, or its fault
abbrev pub catalog_of : List ℕ → List ℕ → Result Version TextFault → Result What RequestFault
catalog_of key text (Ok version) =
    command_asked (commands.Catalog (record { key = key; text = record { text = text; version = version } }))
catalog_of key text (Err fault) = Err (text_fault fault)

abbrev pub catalog_asked : Members → Result What RequestFault
catalog_asked object = catalog_of (name_at object member.Key) (text_at object member.Text)
    (catalog_read (text_at object member.Text))

abbrev pub overdue_of : List ℕ → List ℕ → Result (List OverdueState) TextFault → Result What RequestFault
overdue_of key text (Ok states) =
    command_asked (commands.OverdueRules (record {
      key = key;
      text =
          record { text = text; states = states };
    }))
overdue_of key text (Err fault) = Err (text_fault fault)

abbrev pub overdue_asked : Members → Result What RequestFault
overdue_asked object = overdue_of (name_at object member.Key) (text_at object member.Text)
    (overdue_read (text_at object member.Text))

-- an account that is opened
abbrev pub open_at : Members → OpenAccount
open_at object = record {
  currency = currency_at object member.Currency;
  bcd = bcd_at object member.Bcd;
  autopay = truth_at object member.Autopay;
}

-- a subscription that is begun
abbrev pub create_at : Members → Create
create_at object = record {
  bundle = name_at object member.Bundle;
  subscription = name_at object member.Subscription;
  product = name_at object member.Product;
  period = period_at object member.Period;
  list = name_at object member.List;
  day = day_at object member.Day;
}

-- a change of a subscription
abbrev pub change_at : Members → Change
change_at object = record {
  subscription = name_at object member.Subscription;
  product = name_at object member.Product;
  period = period_at object member.Period;
  list = name_at object member.List;
  day = day_at object member.Day;
}

-- a cancellation
abbrev pub cancel_at : Members → Cancel
cancel_at object = record {
  subscription = name_at object member.Subscription;
  day = day_at object member.Day;
}

-- a cancellation that is taken back
abbrev pub uncancel_at : Members → Uncancel
uncancel_at object = record {
  subscription = name_at object member.Subscription;
}

-- a pause of a bundle, and its end
abbrev pub pause_at : Members → Pause
pause_at object = record {
  bundle = name_at object member.Bundle;
  day = day_at object member.Day;
}

abbrev pub resume_at : Members → Resume
resume_at object = record {
  bundle = name_at object member.Bundle;
  day = day_at object member.Day;
}

-- a blocking state
abbrev pub block_at : Members → Block
block_at object = record {
  scope = scope_at object member.Scope;
  target = name_at object member.Target;
  service = name_at object member.Service;
  state = name_at object member.State;
  day = day_at object member.Day;
  flags = flags_at object;
}

-- the billing of what is due
abbrev pub bill_at : Members → Bill
bill_at object = record {
  day = day_at object member.Day;
}

-- a charge and a credit
abbrev pub charge_at : Members → Charge
charge_at object = record {
  amount = amount_at object member.Amount;
}

abbrev pub credit_at : Members → Credit
credit_at object = record {
  amount = amount_at object member.Amount;
}

-- a payment
abbrev pub pay_at : Members → Pay
pay_at object = record {
  payment = name_at object member.Payment;
  invoice = invoice_at object member.Invoice;
  amount = amount_if object member.Amount;
}

-- a refund and a chargeback
abbrev pub refund_at : Members → Refund
refund_at object = record {
  payment = name_at object member.Payment;
  of = name_at object member.Of;
  amount = amount_at object member.Amount;
}

abbrev pub chargeback_at : Members → Chargeback
chargeback_at object = record {
  payment = name_at object member.Payment;
  of = name_at object member.Of;
  amount = amount_at object member.Amount;
}

-- the switch of automatic payment
abbrev pub autopay_at : Members → Autopay
autopay_at object = record {
  on = truth_at object member.On;
}

-- what is shown
abbrev pub account_query : Members → Query
account_query object = queries.Account (name_at object member.Account)

abbrev pub invoice_query : Members → Query
invoice_query object = queries.Invoice (name_at object member.Account) (invoice_at object member.Invoice)

abbrev pub payment_query : Members → Query
payment_query object = queries.Payment (name_at object member.Account) (name_at object member.Payment)

abbrev pub subscription_query : Members → Query
subscription_query object = queries.Subscription (name_at object member.Account)
    (name_at object member.Subscription) (day_at object member.Day)

-- what a request of a kind asks for
unfoldable pub asked : Kind → Members → Result What RequestFault
asked kinds.Catalog object = catalog_asked object
asked kinds.OverdueRules object = overdue_asked object
asked kinds.OpenAccount object = act_asked object (actions.OpenAccount (open_at object))
asked kinds.Create object = act_asked object (actions.Create (create_at object))
asked kinds.Change object = act_asked object (actions.Change (change_at object))
asked kinds.Cancel object = act_asked object (actions.Cancel (cancel_at object))
asked kinds.Uncancel object = act_asked object (actions.Uncancel (uncancel_at object))
asked kinds.Pause object = act_asked object (actions.Pause (pause_at object))
asked kinds.Resume object = act_asked object (actions.Resume (resume_at object))
asked kinds.Block object = act_asked object (actions.Block (block_at object))
asked kinds.Bill object = act_asked object (actions.Bill (bill_at object))
asked kinds.Charge object = act_asked object (actions.Charge (charge_at object))
asked kinds.Credit object = act_asked object (actions.Credit (credit_at object))
asked kinds.Pay object = act_asked object (actions.Pay (pay_at object))
asked kinds.Refund object = act_asked object (actions.Refund (refund_at object))
asked kinds.Chargeback object = act_asked object (actions.Chargeback (chargeback_at object))
asked kinds.Autopay object = act_asked object (actions.Autopay (autopay_at object))
asked kinds.Janitor object = Ok what.Janitor
asked kinds.Account object = query_asked (account_query object)
asked kinds.Invoice object = query_asked (invoice_query object)
asked kinds.Payment object = query_asked (payment_query object)
asked kinds.Subscription object = query_asked (subscription_query object)

-- what a call read is what a definition says, unless memory ran out
abbrev pub IsAsked : {A : Type 0} → Result A RequestFault → Result A RequestFault → Type 0
IsAsked (Ok value) wanted = wanted ≡ Ok value
IsAsked (Err fault) wanted = (fault ≡ faults.NoMemory → ⊥) → wanted ≡ Err fault
