-- The order for a payment, and how its answer settles it.
use Rattle.std.specs.Prelude.{ℕ, ◌≡◌, List, Option, None, Some, Result, Ok, Err, codes, refl}
use Rattle.kb_base.specs.declared.fault.Failed.{Failed}
use Rattle.kb_payment.specs.declared.attempt.Attempt.{Attempt}
use Rattle.kb_payment.specs.declared.attempt.Status.{Status}
use Rattle.kb_payment.specs.declared.attempt.Status.TheVariants as status
use Rattle.kb_payment.specs.PaymentSums.{attempt_of}
use Rattle.kb_gateway.specs.declared.order.Order.{Order}
use Rattle.kb_gateway.specs.declared.told.Told.{Told}
use Rattle.kb_gateway.specs.declared.told.Told.TheVariants as told
use Rattle.kb_gateway.specs.Answers.{status_of}
use Rattle.kb_gateway.specs.GatewayIds.{uuid_of, payment_text}
use Rattle.kb_codec.specs.declared.command.Command.{Command}
use Rattle.kb_codec.specs.declared.command.Command.TheVariants as kinds
use Rattle.kb_book.specs.Books.{BookValue}
use Rattle.kb_machine.specs.Machines.{MachineValue, book_of}

-- the order for an attempt of an account, if both are there
abbrev pub order_for : List ℕ → List ℕ → BookValue → Option Attempt → Option Order
order_for account key book None = None
order_for account key book (Some attempt) = Some (record {
  account = account;
  key = key;
  id = uuid_of (payment_text account key);
  kind = attempt.kind;
  amount = attempt.amount;
  currency = book.currency;
})

abbrev pub order_in : List ℕ → List ℕ → Option BookValue → Option Order
order_in account key None = None
order_in account key (Some book) = order_for account key book (attempt_of book.payments key)

abbrev pub order_of : MachineValue → List ℕ → List ℕ → Option Order
order_of machine account key = order_in account key (book_of machine account)

-- the settlement of an attempt to a status, unless that is unknown
abbrev pub settlement : List ℕ → List ℕ → Status → Option Command
settlement account key status.Unknown = None
settlement account key status =
    Some (kinds.Settle (record { account = account; payment = key; status = status }))

-- the settlement of an attempt by what its gateway answered: none if it failed or can't say
abbrev pub settled_by : List ℕ → List ℕ → Result Told Failed → Option Command
settled_by account key (Ok answer) = settlement account key (status_of answer)
settled_by account key (Err failed) = None

a_payment_that_went_through : settled_by (codes "a1") (codes "p1") (Ok told.Processed)
    ≡ Some (kinds.Settle (record { account = codes "a1"; payment = codes "p1"; status = status.Success }))
a_payment_that_went_through = refl

one_that_is_not_known : settled_by (codes "a1") (codes "p1") (Ok told.Undefined) ≡ None
one_that_is_not_known = refl
