-- The payment attempts of accounts, and which commands begin or settle one.
use Rattle.std.specs.Prelude.{ℕ, ◌≡◌, Bool, true, false, ◌&&◌, bytes_eq, List, codes, Option, Some, None}
use Rattle.std.specs.Prelude.{refl}
use Rattle.kb_days.specs.Dates.{march}
use Rattle.kb_payment.specs.declared.attempt.Attempt.{Attempt}
use Rattle.kb_payment.specs.declared.attempt.Status.TheVariants.{Success}
use Rattle.kb_payment.specs.PaymentSums.{attempt_of}
use Rattle.kb_codec.specs.declared.command.Command.{Command}
use Rattle.kb_codec.specs.declared.command.Command.TheVariants as kinds
use Rattle.kb_codec.specs.declared.action.Action.TheVariants as actions
use Rattle.kb_book.specs.Books.{BookValue}
use Rattle.kb_book.specs.Edits.{auto_key}
use Rattle.kb_machine.specs.Machines.{MachineValue, book_of}
use Rattle.kb_histories.specs.SmallMachines.{owing, pay_p1, settle_p1}

-- the attempt of a payment key in a book; none without a book
abbrev pub attempt_in : List ℕ → Option BookValue → Option Attempt
attempt_in key None = None
attempt_in key (Some book) = attempt_of book.payments key

-- the attempt of a payment key of an account
abbrev pub attempt_at : MachineValue → List ℕ → List ℕ → Option Attempt
attempt_at machine account key = attempt_in key (book_of machine account)

none_at_first : attempt_at owing (codes "a1") (codes "p1") ≡ None
none_at_first = refl

-- the payment key under which a command of a day begins an attempt that the gateway is to be asked for
abbrev pub begun_key : ℕ → Command → Option (List ℕ)
begun_key today (kinds.Act account key (actions.Pay c)) = Some c.payment
begun_key today (kinds.Act account key (actions.Refund c)) = Some c.payment
begun_key today (kinds.Auto c) = Some (auto_key c.invoice today)
begun_key today _ = None

by_a_payment : begun_key (march 2) pay_p1 ≡ Some (codes "p1")
by_a_payment = refl

-- a command settles the attempt of a payment key of an account
abbrev pub settles : Command → List ℕ → List ℕ → Bool
settles (kinds.Settle c) account key = bytes_eq account c.account && bytes_eq key c.payment
settles _ account key = false

its_own : settles (settle_p1 Success) (codes "a1") (codes "p1") ≡ true
its_own = refl

of_another_account : settles (settle_p1 Success) (codes "a2") (codes "p1") ≡ false
of_another_account = refl
