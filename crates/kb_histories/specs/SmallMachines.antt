-- Examples: an account with an invoice of 1000, of which a payment is begun and settled.
use Rattle.std.specs.Prelude.{Bool, false, [], ◌∷◌, codes, None, pos}
use Rattle.kb_days.specs.Dates.{march}
use Rattle.kb_payment.specs.declared.attempt.Attempt.{Attempt}
use Rattle.kb_payment.specs.declared.attempt.Status.{Status}
use Rattle.kb_payment.specs.PaymentEdits.{purchase_of}
use Rattle.kb_codec.specs.declared.command.Command.{Command}
use Rattle.kb_codec.specs.declared.command.Command.TheVariants as kinds
use Rattle.kb_codec.specs.declared.action.Action.TheVariants as actions
use Rattle.kb_book.specs.Books.{BookValue, new_book}
use Rattle.kb_machine.specs.Texts.{no_texts}
use Rattle.kb_machine.specs.Machines.{MachineValue}

-- the account a1 owes 1000 on its first invoice, and may have it paid automatically
abbrev pub owing_book : Bool → BookValue
owing_book autopay = record (new_book (codes "a1") (codes "USD") 1 autopay) {
  invoices = record {
    rows = record { day = march 1; total = pos 1000; adjusted = pos 0; paid = pos 0 } ∷ [];
    items = [];
  };
}

abbrev pub machine_with : BookValue → MachineValue
machine_with book = record { texts = no_texts; books = (book.account, book) ∷ [] }

abbrev pub owing : MachineValue
owing = machine_with (owing_book false)

-- it is to be paid by the payment p1
abbrev pub pay_p1 : Command
pay_p1 = kinds.Act (codes "a1") (codes "k1") (actions.Pay (record {
  payment = codes "p1";
  invoice = 1;
  amount = None;
}))

-- the attempt at that
abbrev pub p1_begun : Attempt
p1_begun = purchase_of 1 1000 (march 2) false

-- its settlement
abbrev pub settle_p1 : Status → Command
settle_p1 status = kinds.Settle (record { account = codes "a1"; payment = codes "p1"; status = status })
