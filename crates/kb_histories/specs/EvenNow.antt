-- Credit is exactly by how much payments exceed charges, by the texts of now.
use Rattle.std.specs.Prelude.{ℕ, ◌≡◌, false, List, [], ◌∷◌, Option, None, Some, codes, ℤ, pos, refl}
use Rattle.kb_days.specs.Dates.{march}
use Rattle.kb_credit.specs.InvoiceRows.{credit}
use Rattle.kb_payment.specs.declared.attempt.Status.TheVariants.{Success}
use Rattle.kb_codec.specs.declared.command.Command.{Command}
use Rattle.kb_codec.specs.declared.command.Command.TheVariants as kinds
use Rattle.kb_codec.specs.declared.action.Action.TheVariants as actions
use Rattle.kb_book.specs.Books.{BookValue}
use Rattle.kb_book.specs.Dues.{charged_by}
use Rattle.kb_book.specs.Steps.{step}
use Rattle.kb_book.specs.BilledBooks.{IsEven, paid_in}
use Rattle.kb_codec.specs.Entries.{History}
use Rattle.kb_machine.specs.Judged.{after_judged}
use Rattle.kb_machine.specs.Machines.{MachineValue, book_of, judged}
use Rattle.kb_machine.specs.Histories.{replay}
use Rattle.kb_histories.specs.SmallMachines.{settle_p1}
use Rattle.kb_histories.specs.BilledMachines.{AreBilled}
use Rattle.kb_histories.specs.HeldMachines.{HasAllPlans}
use Rattle.kb_histories.specs.BilledNow.{AreBilledNow}

-- of each account, credit is by how much its payments exceed all that it is charged by the texts of now, and
-- what is unpaid by how much that exceeds its payments
pub record AreEvenNow (machine : MachineValue) : Type 0 where
  pub even : (account : List ℕ) (book : BookValue) → book_of machine account ≡ Some book
      → IsEven machine.texts.world book

-- it stays so after each command, where accounts are billed by the texts of now
abbrev pub BooksStayEvenNow : Type 0
BooksStayEvenNow = (machine : MachineValue) (today : ℕ) (command : Command) → AreBilled machine
    → HasAllPlans machine → AreBilledNow machine → AreEvenNow machine
    → AreEvenNow (after_judged machine (judged machine today command))

-- so it holds of what each history leads to
abbrev pub ReplaysAreEvenNow : Type 0
ReplaysAreEvenNow = (history : History) → AreEvenNow (replay history)

-- a1 is opened, charged 1000, pays that, and is credited 400 of it later
abbrev opened : Command
opened = kinds.Act (codes "a1") (codes "k1") (actions.OpenAccount (record {
  currency = codes "USD";
  bcd = 1;
  autopay = false;
}))

abbrev charge : Command
charge = kinds.Act (codes "a1") (codes "k2") (actions.Charge (record { amount = 1000 }))

abbrev pay : Command
pay = kinds.Act (codes "a1") (codes "k3") (actions.Pay (record {
  payment = codes "p1";
  invoice = 1;
  amount = None;
}))

abbrev give_back : Command
give_back = kinds.Act (codes "a1") (codes "k4") (actions.Credit (record { amount = 400 }))

abbrev pub credited_late : History
credited_late = (march 1, opened) ∷ (march 1, charge) ∷ (march 2, pay) ∷ (march 2, settle_p1 Success)
    ∷ (march 3, give_back) ∷ []

-- what it has paid, what it is charged, and its credit
abbrev sums_of : MachineValue → Option BookValue → List ℤ
sums_of machine None = []
sums_of machine (Some book) =
    paid_in book ∷ charged_by machine.texts.world book ∷ credit book.invoices.rows ∷ []

four_hundred_is_credit : sums_of (replay credited_late) (book_of (replay credited_late) (codes "a1"))
    ≡ pos 1000 ∷ pos 600 ∷ pos 400 ∷ []
unfolding replay judged step
four_hundred_is_credit = refl
