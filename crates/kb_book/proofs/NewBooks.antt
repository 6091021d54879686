-- The book of a new account is sound and billed, and stays so as it is opened.
use Rattle.std.proofs.Common.{◌≤◌, ℕ, Bool, List, pos, ◌≤ℤ◌, refl, arith}
use Rattle.std.proofs.lemmas.List.Elements.{All-nil}
use Rattle.kb_days.specs.Calendar.{first_day, charged_days}
use Rattle.kb_credit.specs.declared.row.Row.{Row}
use Rattle.kb_credit.specs.InvoiceRows.{balance_of}
use Rattle.kb_payment.specs.declared.attempt.Attempt.{Attempt}
use Rattle.kb_codec.specs.declared.command.Command.TheVariants as kinds
use Rattle.kb_codec.specs.declared.action.Action.TheVariants as actions
use Rattle.kb_codec.specs.declared.action.OpenAccount.{OpenAccount}
use Rattle.kb_tree.specs.Numbers.{AreBelow}
use Rattle.kb_book.specs.Worlds.{WorldValue}
use Rattle.kb_book.specs.Books.{BookValue, new_book}
use Rattle.kb_book.specs.Steps.{accepted_over}
use Rattle.kb_book.specs.OwnKeys.{IsOwned}
use Rattle.kb_book.specs.SoundBooks.{IsBook}
use Rattle.kb_book.specs.BilledBooks.{IsBilled, IsEven}

module _ (account currency : List ℕ) (bcd : ℕ) (autopay : Bool) where
  -- the book before the account is opened
  abbrev opening : BookValue
  opening = new_book account currency bcd autopay

  -- once it is opened
  pub opened-billed : (world : WorldValue) (today : ℕ) (key : List ℕ) (c : OpenAccount)
      → IsBilled world (accepted_over world opening today (kinds.Act account key (actions.OpenAccount c))
      first_day charged_days).1
  opened-billed world today key c = record { days = tt; totals = refl }

  pub opened-sound : (world : WorldValue) (today : ℕ) (key : List ℕ) (c : OpenAccount)
      → IsBook (accepted_over world opening today (kinds.Act account key (actions.OpenAccount c))
      first_day charged_days).1
  opened-sound world today key c = record {
    billed = (world, opened-billed world today key c);
    matched = refl;
    below = All-nil (AreBelow 1);
    issued = omega arith;
    totals = omega arith;
    paid = omega arith;
    beside = omega arith;
    noted = refl;
    few = omega arith;
    credited = refl;
    owed = refl;
    levelled = All-nil (λ (row : Row). pos 0 ≤ℤ balance_of row);
    owned = All-nil (λ (entry : List ℕ × Attempt). IsOwned entry.0 entry.1);
    invoiced = All-nil (λ (entry : List ℕ × Attempt). entry.1.invoice ≤ 0);
  }

  pub opened-even : (world : WorldValue) (today : ℕ) (key : List ℕ) (c : OpenAccount)
      → IsEven world (accepted_over world opening today (kinds.Act account key (actions.OpenAccount c))
      first_day charged_days).1
  opened-even world today key c = record { credit = refl; unpaid = refl }
