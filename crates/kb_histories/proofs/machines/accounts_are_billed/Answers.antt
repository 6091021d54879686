use Rattle.kb_histories.proofs.BilledNow as laws
use Rattle.kb_histories.proofs.BoundedBooks.{no_invoice_is_due}
use Rattle.kb_histories.proofs.machines.accounts_are_billed.Goals as goal

pub returns : goal.returns
returns c = record {
  stay = laws.books_stay_billed_now;
  replayed = laws.replays_are_billed_now;
  none_due = no_invoice_is_due;
}
