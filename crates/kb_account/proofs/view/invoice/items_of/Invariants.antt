-- The items so far and those of the places that are left are all.
use Rattle.kb_account.proofs.ShownItems.{AreShown}
use Rattle.kb_account.proofs.view.invoice.items_of.Given as goal

abbrev pub invariant-loop-place : goal.invariant-loop-place
invariant-loop-place l = AreShown l.timeline l.invoice l.place l.invoices.items l.items.items
