-- The account is there, and its new book is billed.
use Rattle.std.proofs.Common.{refl, sym, subst}
use Rattle.kb_book.specs.Worlds.{WorldValue}
use Rattle.kb_account.specs.declared.next.Prepared.{Prepared}
use Rattle.kb_account.specs.Prepares.{IfNew}
use Rattle.kb_book.specs.BilledBooks.{IsBilled}
use Rattle.kb_machine.proofs.machine.planned_on.Goals as goal

pub returns-in-Next-clause-fits : goal.returns-in-Next-clause-fits
returns-in-Next-clause-fits c machine same there = (
  rw there refl,
  subst (λ (world : WorldValue). IsBilled world c.in-Next.next.book) (sym same)
      (subst (λ (prepared : Prepared). IfNew (λ book answer. IsBilled c.args.world.now book) prepared)
      c.in-Next.is c.in_ok-next.ensures.billed),
)
