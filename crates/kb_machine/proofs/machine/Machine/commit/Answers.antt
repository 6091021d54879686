-- The account that changed is known to be billed.
use Rattle.std.proofs.Common.{sym, ap, subst}
use Rattle.kb_book.specs.Worlds.{WorldValue}
use Rattle.kb_book.specs.BilledBooks.{IsBilled}
use Rattle.kb_machine.specs.Machines.{MachineValue}
use Rattle.kb_machine.specs.Plans.{IsThere}
use Rattle.kb_machine.proofs.KnownBooks.{put-known}
use Rattle.kb_machine.proofs.machine.Machine.commit.Goals as goal

pub invariant_of-self-in-Book : goal.invariant_of-self-in-Book
invariant_of-self-in-Book c =
    let next = c.in-Book.next.book in
    let there = subst (IsThere c.args.self.now) c.in-Book.is c.requires.there in
    let billed = subst (λ (machine : MachineValue). IsBilled machine.texts.world next) (sym c.self.view_is)
    there.1 in
    let here = subst (λ (world : WorldValue). IsBilled world next) (sym (ap (λ inside. inside.world)
    c.self-inside.view_is)) billed in
    put-known _ c.in-Book.account next _ c.commit.new.self c.commit.ensures.book here
