-- The account is there, and its book takes the settlement, and is billed.
use Rattle.std.proofs.Common.{rules, ◌≡◌, Ok, refl, subst}
use Rattle.kb_book.specs.BilledBooks.{IsBilled}
use Rattle.kb_book.specs.Steps.{step}
use Rattle.kb_machine.specs.Machines.{MachineValue}
use Rattle.kb_machine.proofs.Settled.{judged-settled}
use Rattle.kb_machine.proofs.machine.Machine.prepare_settlement.Goals as goal

pub returns-in-Ok-clause-judged : goal.returns-in-Ok-clause-judged
returns-in-Ok-clause-judged c =
    let book = c.args.due.now.book in
    let stepped : step c.args.self.now.texts.world book c.args.today c.args.command.now
    ≡ Ok (c.in-Ok.next.answer, c.in-Ok.next.book) = search rules in
    judged-settled c.args.self.now c.args.today c.args.command.now c.args.account book c.in-Ok.next.book
    c.in-Ok.next.answer c.requires.settlement c.requires.named c.requires.due.0 stepped

pub returns-in-Ok-clause-there : goal.returns-in-Ok-clause-there
returns-in-Ok-clause-there c = (
  rw c.requires.due.0 refl,
  subst (λ (machine : MachineValue). IsBilled machine.texts.world c.in-Ok.next.book) c.self.view_is
      c.in-Ok.ensures.billed,
)
