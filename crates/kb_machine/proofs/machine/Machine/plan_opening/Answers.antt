use Rattle.std.proofs.Common.{◌<◌, length, sym, ◌∙◌, arith}
use Rattle.kb_machine.specs.Machines.{max_accounts}
use Rattle.kb_machine.proofs.Openings.{opened_account}
use Rattle.kb_machine.proofs.machine.Machine.plan_opening.Goals as goal

pub returns-clause-judged : goal.returns-clause-judged
returns-clause-judged c =
    let few : length c.args.self.now.books < max_accounts =
    rw (← c.self.view_is) (omega (arith, c.len.ensures.count)) in
    opened_account c.args.self.now c.args.today c.args.command.now c.args.account c.in_ok-book.answer
    c.in_ok-book.book (sym c.is_opening.ensures ∙ c.if-not-is_opening.false) c.requires.named
    c.requires.absent few
    (c.in_ok-book.ensures.first c.args.self.now.texts.world c.args.today)
