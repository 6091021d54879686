-- What is due is looked at for the edited book, unless nothing is.
use Rattle.std.proofs.Common.{sym, ◌∙◌}
use Rattle.kb_account.specs.Private.States.{value_of}
use Rattle.kb_account.specs.Private.Begins.{begun_of}
use Rattle.kb_account.proofs.BegunNexts.{begun-matched, begun-below}
use Rattle.kb_account.proofs.LeftDues.{none-left}
use Rattle.kb_account.proofs.state.State.billed.Goals as goal

pub issue-requires-clause-matched : goal.issue-requires-clause-matched
issue-requires-clause-matched c =
    begun-matched c.args.world.now (value_of c.args.self.now)
    (begun_of (value_of c.args.self.now) c.args.edit)
    c.args.today c.args.command.now c.requires.sound c.requires.begun

pub issue-requires-clause-below : goal.issue-requires-clause-below
issue-requires-clause-below c =
    begun-below c.args.world.now (value_of c.args.self.now) (begun_of (value_of c.args.self.now) c.args.edit)
    c.args.today c.args.command.now c.requires.sound c.requires.begun

-- no item comes of a command that leaves what is due of a book that is billed
pub issued-requires-clause-issue : goal.issued-requires-clause-issue
issued-requires-clause-issue c =
    none-left c.args.world.now (value_of c.args.self.now)
    (begun_of (value_of c.args.self.now) c.args.edit)
    c.args.today c.args.command.now c.in_ok-none.none (c.requires.known c.if-billed.true)
    (sym c.leaves_due.ensures ∙ c.if-leaves_due.true) c.requires.begun c.in_ok-none.ensures.lines
    c.in_ok-none.ensures.charges
