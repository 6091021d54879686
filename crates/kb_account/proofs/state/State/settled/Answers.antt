-- The items that are due are those of the book as it stands.
use Rattle.kb_account.specs.Private.States.{value_of}
use Rattle.kb_account.specs.Private.Begins.{begun_of}
use Rattle.kb_account.proofs.SettledSteps.{issue-settled}
use Rattle.kb_account.proofs.state.State.settled.Goals as goal

pub issued-requires-clause-issue : goal.issued-requires-clause-issue
issued-requires-clause-issue c =
    issue-settled c.args.world.now (value_of c.args.self.now) c.args.today c.args.command.now
    c.requires.settlement
    (begun_of (value_of c.args.self.now) c.in_ok-begun.begun) c.args.issue.now c.in_ok-issue.issue
    c.in_ok-begun.ensures.begun c.in_ok-issue.ensures.lines c.in_ok-issue.ensures.charges c.requires.issue
