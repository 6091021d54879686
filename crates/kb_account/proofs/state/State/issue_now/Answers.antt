-- The numbers of all items are below the next one, and nothing is issued for a book that is billed.
use Rattle.kb_account.specs.Private.States.{value_of}
use Rattle.kb_account.proofs.LeftDues.{none-of}
use Rattle.kb_account.proofs.state.State.issue_now.Goals as goal

pub issue_all-requires-clause-below : goal.issue_all-requires-clause-below
issue_all-requires-clause-below c =
    rw (c.items-first.ensures, c.as_slice.ensures.value, c.deref.ensures) c.requires.sound.below

pub returns-then-billed : goal.returns-then-billed
returns-then-billed c =
    none-of c.args.world.now (value_of c.args.self.now) c.in_ok-none.none (c.requires.known c.if-billed.true)
    c.in_ok-none.ensures.lines c.in_ok-none.ensures.charges
