use Rattle.std.proofs.Common.{List, ℕ, sym, subst}
use Rattle.kb_journal.specs.Reading.{IsNoJournal}
use Rattle.kb_journal.proofs.journal.Journal.load.Goals as goal

pub returns-in-Ok-read_contents-clause-exact : goal.returns-in-Ok-read_contents-clause-exact
returns-in-Ok-read_contents-clause-exact g c honest at is =
    let P : List ℕ → Type 0 = λ bytes. IsNoJournal c.args.lane bytes at in
    c.in-Ok-read_contents.ensures.exact at (subst P (sym (c.in-Ok.ensures.bytes honest)) is)

pub returns-in-Err-read_contents-clause-exact : goal.returns-in-Err-read_contents-clause-exact
returns-in-Err-read_contents-clause-exact g c honest at is =
    let P : List ℕ → Type 0 = λ bytes. IsNoJournal c.args.lane bytes at in
    c.in-Err-read_contents.ensures.exact at (subst P (sym (c.in-Ok.ensures.bytes honest)) is)
