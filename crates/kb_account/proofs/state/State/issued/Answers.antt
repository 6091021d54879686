-- The book after an accepted command, and that it is sound.
use Rattle.std.proofs.Common.{◌≡◌, ◌++◌, ◌∙◌, arith}
use Rattle.std.specs.FinMap.{entries}
use Rattle.kb_days.specs.Calendar.{first_day, charged_days}
use Rattle.kb_tree.specs.IssueValues.{issue_of}
use Rattle.kb_book.specs.Steps.{accepted_over}
use Rattle.kb_book.specs.Commands.{own_lines}
use Rattle.kb_account.specs.Private.States.{value_of}
use Rattle.kb_account.specs.Private.Begins.{begun_of}
use Rattle.kb_account.proofs.BegunNexts.{all-plain, all-few, all-small, all-room}
use Rattle.kb_account.proofs.NextBooks.{next-made, lines-plain}
use Rattle.kb_account.proofs.SoundNexts.{next-sound}
use Rattle.kb_account.proofs.state.State.issued.Goals as goal

pub invoices_after-requires-clause-plain : goal.invoices_after-requires-clause-plain
invoices_after-requires-clause-plain c =
    let told = c.as_slice-told.result.now in
    let whole : told ≡ c.args.issue.lines.items ++ own_lines c.args.command.now =
    c.as_slice-told.ensures.value ∙ c.in_ok-lines.ensures in
    let plain = all-plain c.args.world.now (value_of c.args.self.now) c.args.today c.args.command.now
    c.args.issue.lines.items told c.requires.accepted c.requires.issue.plain whole in
    lines-plain told plain

pub invoices_after-requires-clause-totals : goal.invoices_after-requires-clause-totals
invoices_after-requires-clause-totals c =
    let told = c.as_slice-told.result.now in
    let whole : told ≡ c.args.issue.lines.items ++ own_lines c.args.command.now =
    c.as_slice-told.ensures.value ∙ c.in_ok-lines.ensures in
    let plain = all-plain c.args.world.now (value_of c.args.self.now) c.args.today c.args.command.now
    c.args.issue.lines.items told c.requires.accepted c.requires.issue.plain whole in
    let few = all-few c.args.command.now c.args.issue.lines.items told c.requires.issue.few whole in
    all-room (value_of c.args.self.now) told c.requires.sound (omega (arith, c.requires.few))
    (all-small told plain few)

pub answer-answer-requires-clause-bounded : goal.answer-answer-requires-clause-bounded
answer-answer-requires-clause-bounded c =
    let told = c.as_slice-told.result.now in
    let whole : told ≡ c.args.issue.lines.items ++ own_lines c.args.command.now =
    c.as_slice-told.ensures.value ∙ c.in_ok-lines.ensures in
    let plain = all-plain c.args.world.now (value_of c.args.self.now) c.args.today c.args.command.now
    c.args.issue.lines.items told c.requires.accepted c.requires.issue.plain whole in
    let few = all-few c.args.command.now c.args.issue.lines.items told c.requires.issue.few whole in
    omega (arith, all-small told plain few)

-- the book and the answer
is_next : (c : goal.After-next_state-state)
    → accepted_over c.args.world.now (value_of c.args.self.now) c.args.today c.args.command.now
    first_day charged_days
    ≡ (c.answer-answer.result, value_of c.next_state-state.result)
is_next c =
    let book = value_of c.args.self.now in
    let told = c.as_slice-told.result.now in
    next-made c.args.world.now book (begun_of book c.args.edit)
    (value_of c.next_state-state.result) c.args.today
    c.args.command.now
    (issue_of c.args.issue) told
    c.args.edit.moved c.in_ok-invoices.invoices c.answer-answer.result (entries c.in_ok-kept.kept)
    c.requires.sound.noted
    c.requires.sound.invoiced c.requires.begun c.requires.edit.moved c.requires.issue.over
    (c.as_slice-told.ensures.value ∙ c.in_ok-lines.ensures) c.in_ok-invoices.ensures.after
    c.answer-answer.ensures
    c.in_ok-kept.ensures c.next_state-state.ensures

pub invariant_of-result : goal.invariant_of-result
invariant_of-result c =
    let book = value_of c.args.self.now in
    let told = c.as_slice-told.result.now in
    let whole : told ≡ c.args.issue.lines.items ++ own_lines c.args.command.now =
    c.as_slice-told.ensures.value ∙ c.in_ok-lines.ensures in
    let plain = all-plain c.args.world.now (value_of c.args.self.now) c.args.today c.args.command.now
    c.args.issue.lines.items told c.requires.accepted c.requires.issue.plain whole in
    let few = all-few c.args.command.now c.args.issue.lines.items told c.requires.issue.few whole in
    next-sound c.args.world.now book (begun_of book c.args.edit)
    (value_of c.next_state-state.result) c.args.today
    c.args.command.now
    (issue_of c.args.issue) told
    c.args.edit.moved c.answer-answer.result c.requires.sound (omega (arith, c.requires.few))
    c.requires.accepted c.requires.begun
    c.requires.edit.moved c.requires.issue.over whole plain few (is_next c)

pub returns : goal.returns
returns c =
    let book = value_of c.args.self.now in
    let told = c.as_slice-told.result.now in
    next-made c.args.world.now book (begun_of book c.args.edit)
    (value_of c.next_state-state.result) c.args.today
    c.args.command.now
    (issue_of c.args.issue) told
    c.args.edit.moved c.in_ok-invoices.invoices c.answer-answer.result (entries c.in_ok-kept.kept)
    c.requires.sound.noted
    c.requires.sound.invoiced c.requires.begun c.requires.edit.moved c.requires.issue.over
    (c.as_slice-told.ensures.value ∙ c.in_ok-lines.ensures) c.in_ok-invoices.ensures.after
    c.answer-answer.ensures
    c.in_ok-kept.ensures c.next_state-state.ensures
