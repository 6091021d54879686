-- The book of an account that is opened is what that command makes of a new one.
use Rattle.std.specs.Arc.{arc_value}
use Rattle.std.specs.FinMap.{entries}
use Rattle.std.proofs.Common.{◌∙◌}
use Rattle.kb_account.proofs.OpenedBooks.{opened-is, opened-command, opened-days, opened-credit}
use Rattle.kb_account.proofs.OpenedBooks.{opened-sound_book}
use Rattle.kb_account.proofs.book.opened.Goals as goal

pub returns : goal.returns
returns c =
    let asked = c.args.asked.now in
    let is = c.requires.opening in
    let answer = c.first_answer-answer.result in
    let made = opened-is c.args.command.now c.args.account c.args.key asked
    (arc_value c.in_ok-timeline.timeline)
    (arc_value c.in_ok-blocks.blocks)
    (arc_value c.in_ok-payments.payments) c.new-invoices.result (arc_value c.in_ok-charges.charges).items
    (entries c.in_ok-kept.kept) answer
    is (c.in_ok-timeline.ensures.ok ∙ c.new-no_timeline.ensures)
    (c.in_ok-blocks.ensures.ok ∙ c.new-no_blocks.ensures)
    (c.in_ok-payments.ensures.ok ∙ c.new-no_payments.ensures) c.new-invoices.ensures
    (rw c.in_ok-charges.ensures.ok c.new-no_charges.ensures.items)
    c.in_ok-kept.ensures c.first_answer-answer.ensures in
    record {
      first = opened-command c.args.command.now c.args.account c.args.key asked is _ answer made;
      billed = opened-days c.args.command.now c.args.account c.args.key asked is _ answer made;
      even = opened-credit c.args.command.now c.args.account c.args.key asked is _ answer made;
    }

pub invariant_of-result : goal.invariant_of-result
invariant_of-result c =
    let answer = c.first_answer-answer.result in
    let made = opened-is c.args.command.now c.args.account c.args.key c.args.asked.now
    (arc_value c.in_ok-timeline.timeline)
    (arc_value c.in_ok-blocks.blocks) (arc_value c.in_ok-payments.payments) c.new-invoices.result
    (arc_value c.in_ok-charges.charges).items (entries c.in_ok-kept.kept) answer c.requires.opening
    (c.in_ok-timeline.ensures.ok ∙ c.new-no_timeline.ensures)
    (c.in_ok-blocks.ensures.ok ∙ c.new-no_blocks.ensures)
    (c.in_ok-payments.ensures.ok ∙ c.new-no_payments.ensures) c.new-invoices.ensures
    (rw c.in_ok-charges.ensures.ok c.new-no_charges.ensures.items)
    c.in_ok-kept.ensures c.first_answer-answer.ensures in
    opened-sound_book c.args.account c.args.key c.args.asked.now _ answer made
