use Rattle.std.proofs.Common.{ap, ◌∙◌, [], ◌∷◌, ◌++◌}
use Rattle.kb_book.specs.declared.reply.LaneReply.TheVariants as replies
use Rattle.kb_codec.specs.Entries.{Entry}
use Rattle.kb_machine.specs.Machines.{with_book}
use Rattle.kb_machine.specs.Plans.{changed, change_reply}
use Rattle.kb_lane.proofs.Grows.{grows}
use Rattle.kb_lane.proofs.replayed.Replayed.perform.Goals as goal

pub invariant_of-self : goal.invariant_of-self
invariant_of-self c =
    let before = c.self.inside in
    let change = c.in-Ok-Change.change in
    let after = changed before.machine change in
    let new = rw c.in-Ok-Change.field-0-is at c.in-Ok-Change.ensures.judged in
    let grown = grows before.machine after before.history c.args.today c.args.command.now
    (change_reply change)
    c.args.bytes.now before.place c.in-Some.next c.self.invariant new
    c.requires.payload c.in-Some.ensures.1 in
    rw c.commit.ensures.machine (rw c.note.ensures grown)

pub invariant_of-self-in-Ok-Opened : goal.invariant_of-self-in-Ok-Opened
invariant_of-self-in-Ok-Opened c =
    let before = c.self.inside in
    let opened = c.in-Ok-Opened.opened in
    let after = with_book before.machine opened.account opened.book in
    let new = rw c.in-Ok-Opened.field-0-is at c.in-Ok-Opened.ensures.judged in
    let grown = grows before.machine after before.history c.args.today c.args.command.now
    (replies.Accepted opened.answer) c.args.bytes.now before.place c.in-Some.next c.self.invariant
    new c.requires.payload c.in-Some.ensures.1 in
    rw c.in_ok-open-in-Ok-Opened.ensures.ok (rw c.note-in-Ok-Opened.ensures grown)

pub returns-in-Ok-Change : goal.returns-in-Ok-Change
returns-in-Ok-Change c =
    let entry : Entry = (c.args.today, c.args.command.now) in
    let grown = c.note.ensures ∙ ap (λ past. past ++ entry ∷ []) c.self.view_is in
    (entry, c.requires.payload, grown)

pub returns-in_ok-open-in-Ok-Opened : goal.returns-in_ok-open-in-Ok-Opened
returns-in_ok-open-in-Ok-Opened c =
    let entry : Entry = (c.args.today, c.args.command.now) in
    let grown = c.note-in-Ok-Opened.ensures ∙ ap (λ past. past ++ entry ∷ []) c.self.view_is in
    (entry, c.requires.payload, grown)
