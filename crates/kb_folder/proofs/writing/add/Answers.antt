use Rattle.std.proofs.Common.{◌≡◌, true, Err, length, ap, ◌∙◌}
use Rattle.kb_folder.proofs.Rooms.{has_room}
use Rattle.kb_folder.proofs.writing.add.Goals as goal

pub unreachable-requires : goal.unreachable-requires
unreachable-requires g c =
    let told = (c.append.ensures.stopped c.in-Err-Stopped.field-0-0).0
    (c.in-Err-Stopped.is ∙ ap Err c.in-Err-Stopped.field-0-is) in
    let running = c.requires.running in
    let stopped : c.args.journal.now.stopped ≡ true = told.0 in cc

pub unreachable-requires-in-Err-Full : goal.unreachable-requires-in-Err-Full
unreachable-requires-in-Err-Full g c =
    let told = (c.append.ensures.full c.in-Err-Full.field-0-0 c.in-Err-Full.field-0-1).0
    (c.in-Err-Full.is ∙ ap Err c.in-Err-Full.field-0-is) in
    has_room c.args.journal.now (length c.args.bytes.now) c.requires.few c.requires.short
    c.requires.sized.few told.1
