use Rattle.std.proofs.Common.{◌≡◌, is_err, inr, sym, subst}
use Rattle.kb_disk.specs.Memory.{LogValue, bytes_after_note, bytes_after, IsImage}
use Rattle.kb_disk.specs.Private.Calls.{Steps}
use Rattle.kb_disk.specs.Private.Replays.{bytes_noted, images_noted, sync_succeeds}
use Rattle.kb_disk.proofs.log.Log.note.Goals as goal

pub returns-clause-bytes : goal.returns-clause-bytes
returns-clause-bytes c first =
    subst (λ (log : LogValue). bytes_after first log.notes
    ≡ bytes_after_note (bytes_after first c.args.self.now.notes)
    (record { call = c.args.call; failed = is_err c.push.result }))
    (sym c.push.ensures.noted)
    (bytes_noted first c.args.self.now c.args.call (is_err c.push.result) c.push.new.self.lost
    (λ lost. c.push.ensures.fails.1 (inr lost)))

pub returns-clause-crash : goal.returns-clause-crash
returns-clause-crash c first =
    subst
    (λ (log : LogValue). Steps c.args.call (IsImage first c.args.self.now.notes)
    (IsImage first log.notes))
    (sym c.push.ensures.noted)
    (images_noted first c.args.self.now c.args.call (is_err c.push.result) c.push.new.self.lost)

pub returns-clause-durable : goal.returns-clause-durable
returns-clause-durable c first =
    sync_succeeds first c.args.self.now c.push.new.self c.args.call c.push.result c.push.new.self.lost
    c.push.ensures.noted (λ lost. c.push.ensures.fails.1 (inr lost))
