use Rattle.std.proofs.Common.{◌≡◌, false, refl, ap, ◌∙◌, ◌+◌, [], ◌∷◌, ◌++◌, length, Err, arith, length-append}
use Rattle.kb_journal.specs.declared.fault.AppendFault.TheVariants.{Stopped, Full, DiskFault}
use Rattle.kb_lane.proofs.Marks.{grown_log, marked_log}
use Rattle.kb_lane.proofs.Outcomes.{not_true, running, roomy, done_isnt, fault_isnt_stopped, fault_isnt_full}
use Rattle.kb_lane.proofs.Rooms.{full_journal, no_room}
use Rattle.kb_lane.proofs.log.Log.append.Goals as goal

pub invariant_of-self : goal.invariant_of-self
invariant_of-self g c =
    let runs : c.self.inside.journal.stopped ≡ false = running c.self.inside.journal.stopped
    c.self.inside.journal.count c.append.result c.append.ensures.stopped
    (done_isnt c.append.result c.in-Ok.number (Stopped c.self.inside.journal.count) c.in-Ok.is) in
    let still : c.append.new.self.stopped ≡ false = not_true c.append.new.self.stopped
    (λ now. done_isnt c.append.result c.in-Ok.number DiskFault c.in-Ok.is ((c.append.ensures.stops runs).0 now)) in
    rw c.note.ensures (
      omega (
        arith,
        c.in-Ok.ensures.number,
        c.self.invariant.1.counted,
        length-append c.self.inside.history ((c.args.today, c.args.command.now) ∷ []),
      ),
      grown_log g.D.Disk.told.honest g.D.Disk.told.seen g.D.Disk.told.images g.D.Disk.told.fault_count
          (record {
            journal = c.self.inside.journal;
            history = c.self.inside.history;
            failed = c.self.inside.failed;
            opened = c.self.inside.opened;
            faults = c.self.inside.faults;
          }) c.append.new.self (c.args.today, c.args.command.now) c.args.bytes.now c.self.invariant.1
          c.requires.payload runs still c.in-Ok.ensures.counted c.in-Ok.ensures.placed c.append.ensures.same.0
          c.append.ensures.same.1 c.append.ensures.honesty c.in-Ok.ensures.calm
          (λ records holds. rw c.in-Ok.is at c.append.ensures.acknowledged records holds),
    )

pub invariant_of-self-in-Err-DiskFault : goal.invariant_of-self-in-Err-DiskFault
invariant_of-self-in-Err-DiskFault g c =
    let is : c.append.result ≡ Err DiskFault = c.in-Err-DiskFault.is ∙ ap Err c.in-Err-DiskFault.field-0-is in
    let runs : c.self.inside.journal.stopped ≡ false = running c.self.inside.journal.stopped
    c.self.inside.journal.count c.append.result c.append.ensures.stopped
    (fault_isnt_stopped c.append.result c.self.inside.journal.count is) in (
      c.self.invariant.0,
      rw c.note-in-Err-DiskFault.ensures
          (marked_log g.D.Disk.told.honest g.D.Disk.told.seen g.D.Disk.told.images
          g.D.Disk.told.fault_count g.D.Disk.told.moment g.D.Disk.told.left_since g.met.D.Disk.counts_now
          (record {
            journal = c.self.inside.journal;
            history = c.self.inside.history;
            failed = c.self.inside.failed;
            opened = c.self.inside.opened;
            faults = c.self.inside.faults;
          }) c.append.new.self (c.args.today, c.args.command.now) c.args.bytes.now c.self.invariant.1
          c.requires.payload runs ((c.append.ensures.stops runs).1 is) c.in-Err-DiskFault.ensures.failed
          c.append.ensures.same.0
          c.append.ensures.same.1 c.append.ensures.honesty (c.append.ensures.cause is) c.append.ensures.rising
          c.append.ensures.moments),
    )

pub invariant_of-self-in-Err-Stopped : goal.invariant_of-self-in-Err-Stopped
invariant_of-self-in-Err-Stopped g c =
    let is : c.append.result ≡ Err (Stopped c.in-Err-Stopped.count) =
    c.in-Err-Stopped.is ∙ ap Err c.in-Err-Stopped.field-0-is in
    let still = c.append.ensures.untouched ((c.append.ensures.stopped c.in-Err-Stopped.count).0 is).0 in
    (c.self.invariant.0, rw still c.self.invariant.1)

pub invariant_of-self-in-Err-Full : goal.invariant_of-self-in-Err-Full
invariant_of-self-in-Err-Full g c =
    let is : c.append.result ≡ Err (Full c.in-Err-Full.commands c.in-Err-Full.size) =
    c.in-Err-Full.is ∙ ap Err c.in-Err-Full.field-0-is in
    let still = c.append.ensures.unfilled
    ((c.append.ensures.full c.in-Err-Full.commands c.in-Err-Full.size).0 is).1 in
    (c.self.invariant.0, rw still c.self.invariant.1)

pub returns-in-Err-DiskFault-clause-outcome : goal.returns-in-Err-DiskFault-clause-outcome
returns-in-Err-DiskFault-clause-outcome g c =
    let is : c.append.result ≡ Err DiskFault = c.in-Err-DiskFault.is ∙ ap Err c.in-Err-DiskFault.field-0-is in
    let runs : c.self.inside.journal.stopped ≡ false = running c.self.inside.journal.stopped
    c.self.inside.journal.count c.append.result c.append.ensures.stopped
    (fault_isnt_stopped c.append.result c.self.inside.journal.count is) in
    rw (← c.self.view_is) (
      (
        runs,
        λ none.
            roomy c.self.inside.journal.stopped c.self.inside.journal.count (c.self.inside.journal.gate + 1)
            c.append.result c.append.ensures.full
            (fault_isnt_full c.append.result c.self.inside.journal.count (c.self.inside.journal.gate + 1) is)
            runs
            (full_journal (record {
              journal = c.self.inside.journal;
              history = c.self.inside.history;
              failed = c.self.inside.failed;
              opened = c.self.inside.opened;
              faults = c.self.inside.faults;
            }) (length c.args.bytes.now) c.self.invariant.1.counted (c.self.invariant.1.measured runs) none),
      ),
      (c.append.ensures.stops runs).1 is,
      refl,
      c.note-in-Err-DiskFault.ensures
          ∙ ap (λ failed. failed ++ (c.args.today, c.args.command.now) ∷ [])
          (c.self.invariant.1.unmarked runs),
      c.append.ensures.cause is,
    )

pub returns-in-Err-Stopped-clause-outcome : goal.returns-in-Err-Stopped-clause-outcome
returns-in-Err-Stopped-clause-outcome g c =
    let is : c.append.result ≡ Err (Stopped c.in-Err-Stopped.count) =
    c.in-Err-Stopped.is ∙ ap Err c.in-Err-Stopped.field-0-is in
    let told = (c.append.ensures.stopped c.in-Err-Stopped.count).0 is in
    let still = c.append.ensures.untouched told.0 in
    rw (← c.self.view_is) (told.0, told.1 ∙ c.self.invariant.1.counted, rw still refl)

pub returns-in-Err-Full-clause-outcome : goal.returns-in-Err-Full-clause-outcome
returns-in-Err-Full-clause-outcome g c =
    let is : c.append.result ≡ Err (Full c.in-Err-Full.commands c.in-Err-Full.size) =
    c.in-Err-Full.is ∙ ap Err c.in-Err-Full.field-0-is in
    let told = (c.append.ensures.full c.in-Err-Full.commands c.in-Err-Full.size).0 is in
    let still = c.append.ensures.unfilled told.1 in
    let measured = c.self.invariant.1.measured told.0 in
    rw (← c.self.view_is) (
      told.0,
      (
        c.requires.sized.few,
        no_room (record {
          journal = c.self.inside.journal;
          history = c.self.inside.history;
          failed = c.self.inside.failed;
          opened = c.self.inside.opened;
          faults = c.self.inside.faults;
        }) (length c.args.bytes.now) c.self.invariant.1.counted measured told.1,
      ),
      told.2 ∙ c.self.invariant.1.counted,
      told.3 ∙ ap (λ gate. gate + 1) measured,
      rw still refl,
    )
