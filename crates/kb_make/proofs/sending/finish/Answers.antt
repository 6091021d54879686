use Rattle.kb_disk.specs.Memory.{DiskValue}
use Rattle.kb_make.proofs.Drained.{drained_done, drained_idle}
use Rattle.kb_make.proofs.sending.finish.Goals as goal

pub returns-in-Idle : goal.returns-in-Idle
returns-in-Idle c = record {
  idle = drained_idle (λ (disk : DiskValue). disk.log.faults) c.args.today
      c.args.lane.now
      c.drain.new.lane c.in-Idle.ensures.drained;
  done = drained_done (λ (disk : DiskValue). disk.log.faults) c.args.today
      c.args.lane.now
      c.drain.new.lane c.in-Idle.ensures.drained;
}
