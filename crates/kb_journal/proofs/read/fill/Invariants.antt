use Rattle.std.proofs.Common.{◌≡◌, ◌≤◌, ◌-◌, IsTrue, length, take}
use Rattle.kb_journal.specs.Unwritten.{IsUnwritten}
use Rattle.kb_journal.proofs.read.fill.Given as goal

abbrev pub invariant-loop-filled : goal.invariant-loop-filled
invariant-loop-filled g l = record {
  unwritten : IsUnwritten g.D.Disk.told.honest g.D.Disk.told.images g.D.Disk.told.moment
      g.D.Disk.told.left_since
      g.D.Disk.told.fault_count l.fn.disk l.disk;
  calm : g.D.Disk.told.fault_count l.disk ≡ g.D.Disk.told.fault_count l.fn.disk;
  seen : IsTrue (g.D.Disk.told.honest l.fn.disk) → g.D.Disk.told.seen l.disk ≡ g.D.Disk.told.seen l.fn.disk;
  read : IsTrue (g.D.Disk.told.honest l.fn.disk) → take l.filled l.buf ≡ take l.filled
      (g.D.Disk.told.seen l.fn.disk);
  in_range : l.filled ≤ length l.buf;
}

abbrev pub decreases-loop-filled : goal.decreases-loop-filled
decreases-loop-filled g l = length l.buf - l.filled
