use Rattle.kb_disk.proofs.memory_disk.MemoryDiskDisk.write_at.Goals as goal

pub returns-in-Err-clause-time : goal.returns-in-Err-clause-time
returns-in-Err-clause-time c = rw (← c.self.view_is) (c.note.ensures.time c.self.inside.first.items)

pub returns-clause-time : goal.returns-clause-time
returns-clause-time c = rw (← c.self.view_is) (c.note.ensures.time c.self.inside.first.items)
