use Rattle.kb_disk.proofs.memory_disk.MemoryDiskDisk.size.Goals as goal

pub returns-clause-time : goal.returns-clause-time
returns-clause-time c = rw (← c.self.view_is) (c.note.ensures.time c.self.inside.first.items)
