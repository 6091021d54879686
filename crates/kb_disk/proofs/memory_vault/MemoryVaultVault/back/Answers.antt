use Rattle.kb_disk.proofs.Tellings.{came_told}
use Rattle.kb_disk.proofs.memory_vault.MemoryVaultVault.back.Goals as goal

pub returns-clause-others_back : goal.returns-clause-others_back
returns-clause-others_back c =
    rw (← c.self.view_is)
    (rw c.count_disk.ensures.counted
    (rw c.give_back.ensures
    (λ folder lane. came_told c.args.folder.now c.args.lane c.args.disk c.self.inside.lanes folder lane)))
