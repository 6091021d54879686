use Rattle.kb_folder.proofs.Unloaded.{unharmed_now}
use Rattle.kb_folder.proofs.loading.untouched.Goals as goal

pub returns-clause-keeps : goal.returns-clause-keeps
returns-clause-keeps g c told opens =
    unharmed_now g.D.Disk.told told c.args.disk c.requires.unmoved g.met.D.Disk.only_now opens
