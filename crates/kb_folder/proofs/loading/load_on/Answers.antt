use Rattle.kb_folder.proofs.Unloaded.{unloaded}
use Rattle.kb_folder.proofs.loading.load_on.Goals as goal

pub returns-in-Err-clause-refused : goal.returns-in-Err-clause-refused
returns-in-Err-clause-refused g c told opens = rw c.unloaded_by.ensures
    (unloaded g.D.Disk.told
    c.args.number told
    c.args.disk c.in-Err.disk c.requires.fresh c.in-Err.fault opens c.in-Err.ensures.refused
    g.met.D.Disk.seen_is_image
    c.requires.unmoved c.in-Err.ensures.unwritten_too)
