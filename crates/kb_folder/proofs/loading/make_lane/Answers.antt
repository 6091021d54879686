use Rattle.kb_folder.proofs.GivenBack.{given_back, reads_them}
use Rattle.kb_folder.proofs.loading.make_lane.Goals as goal

pub returns-in-Err-clause-refused : goal.returns-in-Err-clause-refused
returns-in-Err-clause-refused g c count told opens = (
  given_back g.V.Disk.Disk.told c.args.folder.now c.args.number (g.V.Vault.told c.args.vault.now)
      (g.V.Vault.told c.back.new.self) c.untouched.result told (record {
        inside = c.back.ensures.inside;
        bytes = c.back.ensures.bytes;
        others = c.back.ensures.other_lanes;
        noted = c.back.ensures.noted;
        others_back = c.back.ensures.others_back;
        files = c.back.ensures.same_files;
        risen = c.back.ensures.risen;
        calm = c.back.ensures.calm;
        rising = c.back.ensures.rising;
      }) (rw c.untouched.ensures.same (reads_them g.V.Disk.Disk.told.honest g.V.Disk.Disk.told.seen
      g.V.Disk.Disk.told.images c.args.disk told opens))
      (rw c.untouched.ensures.same (c.untouched.ensures.keeps told opens)),
  (c.back.ensures.calm (rw c.untouched.ensures.same c.requires.fresh), c.in-Err.ensures.cause),
)
