use Rattle.kb_folder.proofs.Unloaded.{unmade}
use Rattle.kb_folder.proofs.loading.load_lane.Goals as goal

pub returns-in-Err-clause-refused : goal.returns-in-Err-clause-refused
returns-in-Err-clause-refused g c count told market opens =
    unmade g.V.Disk.Disk.told
    c.args.folder.now count c.args.number
    (g.V.Vault.told c.args.vault.now)
    (g.V.Vault.told c.back.new.self)
    told c.in-Err.disk market c.in-Err.fault (record {
      inside = c.back.ensures.inside;
      bytes = c.back.ensures.bytes;
      others = c.back.ensures.other_lanes;
      noted = c.back.ensures.noted;
      others_back = c.back.ensures.others_back;
      files = c.back.ensures.same_files;
      risen = c.back.ensures.risen;
      calm = c.back.ensures.calm;
      rising = c.back.ensures.rising;
    }) (c.in-Err.ensures.refused told opens)
