use Rattle.kb_folder.proofs.LeftIn.{refused_in}
use Rattle.kb_folder.proofs.loading.open_lane.Goals as goal

pub returns-in-Ok-clause-refused : goal.returns-in-Ok-clause-refused
returns-in-Ok-clause-refused g c count =
    refused_in g.V.Disk.Disk.told g.V.Vault.told
    c.args.folder.now c.args.number c.args.vault.now c.lane.new.self c.make_lane.new.vault c.requires.inside
    c.in-Ok.ensures.out c.in-Ok.ensures.lanes c.lane.ensures.same_back c.lane.ensures.same_files
    c.in-Ok.ensures.cause
    c.make_lane.result count (g.M.Market.told c.args.market.now).faults
    (g.M.Market.told c.make_lane.new.market).faults
    (c.make_lane.ensures.refused count
    ((g.V.Vault.told c.args.vault.now).lane_bytes c.args.folder.now c.args.number)
    c.in-Ok.ensures.opens)
