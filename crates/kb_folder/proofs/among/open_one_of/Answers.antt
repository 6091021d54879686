use Rattle.kb_folder.proofs.Gateways.{back_unasked_in, calm_in}
use Rattle.kb_folder.proofs.LeftIn.{one_of_in, of_others_in}
use Rattle.kb_folder.proofs.among.open_one_of.Goals as goal

pub returns-in-Err-clause-refused : goal.returns-in-Err-clause-refused
returns-in-Err-clause-refused g c = c.in-Err.ensures.refused c.args.count

pub returns-in-Ok-clause-opened : goal.returns-in-Ok-clause-opened
returns-in-Ok-clause-opened g c =
    one_of_in g.V.Disk.Disk.told
    g.V.Vault.told
    c.args.folder.now c.in-Ok.lane.log.journal.lanes c.args.number c.args.vault.now c.open_lane.new.vault
    c.if_one_of.new.vault
    c.in-Ok.lane c.in-Ok.ensures.opened c.args.count c.if_one_of.result c.if_one_of.ensures.same
    c.if_one_of.ensures.kept
    c.if_one_of.ensures.one_of_them

pub returns-in-Ok-clause-refused : goal.returns-in-Ok-clause-refused
returns-in-Ok-clause-refused g c =
    of_others_in g.V.Disk.Disk.told
    g.V.Vault.told
    c.args.folder.now c.in-Ok.lane.log.journal.lanes c.args.number c.args.vault.now c.open_lane.new.vault
    c.if_one_of.new.vault
    c.in-Ok.lane c.in-Ok.ensures.opened c.args.count (g.M.Market.told c.args.market.now).faults
    (g.M.Market.told c.if_one_of.new.market).faults c.if_one_of.result c.if_one_of.ensures.fault
    c.if_one_of.ensures.of_others
    c.in-Ok.ensures.few_lanes
    (calm_in g.M.Gateway.Gateway.told c.args.number (g.M.Market.told c.args.market.now)
    (g.M.Market.told c.open_lane.new.market) (g.M.Market.told c.if_one_of.new.market) c.if_one_of.result
    c.in-Ok.lane.gateway c.in-Ok.ensures.calm c.if_one_of.ensures.gateway)
    c.requires.inside c.if_one_of.ensures.back

pub returns-in-Ok-clause-gateway_left : goal.returns-in-Ok-clause-gateway_left
returns-in-Ok-clause-gateway_left g c =
    back_unasked_in g.M.Gateway.Gateway.told c.args.number (g.M.Market.told c.args.market.now)
    (g.M.Market.told c.open_lane.new.market) (g.M.Market.told c.if_one_of.new.market) c.if_one_of.result
    c.in-Ok.lane.gateway c.in-Ok.ensures.same_gateways c.in-Ok.ensures.unasked c.if_one_of.ensures.gateway
