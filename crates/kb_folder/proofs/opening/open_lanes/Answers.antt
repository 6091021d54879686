use Rattle.kb_folder.proofs.Gateways.{all_left}
use Rattle.kb_folder.proofs.AsBefore.{are_out, as_before, cause_still}
use Rattle.kb_folder.proofs.opening.open_lanes.Goals as goal

pub put_back-requires-clause-outside : goal.put_back-requires-clause-outside
put_back-requires-clause-outside g c κs within = are_out
    g.V.Disk.Disk.told
    c.args.folder.now
    (g.V.Vault.told c.args.vault.now)
    (g.V.Vault.told c.open_all.new.vault)
    (g.V.Vault.told c.open_all.new.vault)
    c.open_all.new.lanes.items c.in-Err.ensures.stopped

pub returns-in-Err-clause-left : goal.returns-in-Err-clause-left
returns-in-Err-clause-left g c =
    as_before g.V.Disk.Disk.told
    c.args.folder.now
    (g.V.Vault.told c.args.vault.now)
    (g.V.Vault.told c.open_all.new.vault)
    (g.V.Vault.told c.put_back.new.vault)
    c.open_all.new.lanes.items c.in-Err.ensures.stopped c.put_back.ensures.back c.requires.inside

pub returns-in-Err-clause-cause : goal.returns-in-Err-clause-cause
returns-in-Err-clause-cause g c = rw c.put_back.ensures.gateways.calm
    (cause_still g.V.Disk.Disk.told
    c.args.folder.now
    (g.V.Vault.told c.args.vault.now)
    (g.V.Vault.told c.open_all.new.vault)
    (g.V.Vault.told c.put_back.new.vault)
    c.open_all.new.lanes.items c.in-Err.ensures.stopped c.put_back.ensures.back
    (g.M.Market.told c.args.market.now).faults (g.M.Market.told c.open_all.new.market).faults c.in-Err.fault
    c.in-Err.ensures.cause)

pub returns-in-Err-clause-gateways_left : goal.returns-in-Err-clause-gateways_left
returns-in-Err-clause-gateways_left g c =
    all_left g.M.Gateway.Gateway.told (g.M.Market.told c.args.market.now)
    (g.M.Market.told c.open_all.new.market) (g.M.Market.told c.put_back.new.market)
    c.open_all.new.lanes.items c.in-Err.ensures.gateway_left c.in-Err.ensures.unasked_so_far
    c.put_back.ensures.gateways
