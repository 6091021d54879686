use Rattle.kb_folder.proofs.Gateways.{calm_in, one_more_unasked_in}
use Rattle.kb_folder.proofs.LeftIn.{unadded_in}
use Rattle.kb_folder.proofs.Added.{added_in}
use Rattle.kb_folder.proofs.Served.{one_more_served_in}
use Rattle.kb_folder.proofs.opening.open_next.Goals as goal

pub returns-in-Ok-clause-added : goal.returns-in-Ok-clause-added
returns-in-Ok-clause-added g c =
    added_in g.V.Disk.Disk.told
    g.V.Vault.told
    c.args.folder.now c.args.count c.args.number c.args.vault.now c.open_one_of.new.vault c.add.new.vault
    c.in-Ok.lane c.in-Ok.ensures.opened c.args.lanes.now.items c.add.new.lanes.items c.add.result
    c.add.ensures.added
    c.add.ensures.kept c.requires.next

pub returns-in-Ok-clause-refused : goal.returns-in-Ok-clause-refused
returns-in-Ok-clause-refused g c =
    unadded_in g.V.Disk.Disk.told
    g.V.Vault.told
    c.args.folder.now c.args.count c.args.number c.args.vault.now c.open_one_of.new.vault c.add.new.vault
    c.in-Ok.lane c.in-Ok.ensures.opened c.args.count (g.M.Market.told c.args.market.now).faults
    (g.M.Market.told c.add.new.market).faults c.add.result c.add.ensures.fault
    (calm_in g.M.Gateway.Gateway.told c.args.number (g.M.Market.told c.args.market.now)
    (g.M.Market.told c.open_one_of.new.market) (g.M.Market.told c.add.new.market) c.add.result
    c.in-Ok.lane.gateway c.in-Ok.ensures.calm c.add.ensures.gateway)
    c.requires.inside
    c.add.ensures.back

pub returns-in-Ok-clause-served : goal.returns-in-Ok-clause-served
returns-in-Ok-clause-served g c =
    one_more_served_in (λ made place. g.M.Market.serves made c.args.gateway.now place) c.args.lanes.now.items
    c.add.new.lanes.items c.in-Ok.lane c.args.number c.add.result c.add.ensures.added c.requires.next
    c.in-Ok.ensures.served

pub returns-in-Ok-clause-unasked : goal.returns-in-Ok-clause-unasked
returns-in-Ok-clause-unasked g c =
    one_more_unasked_in g.M.Gateway.Gateway.told c.args.lanes.now.items c.add.new.lanes.items c.in-Ok.lane
    c.add.result c.add.ensures.added c.add.ensures.same c.in-Ok.ensures.unasked
