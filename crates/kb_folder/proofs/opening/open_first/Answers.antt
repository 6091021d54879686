use Rattle.std.proofs.Common.{ap, length, ◌∙◌}
use Rattle.kb_folder.proofs.LeftIn.{unadded}
use Rattle.kb_folder.proofs.Added.{added}
use Rattle.kb_folder.proofs.Served.{none_served, one_more_served}
use Rattle.kb_folder.proofs.opening.open_first.Goals as goal

pub returns-in-Ok-add-clause-added : goal.returns-in-Ok-add-clause-added
returns-in-Ok-add-clause-added g c =
    added g.V.Disk.Disk.told
    g.V.Vault.told
    c.args.folder.now c.in-Ok.lane.log.journal.lanes 0 c.args.vault.now c.open_lane.new.vault c.add.new.vault
    c.in-Ok.lane c.in-Ok.ensures.opened c.lanes-count.result c.args.lanes.now.items c.add.new.lanes.items
    c.in-Ok-add.ensures.added c.in-Ok-add.ensures.kept c.lanes-count.ensures
    (ap (λ items. length items) c.requires.none)

pub returns-in-Err-add-clause-refused : goal.returns-in-Err-add-clause-refused
returns-in-Err-add-clause-refused g c count =
    unadded g.V.Disk.Disk.told
    g.V.Vault.told
    c.args.folder.now c.in-Ok.lane.log.journal.lanes 0 c.args.vault.now c.open_lane.new.vault c.add.new.vault
    c.in-Ok.lane c.in-Ok.ensures.opened count (g.M.Market.told c.args.market.now).faults
    (g.M.Market.told c.add.new.market).faults c.in-Err-add.fault c.in-Err-add.ensures.fault
    (c.in-Err-add.ensures.gateway.calm ∙ c.in-Ok.ensures.calm)
    c.requires.inside c.in-Err-add.ensures.back

pub returns-in-Ok-add-clause-served : goal.returns-in-Ok-add-clause-served
returns-in-Ok-add-clause-served g c =
    one_more_served (λ made place. g.M.Market.serves made c.args.gateway.now place) c.args.lanes.now.items
    c.add.new.lanes.items c.in-Ok.lane 0 c.in-Ok-add.ensures.added
    (ap (λ items. length items) c.requires.none) c.in-Ok.ensures.served
    (none_served (λ made place. g.M.Market.serves made c.args.gateway.now place) c.args.lanes.now.items
    c.requires.none)
