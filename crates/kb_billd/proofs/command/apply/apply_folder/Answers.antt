use Rattle.std.proofs.Common.{inr, length}
use Rattle.kb_apply.specs.LaneRuns.{outside_of}
use Rattle.kb_folder.proofs.Closing.{are_out}
use Rattle.kb_billd.proofs.Applied.{runs_lanes}
use Rattle.kb_billd.proofs.command.apply.apply_folder.Goals as goal

pub run_open-requires-clause-outside : goal.run_open-requires-clause-outside
run_open-requires-clause-outside g c κs within = are_out
    g.V.Disk.Disk.told
    c.args.folder.now (length c.in-Ok.lanes.items) (g.V.Vault.told c.args.vault.now)
    (g.V.Vault.told c.open_lanes.new.vault)
    c.in-Ok.lanes.items c.in-Ok.ensures.opened

pub returns-in-Ok-clause-applied : goal.returns-in-Ok-clause-applied
returns-in-Ok-clause-applied g c = inr (
    runs_lanes (outside_of g.V.Disk.Disk.told g.M.Gateway.Gateway.told g.C.Clock.day) c.args.folder.now
    c.args.clock (g.V.Vault.told c.args.vault.now) (g.V.Vault.told c.open_lanes.new.vault)
    (g.V.Vault.told c.run_open.new.vault) (g.M.Market.told c.args.market.now)
    (g.M.Market.told c.open_lanes.new.market) (g.M.Market.told c.run_open.new.market)
    (g.I.Source.left c.args.input.now) (g.I.Source.left c.run_open.new.input)
    (g.O.Sink.written c.args.output.now) (g.O.Sink.written c.run_open.new.output) c.in-Ok.lanes.items
    c.in-Ok.ensures.opened c.run_open.result c.run_open.ensures.ran
    (λ gateway place. g.M.Market.serves gateway c.args.gateway.now place) c.in-Ok.ensures.served
    c.in-Ok.ensures.unasked c.in-Ok.ensures.same_gateways c.in-Ok.ensures.calm
    c.in-Ok.ensures.some c.in-Ok.ensures.few
    c.requires.inside
    )
