use Rattle.std.proofs.Common.{ap, option_copied, refl, sym, ◌∙◌}
use Rattle.kb_apply.specs.LaneRuns.{outside_of}
use Rattle.kb_billd.proofs.ByGateway.{by_market, by_none}
use Rattle.kb_billd.proofs.top.apply_by.Goals as goal

pub returns-in-Some-clause-applied : goal.returns-in-Some-clause-applied
returns-in-Some-clause-applied g c =
    by_market (outside_of g.V.Disk.Disk.told g.M.Gateway.Gateway.told
    g.C.Clock.day) g.M.Market.serves c.args.apply.now.dir c.args.clock
    (g.I.Source.left c.args.input.now) (g.I.Source.left c.apply_folder.new.input)
    (g.O.Sink.written c.args.output.now) (g.O.Sink.written c.apply_folder.new.output)
    (g.V.Vault.told c.args.vault.now)
    (g.V.Vault.told
    c.apply_folder.new.vault)
    (g.M.Market.told c.args.market.now) (g.M.Market.told c.apply_folder.new.market)
    c.apply_folder.result _ c.in-Some.gateway.now
    (sym c.gateway_of.ensures ∙ ap option_copied c.in-Some.is)
    (rw c.as_str-folder.ensures at c.apply_folder.ensures.applied)

pub returns-in-None-clause-applied : goal.returns-in-None-clause-applied
returns-in-None-clause-applied g c =
    by_none (outside_of g.V.Disk.Disk.told g.M.Gateway.Gateway.told
    g.C.Clock.day) g.M.Market.serves c.args.apply.now.dir c.args.clock
    (g.I.Source.left c.args.input.now) (g.I.Source.left c.apply_folder-in-None.new.input)
    (g.O.Sink.written c.args.output.now) (g.O.Sink.written c.apply_folder-in-None.new.output)
    (g.V.Vault.told c.args.vault.now)
    (g.V.Vault.told
    c.apply_folder-in-None.new.vault)
    (g.M.Market.told c.args.market.now) (g.M.Market.told c.args.market.now)
    c.apply_folder-in-None.result _ (sym c.gateway_of.ensures ∙ ap option_copied c.in-None.is) refl
    (rw c.as_str-folder.ensures at c.apply_folder-in-None.ensures.applied)
