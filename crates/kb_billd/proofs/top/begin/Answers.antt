use Rattle.std.proofs.Common.{inl, subst, sym}
use Rattle.kb_apply.specs.LaneRuns.{outside_of}
use Rattle.kb_billd.specs.TopCall.{around_of, Does}
use Rattle.kb_billd.proofs.top.begin.Goals as goal

pub returns-in-Ok-clause-begins : goal.returns-in-Ok-clause-begins
returns-in-Ok-clause-begins g c = inl (subst (Does (outside_of g.V.Disk.Disk.told g.M.Gateway.Gateway.told
    g.C.Clock.day) g.M.Market.serves c.args.clock
    (around_of (g.I.Source.left c.args.input.now) (g.O.Sink.written c.args.output.now)
    (g.V.Vault.told c.args.vault.now)
    (g.M.Market.told c.args.market.now))
    (around_of (g.I.Source.left c.act.new.input) (g.O.Sink.written c.act.new.output)
    (g.V.Vault.told c.act.new.vault)
    (g.M.Market.told c.act.new.market))
    c.act.result) (sym c.in-Ok.ensures.read) c.act.ensures.does)
