use Rattle.std.proofs.Common.{◌≤◌, ◌<◌, ap, length, subst, sym, ◌∙◌}
use Rattle.kb_gateway.specs.Told.{payments_asked}
use Rattle.kb_apply.specs.Applying.{Applies}
use Rattle.kb_apply.specs.LaneRuns.{outside_of, lanes_machine}
use Rattle.kb_folder.specs.Openings.{AreBack, AskedOnceEach, GatewaysAreBack, HaveAttemptsEach}
use Rattle.kb_billd.proofs.Applied.{as_many, begun_is}
use Rattle.kb_billd.proofs.command.apply.run_open.Goals as goal

pub put_back-requires-clause-few : goal.put_back-requires-clause-few
put_back-requires-clause-few g c κs within =
    let many = ap length c.into_lanes.ensures ∙ as_many
    (outside_of g.V.Disk.Disk.told g.M.Gateway.Gateway.told g.C.Clock.day)
    c.new-lanes.result (g.I.Source.left c.args.input.now)
    (g.I.Source.left c.apply_lanes-outcome.new.input) (g.O.Sink.written c.args.output.now)
    (g.O.Sink.written c.apply_lanes-outcome.new.output)
    c.apply_lanes-outcome.new.lanes c.apply_lanes-outcome.result c.apply_lanes-outcome.ensures.applied
    ∙ ap length c.new-lanes.ensures.lanes in
    subst (λ count. count ≤ 64) (sym many) c.requires.few

pub put_back-requires-clause-outside : goal.put_back-requires-clause-outside
put_back-requires-clause-outside g c κs within place less =
    let many = ap length c.into_lanes.ensures ∙ as_many
    (outside_of g.V.Disk.Disk.told g.M.Gateway.Gateway.told g.C.Clock.day)
    c.new-lanes.result (g.I.Source.left c.args.input.now)
    (g.I.Source.left c.apply_lanes-outcome.new.input) (g.O.Sink.written c.args.output.now)
    (g.O.Sink.written c.apply_lanes-outcome.new.output)
    c.apply_lanes-outcome.new.lanes c.apply_lanes-outcome.result c.apply_lanes-outcome.ensures.applied
    ∙ ap length c.new-lanes.ensures.lanes in
    c.requires.outside place (subst (λ count. place < count) many less)

pub returns-clause-ran : goal.returns-clause-ran
returns-clause-ran g c = record {
  last = c.apply_lanes-outcome.new.lanes;
  ran = subst (λ begun. Applies
      (lanes_machine (outside_of g.V.Disk.Disk.told g.M.Gateway.Gateway.told g.C.Clock.day)) begun
      (g.I.Source.left c.args.input.now)
      (g.I.Source.left c.apply_lanes-outcome.new.input) (g.O.Sink.written c.args.output.now)
      (g.O.Sink.written c.apply_lanes-outcome.new.output)
      c.apply_lanes-outcome.new.lanes c.apply_lanes-outcome.result)
      (begun_is c.new-lanes.result c.args.lanes.items c.args.clock c.new-lanes.ensures.lanes
      c.new-lanes.ensures.clock c.new-lanes.ensures.full) c.apply_lanes-outcome.ensures.applied;
  back = subst (AreBack g.V.Disk.Disk.told c.args.folder.now
      (g.V.Vault.told c.args.vault.now)
      (g.V.Vault.told
      c.put_back.new.vault)) c.into_lanes.ensures c.put_back.ensures.back;
  gateways_back = subst (GatewaysAreBack (g.M.Market.told c.args.market.now)
      (g.M.Market.told c.put_back.new.market)) c.into_lanes.ensures c.put_back.ensures.gateways;
  once = subst (AskedOnceEach (payments_asked g.M.Gateway.Gateway.told)) c.into_lanes.ensures
      c.put_back.ensures.once;
  attempts = subst HaveAttemptsEach c.into_lanes.ensures c.put_back.ensures.attempts;
}
