-- One row more; and at the end all of them.
use Rattle.std.proofs.Common.{◌<◌, ◌≤◌, length, ap, ◌∙◌, arith}
use Rattle.std.proofs.lemmas.List.{take_all}
use Rattle.kb_account.specs.Sums.{states_from}
use Rattle.kb_account.proofs.StateRows.{rows-more, states-length}
use Rattle.kb_account.proofs.view.states.states_on.Goals as goal

pub loop-sub-preserved : goal.loop-sub-preserved
loop-sub-preserved c =
    let many = ap (λ f. length f.timeline.subscriptions) c.facts.view_is in
    rows-more c.args.facts.now c.args.day c.loop-sub.sub c.args.facts.now.timeline.subscriptions
    c.loop-sub.rows.items c.push.new.self.items c.state_row.result
    (let low : c.loop-sub.sub < length c.args.facts.now.timeline.subscriptions
    = omega (arith, c.loop-sub-test.true, c.len-sub-end.ensures, many) in low)
    c.loop-sub.invariant c.state_row.ensures c.in_ok-push.ensures.items

pub returns : goal.returns
returns c =
    let many = ap (λ f. length f.timeline.subscriptions) c.facts.view_is in
    let all = states_from c.args.facts.now c.args.day 0 c.args.facts.now.timeline.subscriptions in
    let end : length all ≤ c.loop-sub.sub = omega (
      arith,
      c.loop-sub-test.false,
      c.len-sub-end.ensures,
      many,
      states-length c.args.facts.now c.args.day 0 c.args.facts.now.timeline.subscriptions,
    ) in
    c.loop-sub.invariant ∙ take_all c.loop-sub.sub all end
