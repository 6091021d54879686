use Rattle.std.proofs.Common.{◌≡◌, ◌≤◌, ◌+◌, ◌*◌, ◌++◌, ◌∷◌, [], List, length, arith, sym, ap, ap₂, subst}
use Rattle.std.proofs.Common.{◌∙◌}
use Rattle.std.proofs.lemmas.List.{append-nil}
use Rattle.kb_lane.proofs.Going.{itself_then, well_then}
use Rattle.kb_lane.specs.Bills.{BillsEach}
use Rattle.kb_lane.specs.Tallies.{Answer, IsAtMost, of_reply, of_step, plus, with_answer}
use Rattle.kb_lane.proofs.BilledAccounts.{each_billed, all_billed}
use Rattle.kb_lane.proofs.TallySums.{plus_most, reply_most, step_most, tally_more}
use Rattle.kb_lane.proofs.bills.bill_each.Goals as goal

pub plus-requires : goal.plus-requires
plus-requires g c = record {
  few = (
    2 * c.loop-account.account-index,
    1,
    omega (arith, c.requires.few, c.loop-account-test.true),
    c.loop-account.invariant.1,
    rw c.of_reply.ensures (reply_most c.bill_account-reply.result.0),
  );
}

pub plus-tally-requires : goal.plus-tally-requires
plus-tally-requires g c = record {
  few = (
    2 * c.loop-account.account-index + 1,
    1,
    omega (arith, c.requires.few, c.loop-account-test.true),
    rw (c.plus.ensures, c.of_reply.ensures) (plus_most (2 * c.loop-account.account-index) 1
        c.loop-account.tally
        (of_reply c.bill_account-reply.result.0) c.loop-account.invariant.1
        (reply_most c.bill_account-reply.result.0)),
    rw c.of_step.ensures (step_most c.bill_account-reply.result.1),
  );
}

pub loop-account-preserved : goal.loop-account-preserved
loop-account-preserved g c =
    let place = c.loop-account.account-index in
    let done = c.loop-account.invariant.0.0 in
    let reply = c.bill_account-reply.result.0 in
    let step = c.bill_account-reply.result.1 in
    let counted : c.plus-tally.result ≡ with_answer c.loop-account.tally (reply, step)
    = c.plus-tally.ensures ∙ ap₂ plus (c.plus.ensures ∙ ap (plus c.loop-account.tally) c.of_reply.ensures)
    c.of_step.ensures in
    let most : IsAtMost (2 * place + 1 + 1) (with_answer c.loop-account.tally (reply, step))
    = plus_most (2 * place + 1) 1 _ (of_step step)
    (plus_most (2 * place) 1 c.loop-account.tally (of_reply reply) c.loop-account.invariant.1
    (reply_most reply))
    (step_most step) in
    let further : 2 * place + 1 + 1 ≡ 2 * (place + 1) = omega arith in (
      (
        done ++ (reply, step) ∷ [],
        counted ∙ ap (λ tally. with_answer tally (reply, step)) c.loop-account.invariant.0.1
            ∙ sym (tally_more done (reply, step)),
        each_billed g.D.Disk.told.fault_count g.G.Gateway.told c.args.day
            c.args.accounts.now place c.args.lane.now c.loop-account.lane done c.loop-account.invariant.0.2
            c.account-item.result c.loop-account-test.true c.account-item.is c.bill_account-reply.new.lane
            (reply, step) c.bill_account-reply.ensures.billed,
      ),
      rw counted (subst (λ count. IsAtMost count (with_answer c.loop-account.tally (reply, step)))
          further most),
      well_then g.D.Disk.told.honest g.D.Disk.told.moment g.D.Disk.told.left_since c.args.lane.now.log
          c.loop-account.lane.log
          c.bill_account-reply.new.lane.log c.loop-account.invariant.2 c.bill_account-reply.ensures.well
          c.loop-account.invariant.3.as_honest c.bill_account-reply.ensures.itself.lanes
          c.bill_account-reply.ensures.itself.lane,
      itself_then g.D.Disk.told.honest g.D.Disk.told.fault_count c.args.lane.now c.loop-account.lane
          c.bill_account-reply.new.lane c.loop-account.invariant.3 c.bill_account-reply.ensures.itself,
    )

pub returns-clause-billed : goal.returns-clause-billed
returns-clause-billed g c =
    let done = c.loop-account.invariant.0.0 in
    let end : length c.args.accounts.now ≤ c.loop-account.account-index =
    omega (arith, c.loop-account-test.false) in
    let all = all_billed g.D.Disk.told.fault_count g.G.Gateway.told c.args.day
    c.args.accounts.now c.loop-account.account-index c.args.lane.now c.loop-account.lane done
    c.loop-account.invariant.0.2 end in
    let P : List Answer → Type 0
    = λ answers. BillsEach g.D.Disk.told.fault_count g.G.Gateway.told c.args.day
    c.args.accounts.now c.args.lane.now c.loop-account.lane answers in
    (done, c.loop-account.invariant.0.1, subst P (append-nil done) all)
