use Rattle.std.proofs.Common.{◌≡◌, ◌↔◌, ℕ, ◌-◌, ◌<◌, true, Contains, AllPairs}
use Rattle.std.specs.List.{list_any}
use Rattle.std.proofs.lemmas.Result.{IfOk-weaker}
use Rattle.kb_blocking.specs.Blocking.{differ}
use Rattle.kb_blocking.specs.Private.Stays.{counts_on}
use Rattle.kb_blocking.specs.Private.Stretches.{turn_days}
use Rattle.kb_blocking.proofs.TurnDays.{AreSorted, turn_days-exactly, turn_days-pairs}
use Rattle.kb_blocking.proofs.turning.turning_days.Goals as goal

pub returns-clause-exactly : goal.returns-clause-exactly
returns-clause-exactly c =
    let stays = c.args.stays.now in
    let stretches = c.sort.new.stretches.items in
    let are : AreSorted c.args.chain c.args.flag stays stretches = record {
      same = rw (← c.in_ok-stretches.ensures.stretches) c.in_ok-sort.ensures.same;
      sorted = c.in_ok-sort.ensures.sorted;
      dated = rw (← c.in_ok-stretches.ensures.stretches) c.in_ok-stretches.ensures.dated;
    } in
    IfOk-weaker c.turn_days.result (λ days. days.items ≡ turn_days c.deref.result.now)
    (λ days. (day : ℕ) → Contains days.items day
    ↔
    (differ (list_any (counts_on c.args.chain c.args.flag day) stays)
    (list_any (counts_on c.args.chain c.args.flag (day - 1)) stays) ≡ true))
    (λ days is. rw (is, c.deref.ensures.value) (turn_days-exactly c.args.chain c.args.flag stays stretches
    are))
    c.turn_days.ensures

pub returns-clause-rising : goal.returns-clause-rising
returns-clause-rising c =
    let stays = c.args.stays.now in
    let stretches = c.sort.new.stretches.items in
    let are : AreSorted c.args.chain c.args.flag stays stretches = record {
      same = rw (← c.in_ok-stretches.ensures.stretches) c.in_ok-sort.ensures.same;
      sorted = c.in_ok-sort.ensures.sorted;
      dated = rw (← c.in_ok-stretches.ensures.stretches) c.in_ok-stretches.ensures.dated;
    } in
    IfOk-weaker c.turn_days.result (λ days. days.items ≡ turn_days c.deref.result.now)
    (λ days. AllPairs (λ (earlier : ℕ) (later : ℕ). earlier < later) days.items)
    (λ days is. rw (is, c.deref.ensures.value) (turn_days-pairs c.args.chain c.args.flag stays stretches are))
    c.turn_days.ensures
