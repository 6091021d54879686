use Rattle.std.proofs.Common.{◌≡◌, ◌↔◌, ℕ, ◌-◌, true, Contains}
use Rattle.std.specs.List.{list_any}
use Rattle.std.proofs.lemmas.Result.{IfOk-weaker}
use Rattle.kb_blocking.specs.Blocking.{differ, turns}
use Rattle.kb_blocking.specs.Private.Stays.{counts_on}
use Rattle.kb_blocking.proofs.CountedStays.{turns-counts_on}
use Rattle.kb_blocking.proofs.blocks.Blocks.transitions.Goals as goal

pub returns-clause-exactly : goal.returns-clause-exactly
returns-clause-exactly c =
    let stays = c.as_slice.result.now in
    IfOk-weaker c.turning_days.result
    (λ days. (day : ℕ) → Contains days.items day
    ↔
    (differ (list_any (counts_on c.args.chain c.args.flag day) stays)
    (list_any (counts_on c.args.chain c.args.flag (day - 1)) stays) ≡ true))
    (λ days. (day : ℕ) → Contains days.items day ↔ (turns c.args.self.now c.args.chain c.args.flag day
    ≡ true))
    (λ days exactly day.
    rw (
      ← c.self.view_is,
      turns-counts_on c.self.inside.states c.self.inside.stays c.args.chain c.args.flag day
          c.self.invariant.1,
      ← c.as_slice.ensures,
    )
    (exactly day))
    c.turning_days.ensures.exactly
