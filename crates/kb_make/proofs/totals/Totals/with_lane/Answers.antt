-- One account more.
use Rattle.std.proofs.Common.{◌≡◌, ℕ, List, AllPairs, sym, subst, ◌∙◌}
use Rattle.kb_lane.specs.Lanes.{machine_of}
use Rattle.kb_make.proofs.AddedSums.{account_added}
use Rattle.kb_make.proofs.totals.Totals.with_lane.Goals as goal

pub loop-account-preserved : goal.loop-account-preserved
loop-account-preserved g c =
    account_added (machine_of c.args.lane.now) c.deref-account-items.result.now
    (c.deref-account-items.ensures.value ∙ c.in_ok-names.ensures.names)
    (subst (AllPairs (λ (one other : List ℕ). one ≡ other → ⊥)) (sym c.deref-account-items.ensures.value)
    c.in_ok-names.ensures.apart)
    c.loop-account.account-index c.account-item.result c.loop-account-test.true c.account-item.is
    c.loop-account.totals c.in_ok-totals.totals _ c.in_ok-totals.ensures c.loop-account.invariant
