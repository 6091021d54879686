-- What is charged, with or without a new subscription.
use Rattle.std.specs.Arc.{arc_value}
use Rattle.std.proofs.Common.{◌+◌, ◌∷◌, ◌++◌, [], List, ap, ◌∙◌, length}
use Rattle.kb_tree.specs.Issues.{SubscriptionItems, no_items}
use Rattle.kb_account.proofs.StartedCharges.{started_below, same_below}
use Rattle.kb_account.proofs.state.State.issue.Goals as goal

pub issue_all-requires-clause-below : goal.issue_all-requires-clause-below
issue_all-requires-clause-below c =
    started_below c.args.begun.now.started (arc_value c.args.self.now.charges).items
    c.deref-then-begun.result.now
    (length c.args.self.now.invoices.items + 1) (c.items-first.result + 1) c.if-begun.true
    (c.deref-then-begun.ensures.value ∙ c.in_ok-charges.ensures
    ∙ ap (λ (charges : List SubscriptionItems). charges ++ no_items ∷ [])
    (rw c.deref.ensures at c.as_slice.ensures.value))
    (ap (λ n. n + 1) c.items-first.ensures) c.requires.below

pub issue_all-requires-2-clause-below : goal.issue_all-requires-2-clause-below
issue_all-requires-2-clause-below c =
    same_below c.args.begun.now.started (arc_value c.args.self.now.charges).items c.as_slice-2.result.now
    (length c.args.self.now.invoices.items + 1) (c.items-first.result + 1) c.if-begun.false
    (rw c.deref-2.ensures at c.as_slice-2.ensures.value)
    (ap (λ n. n + 1) c.items-first.ensures) c.requires.below
