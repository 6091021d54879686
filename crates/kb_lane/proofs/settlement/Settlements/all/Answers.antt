use Rattle.std.proofs.Common.{List, [], ◌∷◌, ◌++◌, ap, ◌∙◌}
use Rattle.kb_lane.specs.declared.settlement.Settlement.{Settlement}
use Rattle.kb_lane.proofs.settlement.Settlements.all.Goals as goal

pub returns : goal.returns
returns c =
    let success : Settlement = c.in_ok-add.ensures.0 in
    let pending : Settlement = c.in_ok-add-2.ensures.0 in
    let payment_failure : Settlement = c.in_ok-add-3.ensures.0 in
    let plugin_failure : Settlement = c.in_ok-add-4.ensures.0 in
    record {
      success = success;
      pending = pending;
      payment_failure = payment_failure;
      plugin_failure = plugin_failure;
      all = c.in_ok-add-4.ensures.1 ∙ ap (λ (all : List Settlement). all ++ plugin_failure ∷ [])
          (c.in_ok-add-3.ensures.1 ∙ ap (λ (all : List Settlement). all ++ payment_failure ∷ [])
          (c.in_ok-add-2.ensures.1 ∙ ap (λ (all : List Settlement). all ++ pending ∷ [])
          (c.in_ok-add.ensures.1 ∙ ap (λ (all : List Settlement). all ++ success ∷ [])
          c.in_ok-each.ensures.items)));
      to_success = c.in_ok-add.ensures.2;
      to_pending = c.in_ok-add-2.ensures.2;
      to_payment_failure = c.in_ok-add-3.ensures.2;
      to_plugin_failure = c.in_ok-add-4.ensures.2;
    }
