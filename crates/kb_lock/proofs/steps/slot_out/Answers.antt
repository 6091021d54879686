use Rattle.std.proofs.Common.{◌∷◌, Some, sym, ap, ◌∙◌}
use Rattle.atomic_table.specs.Table.{rest}
use Rattle.kb_lock.proofs.steps.slot_out.Goals as goal

pub exchange-requires : goal.exchange-requires
exchange-requires g c =
    let full = c.requires.full in
    (c.requires.here, (Some full.0, full.1 ∙ ap (λ l. (0, Some full.0) ∷ l) (sym (ap rest full.1))))
