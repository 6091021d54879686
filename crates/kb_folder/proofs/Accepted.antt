-- A new lane accepts the first two commands, and its texts say what they do.
use Rattle.std.proofs.Common.{◌≡◌, ℕ, refl}
use Rattle.kb_catalog_text.specs.Texts.{CatalogText, OverdueText}
use Rattle.kb_machine.specs.Histories.{AreNewFrom, replay}
use Rattle.kb_machine.specs.Machines.{no_machine, judged}
use Rattle.kb_folder.specs.Foundings.{first_commands, first_world}

pub both_new : (today : ℕ) (catalog : CatalogText) (overdue : OverdueText)
    → AreNewFrom no_machine (first_commands today catalog overdue)
unfolding AreNewFrom judged
both_new today catalog overdue = (refl, (refl, tt))

pub both_said : (today : ℕ) (catalog : CatalogText) (overdue : OverdueText)
    → (replay (first_commands today catalog overdue)).texts.world ≡ first_world catalog overdue
unfolding replay judged
both_said today catalog overdue = refl
