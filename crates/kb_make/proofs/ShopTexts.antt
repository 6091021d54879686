-- The texts of the shop, as a lane has them.
use Rattle.std.proofs.Common.{◌≡◌, ℕ, Some, Result, Ok, Err, OnOk, ap, ◌∙◌}
use Rattle.kb_catalog_text.specs.Shops.{shop_catalog, shop_overdue}
use Rattle.kb_catalog_text.specs.Texts.{CatalogText, OverdueText}
use Rattle.kb_machine.specs.Machines.{MachineValue, no_machine}
use Rattle.kb_machine.specs.Histories.{entry_after, replay}
use Rattle.kb_folder.specs.Foundings.{AreTextsOf, catalog_command, first_commands, overdue_command}
use Rattle.kb_make.specs.Private.ShopTexts.{AreShopTexts, IsShopCatalog, IsShopOverdue}

pub are_both : (catalog : CatalogText) (overdue : OverdueText) → IsShopCatalog catalog → IsShopOverdue overdue
    → AreShopTexts catalog overdue
unfolding AreShopTexts IsShopCatalog IsShopOverdue
are_both catalog overdue one other =
    record { catalog_kept = one.0; catalog_said = one.1; overdue_kept = other.0; overdue_said = other.1 }

pub are_texts : (catalog : CatalogText) (overdue : OverdueText) → AreShopTexts catalog overdue
    → AreTextsOf (Some shop_catalog) (Some shop_overdue) catalog overdue
unfolding AreShopTexts
are_texts catalog overdue both = both

-- a machine that took both is what they lead to
pub handed_in : (today : ℕ) (catalog : CatalogText) (overdue : OverdueText) (first next last : MachineValue)
    → first ≡ no_machine → next ≡ entry_after first (today, catalog_command catalog)
    → last ≡ entry_after next (today, overdue_command overdue)
    → last ≡ replay (first_commands today catalog overdue)
unfolding replay
handed_in today catalog overdue first next last none one other =
    other ∙ ap (λ (machine : MachineValue). entry_after machine (today, overdue_command overdue))
    (one ∙ ap (λ (machine : MachineValue). entry_after machine (today, catalog_command catalog)) none)

-- what follows where a call succeeds
pub where_ok : {A E P Q : Type 0} (result : Result A E) → (P → Q) → OnOk result P → OnOk result Q
where_ok (Ok value) follows told = follows told
where_ok (Err fault) follows told = tt
