-- The texts of the shop, as they are read.
use Rattle.std.specs.Prelude.{◌≡◌, Some}
use Rattle.kb_catalog_text.specs.Shops.{shop_catalog, shop_overdue}
use Rattle.kb_catalog_text.specs.Texts.{CatalogText, OverdueText}
use Rattle.kb_codec.specs.Commands.{IsCatalogText, IsOverdueText}
use Rattle.kb_folder.specs.Foundings.{AreTextsOf}

-- what its catalog is read as
unfoldable pub IsShopCatalog : CatalogText → Type 0
IsShopCatalog text = (text.text ≡ shop_catalog) × IsCatalogText text

-- what its overdue states are read as
unfoldable pub IsShopOverdue : OverdueText → Type 0
IsShopOverdue text = (text.text ≡ shop_overdue) × IsOverdueText text

-- both
unfoldable pub AreShopTexts : CatalogText → OverdueText → Type 0
AreShopTexts catalog overdue = AreTextsOf (Some shop_catalog) (Some shop_overdue) catalog overdue
