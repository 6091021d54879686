-- The texts of a shop, as bytes.
use Rattle.std.specs.Prelude.{ℕ, ◌≡◌, List, take, codes, refl}
use Rattle.kb_catalog_text.specs.declared.shop.TheConstants.{SHOP, OVERDUE}

-- its catalog
abbrev pub shop_catalog : List ℕ
shop_catalog = SHOP.now

its_first_key : take 10 shop_catalog ≡ codes "format = 1"
its_first_key = refl

-- its overdue states
abbrev pub shop_overdue : List ℕ
shop_overdue = OVERDUE.now

their_first_key : take 9 shop_overdue ≡ codes "state = ["
their_first_key = refl
