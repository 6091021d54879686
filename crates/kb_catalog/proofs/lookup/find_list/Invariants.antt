-- The lists that are left give what all give.
use Rattle.std.proofs.Common.{◌≡◌, bytes_eq, drop}
use Rattle.std.specs.List.{position_from}
use Rattle.kb_catalog.specs.declared.price_list.PriceList.{PriceList}
use Rattle.kb_catalog.specs.LookUp.{names_sold}
use Rattle.kb_catalog.proofs.lookup.find_list.Given as goal

abbrev pub invariant-loop-place : goal.invariant-loop-place
invariant-loop-place l =
    (position_from (λ (list : PriceList). bytes_eq l.name list.name) l.place (drop l.place l.lists)
    ≡ position_from (λ (list : PriceList). bytes_eq l.name list.name) 0 l.lists)
    × (names_sold (drop l.place l.lists) l.name ≡ names_sold l.lists l.name)
