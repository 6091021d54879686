-- What the payments of orders are told of.
use Rattle.std.proofs.Common.{List, [], ◌∷◌, Option, None, Some, map, ap, ◌∙◌}
use Rattle.std.proofs.lemmas.List.{map-append}
use Rattle.kb_ports.specs.Notes.{Notes}
use Rattle.kb_gateway.specs.declared.order.Order.{Order}
use Rattle.kb_gateway.specs.Answers.{asked_of}
use Rattle.kb_gateway.specs.Told.{payments_in}

-- where an order is noted, so is its payment
pub payments_noted : (before after : Option (List Order)) (order : Order) → Notes before order after
    → Notes (payments_in before) (asked_of order) (payments_in after)
payments_noted before None order noted = tt
payments_noted None (Some after) order noted = absurd noted
payments_noted (Some before) (Some after) order noted =
    ap (λ (all : List Order). map asked_of all) noted ∙ map-append asked_of before (order ∷ [])
