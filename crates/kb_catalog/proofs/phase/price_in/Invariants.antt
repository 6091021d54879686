-- The price among those that are left is the price among all.
use Rattle.std.proofs.Common.{◌≡◌, drop}
use Rattle.kb_catalog.specs.Plans.{price_in}
use Rattle.kb_catalog.proofs.phase.price_in.Given as goal

abbrev pub invariant-loop-price : goal.invariant-loop-price
invariant-loop-price l = price_in l.currency (drop l.price-index l.prices) ≡ price_in l.currency l.prices
