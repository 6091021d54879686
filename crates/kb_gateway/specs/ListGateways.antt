-- A gateway in memory.
use Rattle.std.specs.Prelude.{ℕ, ◌≡◌, ◌==◌, false, List, [], ◌∷◌, Option, Some, map, option_map, refl}
use Rattle.std.specs.List.{filter}
use Rattle.kb_gateway.specs.declared.order.Order.{Order}
use Rattle.kb_gateway.specs.Told.{GatewayTold, MarketTold}
use Rattle.kb_gateway.specs.declared.told.Saying.{Saying}
use Rattle.kb_gateway.specs.declared.told.Told.{Told}
use Rattle.kb_gateway.specs.declared.told.Told.TheVariants.{Undefined}
use Rattle.kb_gateway.specs.declared.told.Seen.{Seen}
use Rattle.kb_gateway.specs.declared.told.Seen.TheVariants.{NotSeen}

-- The answers to orders and to look-ups that are still to come, from the next one on; the numbers of the
-- calls that are to fail, the calls so far, and how many failed; and what was asked and said, if each call
-- was noted.
pub record GatewayValue : Type 0 where
  pub told : List Told
  pub seen : List Seen
  pub failing : List ℕ
  pub calls : ℕ
  pub faults : ℕ
  pub asked : Option (List Order)
  pub said : Option (List Saying)

-- what it tells of itself: it answers orders
abbrev pub list_told : GatewayTold GatewayValue
list_told = record {
  asked = λ gateway. gateway.asked;
  said = λ gateway. gateway.said;
  faults = λ gateway. gateway.faults;
  cancels = λ gateway. false;
}

-- these answers, before any call
abbrev pub new_gateway : List Told → List Seen → List ℕ → GatewayValue
new_gateway told seen failing = record {
  told = told;
  seen = seen;
  failing = failing;
  calls = 0;
  faults = 0;
  asked = Some [];
  said = Some [];
}

-- the next answers: where none are left, that the gateway can't say, and that it never saw the order
abbrev pub next_told : List Told → Told
next_told [] = Undefined
next_told (told ∷ later) = told

abbrev pub next_seen : List Seen → Seen
next_seen [] = NotSeen
next_seen (seen ∷ later) = seen

-- the gateway as a lane gets it: what it tells begins anew
abbrev pub begun : GatewayValue → GatewayValue
begun gateway = record gateway {
  asked = option_map (λ asked. []) gateway.asked;
  said = option_map (λ said. []) gateway.said;
}

-- A market in memory: the gateways that are left to give out, the numbers of the calls that are to fail, the
-- calls so far, and how many failed; and the gateways that came back, each with the number of its lane.
pub record MarketValue : Type 0 where
  pub gateways : List GatewayValue
  pub failing : List ℕ
  pub calls : ℕ
  pub faults : ℕ
  pub came_back : List (ℕ × GatewayValue)

-- these gateways, before any call
abbrev pub new_market : List GatewayValue → List ℕ → MarketValue
new_market gateways failing =
    record { gateways = gateways; failing = failing; calls = 0; faults = 0; came_back = [] }

-- of what came back, that of a lane
abbrev pub came_of : {A : Type 0} → List (ℕ × A) → ℕ → List A
came_of came lane = map (λ one. one.1) (filter (λ one. one.0 == lane) came)

of_lane_1 : came_of {A = ℕ} ((0, 5) ∷ (1, 7) ∷ (0, 9) ∷ []) 1 ≡ 7 ∷ []
of_lane_1 = refl

-- what a market in memory tells
abbrev pub market_told : MarketValue → MarketTold GatewayValue
market_told market =
    record { faults = market.faults; came_back = λ lane. Some (came_of market.came_back lane) }
