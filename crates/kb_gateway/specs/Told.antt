-- What gateways and markets tell.
use Rattle.std.specs.Prelude.{ℕ, ◌≡◌, Bool, true, List, [], Option, None, IfSome, map, option_map}
use Rattle.kb_gateway.specs.declared.order.Asked.{Asked}
use Rattle.kb_gateway.specs.declared.order.Order.{Order}
use Rattle.kb_gateway.specs.declared.told.Saying.{Saying}
use Rattle.kb_gateway.specs.Answers.{asked_of}

-- What is told of gateways: the orders that one was asked, in order, failed ones too, and what it was heard
-- to
-- say at each call, both where it tells them; how many calls have failed; and whether it cancels each order
-- and has seen none.
pub record GatewayTold (G : Type 0) : Type 0 where
  pub asked : G → Option (List Order)
  pub said : G → Option (List Saying)
  pub faults : G → ℕ
  pub cancels : G → Bool

-- the payments of these orders, where they are told
abbrev pub payments_in : Option (List Order) → Option (List Asked)
payments_in orders = option_map (λ (all : List Order). map asked_of all) orders

-- the payments that a gateway was asked for, where it tells them
abbrev pub payments_asked : {G : Type 0} → GatewayTold G → G → Option (List Asked)
payments_asked gateways gateway = payments_in (gateways.asked gateway)

-- A gateway was asked and said nothing, where it tells that.
pub record IsUnasked {G : Type 0} (gateways : GatewayTold G) (gateway : G) : Type 0 where
  pub asked : IfSome (gateways.asked gateway) (λ asked. asked ≡ [])
  pub said : IfSome (gateways.said gateway) (λ said. said ≡ [])

-- What is told of a market: how many calls have failed; and of each lane, by its number, the gateways that
-- came
-- back, in order, each as it was then, where the market tells them.
pub record MarketTold (G : Type 0) : Type 0 where
  pub faults : ℕ
  pub came_back : ℕ → Option (List G)

-- what a gateway tells that no order reaches: it cancels each, and never fails
abbrev pub canceling : {G : Type 0} → GatewayTold G
canceling = record {
  asked = λ gateway. None;
  said = λ gateway. None;
  faults = λ gateway. 0;
  cancels = λ gateway. true;
}

-- what a market tells that nobody asks
abbrev pub no_market_told : {G : Type 0} → MarketTold G
no_market_told = record { faults = 0; came_back = λ number. None }
