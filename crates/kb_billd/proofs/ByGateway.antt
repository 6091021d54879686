-- `apply`, by the gateway that is named.
use Rattle.std.specs.Prelude.{⊤}
use Rattle.std.proofs.Common.{◌≡◌, ℕ, List, Option, None, Some, Result, sym, subst}
use Rattle.kb_disk.specs.Told.{VaultTold}
use Rattle.kb_gateway.specs.Told.{MarketTold, no_market_told}
use Rattle.kb_runs.specs.Reading.{Known}
use Rattle.kb_apply.specs.LaneRuns.{Outside}
use Rattle.kb_runs.specs.declared.stop.Stop.{Stop}
use Rattle.kb_billd.specs.Runs.{AppliesFolder}
use Rattle.kb_billd.specs.TopCall.{AppliesBy, alone, around_of}

module _ {D G C : Type 0} (outside : Outside D G C) (serves : G → List ℕ → ℕ → Type 0) (folder : List ℕ)
    (clock : C) (left left_after written written_after : Known) (old new : VaultTold D)
    (market market_after : MarketTold G) (outcome : Result (Unit {0}) Stop) (named : Option (List ℕ)) where
  -- with those of a market
  pub by_market : (name : List ℕ) → named ≡ Some name
      → AppliesFolder outside (λ gateway place. serves gateway name place) folder clock old new market
      market_after left left_after written written_after outcome
      → AppliesBy outside serves folder clock (around_of left written old market)
      (around_of left_after written_after new market_after) outcome named
  by_market name is applies = subst (AppliesBy outside serves folder clock
      (around_of left written old market) (around_of left_after written_after new market_after) outcome)
      (sym is) applies

  -- or with none
  pub by_none : named ≡ None → market_after ≡ market
      → AppliesFolder (alone outside) (λ gateway place. ⊤) folder clock old new no_market_told no_market_told
      left left_after written written_after outcome
      → AppliesBy outside serves folder clock (around_of left written old market)
      (around_of left_after written_after new market_after) outcome named
  by_none is same applies = subst (AppliesBy outside serves folder clock
      (around_of left written old market) (around_of left_after written_after new market_after) outcome)
      (sym is) (same, applies)
