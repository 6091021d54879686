-- Runs of lanes that are open.
use Rattle.std.specs.Prelude.{ℕ, false, List, Result}
use Rattle.kb_disk.specs.Told.{VaultTold}
use Rattle.kb_gateway.specs.Told.{MarketTold, payments_asked}
use Rattle.kb_lane.specs.Lanes.{LaneValue}
use Rattle.kb_runs.specs.Reading.{Known}
use Rattle.kb_runs.specs.declared.stop.Stop.{Stop}
use Rattle.kb_apply.specs.Applying.{Applies}
use Rattle.kb_apply.specs.LaneRuns.{LanesValue, Outside, lanes_machine}
use Rattle.kb_folder.specs.Openings.{AreBack, AskedOnceEach, GatewaysAreBack, HaveAttemptsEach}

-- The lines of the input are answered by lanes that are open, and their disks and gateways are given back.
pub record RunsOpen {D G C : Type 0} (outside : Outside D G C) (folder : List ℕ)
    (first : List (LaneValue D G)) (clock : C) (old new : VaultTold D) (market market_after : MarketTold G)
    (left left_after written written_after : Known)
    (outcome : Result (Unit {0}) Stop) : Type 0 where
  pub last : LanesValue D G C
  pub ran : Applies (lanes_machine outside) (record { lanes = first; clock = clock; full = false })
      left left_after written written_after last outcome
  pub back : AreBack outside.disks folder old new last.lanes
  pub gateways_back : GatewaysAreBack market market_after last.lanes
  pub once : AskedOnceEach (payments_asked outside.gateways) last.lanes
  pub attempts : HaveAttemptsEach last.lanes
