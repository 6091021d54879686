-- What lanes write is determined: by their histories, the lines and the days, and what their gateways say.
use Rattle.std.specs.Prelude.{ℕ, ◌≡◌, ◌≢◌, ◌⊎◌, false, true, ⊤, List, [], ◌∷◌, ◌++◌, length, IsSome, Option}
use Rattle.std.specs.Prelude.{Some, Ok, slice_get}
use Rattle.kb_base.specs.Lines.{line_feed}
use Rattle.kb_base.specs.Machine.{IsRun}
use Rattle.kb_gateway.specs.Told.{GatewayTold}
use Rattle.kb_gateway.specs.declared.told.Saying.{Saying}
use Rattle.kb_json.specs.Answers.{say}
use Rattle.kb_json.specs.Requests.{ask}
use Rattle.kb_json.specs.declared.fault.RequestFault.TheVariants as faults
use Rattle.kb_json.specs.declared.request.Request.{Request}
use Rattle.kb_json.specs.declared.said.Said.TheVariants as says
use Rattle.kb_lane.specs.Lanes.{LaneValue}
use Rattle.kb_desk.specs.Stops.{any_stopped}
use Rattle.kb_apply.specs.LaneRuns.{LanesValue, Outside, lanes_machine}

-- Two gateways said the same so far, and both tell it; or both cancel each order.
abbrev pub SaidAlike : {G : Type 0} → GatewayTold G → G → G → Type 0
SaidAlike gateways one other =
    ((all : List Saying) × (gateways.said one ≡ Some all) × (gateways.said other ≡ Some all))
    ⊎ ((gateways.cancels one ≡ true) × (gateways.cancels other ≡ true))

-- Two lanes have the same commands and the same left to do, and their gateways said the same so far. Their
-- disks may be others.
pub record IsAlike {D G : Type 0} (gateways : GatewayTold G) (one other : LaneValue D G) : Type 0 where
  pub history : one.log.history ≡ other.log.history
  pub outbox : one.outbox ≡ other.outbox
  pub said : SaidAlike gateways one.gateway other.gateway

-- As many lanes are alike, each at its place.
pub record AreAlike {D G : Type 0} (gateways : GatewayTold G) (lanes others : List (LaneValue D G)) : Type 0 where
  pub count : length lanes ≡ length others
  pub each : (place : ℕ) (lane other : LaneValue D G) → slice_get lanes place ≡ Some lane
      → slice_get others place ≡ Some other → IsAlike gateways lane other

-- the gateways of lanes said the same, each at its place
abbrev pub AllSaidAlike : {D G : Type 0} → GatewayTold G → List (LaneValue D G) → List (LaneValue D G) → Type 0
AllSaidAlike gateways lanes others = (place : ℕ) (lane other : LaneValue _ _) → slice_get lanes place ≡ Some lane
    → slice_get others place ≡ Some other → SaidAlike gateways lane.gateway other.gateway

-- a line that is a request names its day
abbrev pub NamesDay : List ℕ → Type 0
NamesDay line = (request : Request) → ask true line ≡ Ok request → IsSome request.today

-- so does each of some lines
abbrev pub EachNamesDay : List (List ℕ) → Type 0
EachNamesDay [] = ⊤
EachNamesDay (line ∷ lines) = NamesDay line × EachNamesDay lines

-- Each line names its day; or both clocks tell theirs, and it is the same.
abbrev pub OnSameDays : {C : Type 0} → (C → Option ℕ) → C → C → List (List ℕ) → Type 0
OnSameDays day one other lines = EachNamesDay lines
    ⊎ ((today : ℕ) × (day one ≡ Some today) × (day other ≡ Some today))

-- the answer for which memory ran out
abbrev pub memory_line : List ℕ
memory_line = say (says.Fault faults.NoMemory) ++ line_feed ∷ []

-- no line of a run was answered so
abbrev pub HadMemory : {D G C : Type 0} (outside : Outside D G C) (first : LanesValue D G C)
    (lines : List (List ℕ)) (text : List ℕ) (last : LanesValue D G C)
    → IsRun (lanes_machine outside) first lines text last → Type 0
HadMemory outside first [] text last ran = ⊤
HadMemory outside first (line ∷ lines) text last (said, more, next, step, parts, ran) =
    (said ≢ memory_line) × HadMemory outside next lines more last ran

-- A run in which nothing failed: each line had memory, no append failed, and no lane was full.
pub record RunsWell {D G C : Type 0} (outside : Outside D G C) (first : LanesValue D G C)
    (lines : List (List ℕ)) (text : List ℕ) (last : LanesValue D G C) : Type 0 where
  pub ran : IsRun (lanes_machine outside) first lines text last
  pub memory : HadMemory outside first lines text last ran
  pub running : any_stopped last.lanes ≡ false
  pub room : last.full ≡ false

-- Two runs in which nothing failed, of lanes that are alike, over the same lines on the same days, with
-- gateways that said the same, wrote the same and left lanes that are alike.
abbrev pub RunsAreDetermined : {D G C : Type 0} → Outside D G C → Type 0
RunsAreDetermined {D} {G} {C} outside = (first other : LanesValue D G C) (lines : List (List ℕ))
    (text told : List ℕ) (last end : LanesValue D G C)
    → AreAlike outside.gateways first.lanes other.lanes
    → OnSameDays outside.day first.clock other.clock lines
    → RunsWell outside first lines text last → RunsWell outside other lines told end
    → AllSaidAlike outside.gateways last.lanes end.lanes
    → (text ≡ told) × AreAlike outside.gateways last.lanes end.lanes
