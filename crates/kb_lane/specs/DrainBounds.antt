-- How many entries of an outbox are handled at most, told by the invoices that there are at the end.
use Rattle.std.specs.Prelude.{ℕ, ◌+◌, ◌*◌, ◌^◌, ◌≡◌, ◌≤◌, ◌<◌, List, [], ◌∷◌, length, codes, true, refl}
use Rattle.kb_days.specs.Calendar.{last_day}
use Rattle.kb_gateway.specs.Told.{GatewayTold}
use Rattle.kb_book.specs.declared.step.Step.{Step}
use Rattle.kb_histories.specs.NamedWork.{named_accounts, named_invoices}
use Rattle.kb_histories.specs.SmallMachines.{owing_book, machine_with}
use Rattle.kb_lane.specs.declared.work.Work.{Work}
use Rattle.kb_lane.specs.declared.work.Work.TheVariants.{Ask, Check}
use Rattle.kb_lane.specs.Lanes.{LaneValue, machine_of}
use Rattle.kb_lane.specs.LaneWork.{is_named}
use Rattle.kb_lane.specs.Drains.{Handles, EndsAfter}

-- Up to a step that isn't done at most two entries are handled for each that waits, one for each account that
-- these name, and three for each invoice that these accounts have at the end.
abbrev pub DrainsAreBounded : {D G : Type 0} → (D → ℕ) → GatewayTold G → Type 0
DrainsAreBounded fault_count gateways = (today count : ℕ) (old new : LaneValue _ _) (step : Step)
    → today ≤ last_day → length new.log.history < 2 ^ 64
    → EndsAfter (Handles fault_count gateways today) count old new step
    → count ≤ 2 * length old.outbox + named_accounts (is_named old.outbox) (machine_of old)
    + 3 * named_invoices (is_named old.outbox) (machine_of new)

-- a look at an account and a payment to ask for, if that account has one invoice and no other is named
abbrev look_and_ask : List Work
look_and_ask = Check (codes "a1") ∷ Ask (codes "a1") (codes "p1") ∷ []

at_most_eight : 2 * length look_and_ask
    + named_accounts (is_named look_and_ask) (machine_with (owing_book true))
    + 3 * named_invoices (is_named look_and_ask) (machine_with (owing_book true))
    ≡ 8
at_most_eight = refl
