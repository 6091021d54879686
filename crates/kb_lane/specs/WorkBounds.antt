-- How much work a lane has left at most.
use Rattle.std.specs.Prelude.{ℕ, ◌+◌, ◌*◌, ◌≤◌, List, length, sum_by}
use Rattle.kb_histories.specs.OwnWork.{all_work}
use Rattle.kb_histories.specs.NamedWork.{named_accounts, named_invoices}
use Rattle.kb_codec.specs.Entries.{History}
use Rattle.kb_machine.specs.Histories.{replay}
use Rattle.kb_lane.specs.declared.work.Work.{Work}
use Rattle.kb_lane.specs.LaneWork.{entry_work, is_named}

-- The `lane_work` of a lane with this outbox and this history: at most two steps for each entry, and for each
-- account that the entries name 4 and for each of its invoices 3.
abbrev pub LaneWorkIsBounded : Type 0
LaneWorkIsBounded = (today : ℕ) (outbox : List Work) (history : History)
    → sum_by entry_work outbox + all_work (is_named outbox) today (replay history)
    ≤ 2 * length outbox + 4 * named_accounts (is_named outbox) (replay history)
    + 3 * named_invoices (is_named outbox) (replay history)
