-- The bills of a lane's accounts.
use Rattle.std.specs.Prelude.{ℕ, ◌≡◌, ◌++◌, List, [], ◌∷◌, Some, codes, refl, map}
use Rattle.kb_days.specs.DateText.{date_text, civil_text}
use Rattle.kb_days.specs.Dates.{march}
use Rattle.kb_days.specs.Calendar.{month_start, month_of, day_of_month, month_after, month_length}
use Rattle.kb_codec.specs.declared.command.Command.{Command}
use Rattle.kb_codec.specs.declared.command.Command.TheVariants as kinds
use Rattle.kb_codec.specs.declared.action.Action.TheVariants as actions
use Rattle.kb_gateway.specs.Told.{GatewayTold}
use Rattle.kb_machine.specs.Machines.{MachineValue}
use Rattle.kb_lane.specs.Lanes.{LaneValue, machine_of}
use Rattle.kb_lane.specs.Replies.{Performs}
use Rattle.kb_lane.specs.Drains.{Drains}
use Rattle.kb_lane.specs.Tallies.{Answer}

-- the key of an account's bill of a day, which no caller may use
abbrev pub bill_key : ℕ → List ℕ
bill_key day = codes "bill-" ++ date_text day

of_march : bill_key (march 25) ≡ codes "bill-2024-03-25"
unfolding date_text civil_text day_of_month month_of month_after month_start month_length
of_march = refl

-- the bill of an account up to a day
abbrev pub bill_of : List ℕ → ℕ → Command
bill_of account day = kinds.Act account (bill_key day) (actions.Bill (record { day = Some day }))

-- An account is given its bill of a day, on that day, and what this leaves to do is handled.
abbrev pub BillsAccount : {D G : Type 0} → (D → ℕ) → GatewayTold G → ℕ → List ℕ → LaneValue D G → LaneValue D
    G → Answer → Type 0
BillsAccount fault_count gateways day account old new answer = (billed : LaneValue _ _)
    × Performs fault_count old billed day (bill_of account day) answer.0
    × Drains fault_count gateways day billed new answer.1

-- Accounts are billed one after another, whatever comes of each.
abbrev pub BillsEach : {D G : Type 0} → (D → ℕ) → GatewayTold G → ℕ → List (List ℕ) → LaneValue D G
    → LaneValue D G → List Answer → Type 0
BillsEach fault_count gateways day [] old new answers = (answers ≡ []) × (new ≡ old)
BillsEach fault_count gateways day (account ∷ later) old new answers =
    (answer : Answer) × (rest : List Answer) × (between : LaneValue _ _) × (answers ≡ answer ∷ rest)
    × BillsAccount fault_count gateways day account old between answer
    × BillsEach fault_count gateways day later between new rest

-- the accounts of a machine, by name
abbrev pub account_names : MachineValue → List (List ℕ)
account_names machine = map (λ entry. entry.0) machine.books

-- All accounts of a lane are billed, by name.
abbrev pub BillsLane : {D G : Type 0} → (D → ℕ) → GatewayTold G → ℕ → LaneValue D G → LaneValue D G → List
    Answer → Type 0
BillsLane fault_count gateways day old new answers =
    BillsEach fault_count gateways day (account_names (machine_of old)) old new answers
