-- The work that a lane has left on a day, in steps.
use Rattle.std.specs.Prelude.{ℕ, ◌+◌, ◌≡◌, Bool, true, bytes_eq, List, [], ◌∷◌, sum_by, codes, refl}
use Rattle.std.specs.List.{list_any}
use Rattle.kb_days.specs.Dates.{march}
use Rattle.kb_histories.specs.SmallMachines.{owing_book, machine_with}
use Rattle.kb_histories.specs.OwnWork.{all_work}
use Rattle.kb_lane.specs.declared.work.Work.{Work}
use Rattle.kb_lane.specs.declared.work.Work.TheVariants.{Ask, Check}
use Rattle.kb_lane.specs.Lanes.{LaneValue, machine_of}

-- what an entry of an outbox takes: a look is one step, and an order two, since its settlement leaves a look
abbrev pub entry_work : Work → ℕ
entry_work (Check account) = 1
entry_work (Ask account key) = 2

-- the account of an entry
abbrev pub account_in : Work → List ℕ
account_in (Check account) = account
account_in (Ask account key) = account

-- some entry of an outbox names an account
abbrev pub is_named : List Work → List ℕ → Bool
is_named outbox account = list_any (λ entry. bytes_eq account (account_in entry)) outbox

-- The work left: what the entries take, and what the accounts that they name may yet ask for by themselves.
abbrev pub lane_work : {D G : Type 0} → ℕ → LaneValue D G → ℕ
lane_work today lane =
    sum_by entry_work lane.outbox + all_work (is_named lane.outbox) today (machine_of lane)

-- a look at an account that owes an invoice and has it paid automatically, beside an order for another one
a_look_and_an_order : sum_by entry_work (Check (codes "a1") ∷ Ask (codes "a2") (codes "p1") ∷ []) ≡ 3
a_look_and_an_order = refl

what_it_may_ask_for : all_work (is_named (Check (codes "a1") ∷ Ask (codes "a2") (codes "p1") ∷ [])) (march 2)
    (machine_with (owing_book true))
    ≡ 7
what_it_may_ask_for = refl
