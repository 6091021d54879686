-- How much work the accounts of a history may yet ask for by themselves.
use Rattle.std.specs.Prelude.{ℕ, ◌+◌, ◌*◌, ◌≡◌, ◌≤◌, Bool, true, List, refl}
use Rattle.kb_days.specs.Dates.{march}
use Rattle.kb_codec.specs.Entries.{History}
use Rattle.kb_machine.specs.Histories.{replay}
use Rattle.kb_machine.specs.Machines.{MachineValue}
use Rattle.kb_histories.specs.SmallMachines.{owing_book, machine_with}
use Rattle.kb_histories.specs.OwnWork.{all_work}
use Rattle.kb_histories.specs.NamedWork.{named_accounts, named_invoices}

-- at most a transition of each account, and an automatic payment of each of its invoices
abbrev pub ReplayedWorkIsBounded : Type 0
ReplayedWorkIsBounded = (history : History) (today : ℕ) (named : List ℕ → Bool)
    → all_work named today (replay history)
    ≤ 4 * named_accounts named (replay history) + 3 * named_invoices named (replay history)

-- an account that owes an invoice and has it paid automatically may ask for as much
abbrev automatic : MachineValue
automatic = machine_with (owing_book true)

as_much : all_work (λ account. true) (march 2) automatic
    ≡ 4 * named_accounts (λ account. true) automatic + 3 * named_invoices (λ account. true) automatic
as_much = refl
