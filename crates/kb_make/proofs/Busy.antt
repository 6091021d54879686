-- What a lane has that takes a command, and what it is yet to do.
use Rattle.std.proofs.Common.{◌≡◌, List, ap₂}
use Rattle.kb_machine.specs.Machines.{MachineValue}
use Rattle.kb_lane.specs.declared.work.Work.{Work}
use Rattle.kb_make.specs.Makes.{Busy}

-- both parts are the same
pub busy_same : (one other : MachineValue) (works more : List Work) → one ≡ other → works ≡ more
    → (let busy : Busy = record { machine = one; works = works } in busy)
    ≡ (let busy : Busy = record { machine = other; works = more } in busy)
busy_same one other works more same alike =
    ap₂ (λ (machine : MachineValue) (left : List Work).
    let busy : Busy = record { machine = machine; works = left } in busy) same alike
