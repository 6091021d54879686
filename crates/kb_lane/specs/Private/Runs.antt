-- What the steps of a run need of one another.
use Rattle.std.specs.Prelude.{◌≡◌, false, List, All}
use Rattle.kb_gateway.specs.declared.order.Asked.{Asked}
use Rattle.kb_codec.specs.declared.command.Command.{Command}
use Rattle.kb_histories.specs.Attempts.{settles}
use Rattle.kb_book.specs.declared.step.Step.{Step}
use Rattle.kb_book.specs.declared.step.Step.TheVariants as steps
use Rattle.kb_lane.specs.declared.work.Work.{Work}
use Rattle.kb_lane.specs.Asking.{asks_in}

-- a command settles none of the payments that an outbox is yet to ask for
abbrev pub SettlesNone : Command → List Work → Type 0
SettlesNone command outbox = All (λ (one : Asked). settles command one.account one.key ≡ false)
    (asks_in outbox)

-- there was an entry, and memory for it
abbrev pub IsBusy : Step → Type 0
IsBusy steps.Idle = ⊥
IsBusy steps.NoMemory = ⊥
IsBusy step = Unit {0}
