-- A gateway that takes each payment answers each order so.
use Rattle.std.proofs.Common.{◌≡◌, List, [], ◌∷◌, ◌++◌, Some, map, Result, Ok, Err, ap}
use Rattle.kb_base.specs.declared.fault.Failed.{Failed}
use Rattle.kb_gateway.specs.declared.order.Asked.{Asked}
use Rattle.kb_gateway.specs.declared.order.Order.{Order}
use Rattle.kb_gateway.specs.declared.told.Call.{Call}
use Rattle.kb_gateway.specs.declared.told.Heard.TheVariants as heard
use Rattle.kb_gateway.specs.declared.told.Saying.{Saying}
use Rattle.kb_gateway.specs.declared.told.Told.{Told}
use Rattle.kb_gateway.specs.declared.told.Told.TheVariants.{Processed}
use Rattle.kb_ports.specs.Notes.{Notes}
use Rattle.kb_gateway.specs.Answers.{heard_of_ask, said_of_ask}
use Rattle.kb_make.specs.Private.Sayings.{saying_of}

-- what is heard of an answer that went through
heard-paid : (answer : Result Told Failed) → heard.Told Processed ≡ heard_of_ask answer
    → answer ≡ Ok Processed
heard-paid (Ok told) is = cc
heard-paid (Err failed) is = cc

-- a list of its sayings that ends with the answer to an order
sayings-paid : (before after : List (Asked × Call)) (order : Order) (answer : Result Told Failed)
    → map saying_of after ≡ map saying_of before ++ said_of_ask order answer ∷ [] → answer ≡ Ok Processed
sayings-paid [] [] order answer is = cc
sayings-paid [] (call ∷ later) order answer is =
    let same : saying_of call ≡ said_of_ask order answer = cc in
    heard-paid answer (ap (λ (saying : Saying). saying.heard) same)
sayings-paid (first ∷ before) [] order answer is = cc
sayings-paid (first ∷ before) (call ∷ later) order answer is =
    let rest : map saying_of later ≡ map saying_of before ++ said_of_ask order answer ∷ [] = cc in
    sayings-paid before later order answer rest

pub notes_paid : (before after : List (Asked × Call)) (order : Order) (answer : Result Told Failed)
    → Notes (Some (map saying_of before)) (said_of_ask order answer) (Some (map saying_of after))
    → answer ≡ Ok Processed
notes_paid before after order answer noted = sayings-paid before after order answer noted
