-- What a gateway is asked and tells, and what becomes of an attempt by it.
use Rattle.std.specs.Prelude.{Result, Ok, Err}
use Rattle.kb_base.specs.declared.fault.Failed.{Failed}
use Rattle.kb_payment.specs.declared.attempt.Status.{Status}
use Rattle.kb_payment.specs.declared.attempt.Status.TheVariants.{Unknown, Success, PaymentFailure}
use Rattle.kb_payment.specs.declared.attempt.Status.TheVariants.{PluginFailure}
use Rattle.kb_payment.specs.declared.attempt.Status.TheVariants as status
use Rattle.kb_gateway.specs.declared.order.Order.{Order}
use Rattle.kb_gateway.specs.declared.order.Asked.{Asked}
use Rattle.kb_gateway.specs.declared.told.Told.{Told}
use Rattle.kb_gateway.specs.declared.told.Told.TheVariants.{Processed, Pending, Error, Canceled, Undefined}
use Rattle.kb_gateway.specs.declared.told.Seen.{Seen}
use Rattle.kb_gateway.specs.declared.told.Seen.TheVariants as seen
use Rattle.kb_gateway.specs.declared.told.Call.TheVariants.{Ask, LookUp}
use Rattle.kb_gateway.specs.declared.told.Heard.{Heard}
use Rattle.kb_gateway.specs.declared.told.Heard.TheVariants as heard
use Rattle.kb_gateway.specs.declared.told.Saying.{Saying}

-- the status that an attempt gets
abbrev pub status_of : Told → Status
status_of Processed = Success
status_of Pending = status.Pending
status_of Error = PaymentFailure
status_of Canceled = PluginFailure
status_of Undefined = Unknown

-- the order as it is noted
abbrev pub asked_of : Order → Asked
asked_of order = record { account = order.account; key = order.key }

-- what is heard when an order is asked
abbrev pub heard_of_ask : Result Told Failed → Heard
heard_of_ask (Ok told) = heard.Told told
heard_of_ask (Err failed) = heard.Failed

abbrev pub said_of_ask : Order → Result Told Failed → Saying
said_of_ask order result =
    record { account = order.account; key = order.key; call = Ask; heard = heard_of_ask result }

-- what is heard when one is looked up
abbrev pub heard_of_look_up : Result Seen Failed → Heard
heard_of_look_up (Ok (seen.Told told)) = heard.Told told
heard_of_look_up (Ok seen.NotSeen) = heard.NotSeen
heard_of_look_up (Err failed) = heard.Failed

abbrev pub said_of_look_up : Order → Result Seen Failed → Saying
said_of_look_up order result =
    record { account = order.account; key = order.key; call = LookUp; heard = heard_of_look_up result }
