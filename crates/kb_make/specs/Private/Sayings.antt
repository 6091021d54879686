-- What a gateway says that takes each payment.
use Rattle.std.specs.Prelude.{◌≡◌, false, List, map, None, Some, codes, refl}
use Rattle.kb_gateway.specs.declared.order.Asked.{Asked}
use Rattle.kb_gateway.specs.declared.told.Call.{Call}
use Rattle.kb_gateway.specs.declared.told.Call.TheVariants.{Ask}
use Rattle.kb_gateway.specs.declared.told.Told.TheVariants.{Processed}
use Rattle.kb_gateway.specs.declared.told.Heard.TheVariants as heard
use Rattle.kb_gateway.specs.declared.told.Saying.{Saying}
use Rattle.kb_gateway.specs.Told.{GatewayTold}

-- what is heard at each call: the payment went through
abbrev pub saying_of : Asked × Call → Saying
saying_of called = record {
  account = called.0.account;
  key = called.0.key;
  call = called.1;
  heard = heard.Told Processed;
}

a_payment : saying_of (record { account = codes "a1"; key = codes "p1" }, Ask)
    ≡ record { account = codes "a1"; key = codes "p1"; call = Ask; heard = heard.Told Processed }
a_payment = refl

-- what it tells: what it said, and that no call fails
abbrev pub paid_told : GatewayTold (List (Asked × Call))
paid_told = record {
  asked = λ gateway. None;
  said = λ gateway. Some (map saying_of gateway);
  faults = λ gateway. 0;
  cancels = λ gateway. false;
}
