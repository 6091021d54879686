-- Commands that leave what is due.
use Rattle.std.specs.Prelude.{◌≡◌, Bool, true, false, None, codes, refl}
use Rattle.kb_codec.specs.declared.command.Command.{Command}
use Rattle.kb_codec.specs.declared.command.Command.TheVariants as kinds
use Rattle.kb_codec.specs.declared.action.Action.{Action}
use Rattle.kb_codec.specs.declared.action.Action.TheVariants as actions

-- An action leaves what is due, since its own edit is of no subscription, no blocking state and no billed
-- date. So do some other actions, but not for each book.
abbrev pub action_leaves_due : Action → Bool
action_leaves_due (actions.Charge c) = true
action_leaves_due (actions.Credit c) = true
action_leaves_due (actions.Pay c) = true
action_leaves_due (actions.Refund c) = true
action_leaves_due (actions.Chargeback c) = true
action_leaves_due (actions.Autopay c) = true
action_leaves_due _ = false

-- so do the commands of these, automatic payments and settlements
abbrev pub leaves_due : Command → Bool
leaves_due (kinds.Act account key action) = action_leaves_due action
leaves_due (kinds.Auto c) = true
leaves_due (kinds.Settle c) = true
leaves_due _ = false

a_bill_may_not : leaves_due (kinds.Act (codes "a1") (codes "k1") (actions.Bill (record { day = None })))
    ≡ false
a_bill_may_not = refl

a_payment_does : leaves_due (kinds.Auto (record { account = codes "a1"; invoice = 1 })) ≡ true
a_payment_does = refl
