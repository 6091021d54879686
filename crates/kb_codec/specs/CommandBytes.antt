-- The one spelling of each command.
use Rattle.std.specs.Prelude.{ℕ, ◌≡◌, false, List, [], ◌∷◌, ◌++◌, codes, refl}
use Rattle.kb_codec.specs.declared.command.Command.{Command}
use Rattle.kb_codec.specs.declared.command.Command.TheVariants as kinds
use Rattle.kb_codec.specs.declared.action.Action.{Action}
use Rattle.kb_codec.specs.declared.action.Action.TheVariants as actions
use Rattle.kb_codec.specs.Members.{name_bytes, currency_bytes, bcd_bytes, day_bytes, invoice_bytes}
use Rattle.kb_codec.specs.Members.{amount_bytes, optional_bytes, truth_bytes, period_bytes, scope_bytes}
use Rattle.kb_codec.specs.Members.{status_bytes, flags_bytes, text_bytes}

-- the kind of an action
abbrev pub kind_of : Action → ℕ
kind_of (actions.OpenAccount c) = 3
kind_of (actions.Create c) = 4
kind_of (actions.Change c) = 5
kind_of (actions.Cancel c) = 6
kind_of (actions.Uncancel c) = 7
kind_of (actions.Pause c) = 8
kind_of (actions.Resume c) = 9
kind_of (actions.Block c) = 10
kind_of (actions.Bill c) = 11
kind_of (actions.Charge c) = 12
kind_of (actions.Credit c) = 13
kind_of (actions.Pay c) = 14
kind_of (actions.Refund c) = 15
kind_of (actions.Chargeback c) = 16
kind_of (actions.Autopay c) = 17

-- the own members of an action, in order
abbrev pub members_of : Action → List ℕ
members_of (actions.OpenAccount c) = currency_bytes c.currency ++ bcd_bytes c.bcd ++ truth_bytes c.autopay
members_of (actions.Create c) =
    name_bytes c.bundle ++ name_bytes c.subscription ++ name_bytes c.product ++ period_bytes c.period
    ++ name_bytes c.list ++ optional_bytes day_bytes c.day
members_of (actions.Change c) =
    name_bytes c.subscription ++ name_bytes c.product ++ period_bytes c.period ++ name_bytes c.list
    ++ optional_bytes day_bytes c.day
members_of (actions.Cancel c) = name_bytes c.subscription ++ optional_bytes day_bytes c.day
members_of (actions.Uncancel c) = name_bytes c.subscription
members_of (actions.Pause c) = name_bytes c.bundle ++ optional_bytes day_bytes c.day
members_of (actions.Resume c) = name_bytes c.bundle ++ optional_bytes day_bytes c.day
members_of (actions.Block c) =
    scope_bytes c.scope ++ name_bytes c.target ++ name_bytes c.service ++ name_bytes c.state
    ++ optional_bytes day_bytes c.day ++ flags_bytes c.flags
members_of (actions.Bill c) = optional_bytes day_bytes c.day
members_of (actions.Charge c) = amount_bytes c.amount
members_of (actions.Credit c) = amount_bytes c.amount
members_of (actions.Pay c) =
    name_bytes c.payment ++ invoice_bytes c.invoice ++ optional_bytes amount_bytes c.amount
members_of (actions.Refund c) = name_bytes c.payment ++ name_bytes c.of ++ amount_bytes c.amount
members_of (actions.Chargeback c) = name_bytes c.payment ++ name_bytes c.of ++ amount_bytes c.amount
members_of (actions.Autopay c) = truth_bytes c.on

-- a command: its kind, and then its members in order; an action has its account and its key before its own
abbrev pub spelling : Command → List ℕ
spelling (kinds.Catalog c) = 1 ∷ name_bytes c.key ++ text_bytes c.text.text
spelling (kinds.OverdueRules c) = 2 ∷ name_bytes c.key ++ text_bytes c.text.text
spelling (kinds.Act account key action) =
    kind_of action ∷ name_bytes account ++ name_bytes key ++ members_of action
spelling (kinds.Auto c) = 18 ∷ name_bytes c.account ++ invoice_bytes c.invoice
spelling (kinds.Settle c) = 19 ∷ name_bytes c.account ++ name_bytes c.payment ++ status_bytes c.status
spelling (kinds.Overdue c) = 20 ∷ name_bytes c.account

open_a1 : spelling (kinds.Act (codes "a1") (codes "k1") (actions.OpenAccount (record {
  currency = codes "USD";
  bcd = 1;
  autopay = false;
}))) ≡ 3 ∷ 2 ∷ 97 ∷ 49 ∷ 2 ∷ 107 ∷ 49 ∷ 85 ∷ 83 ∷ 68 ∷ 1 ∷ 0 ∷ []
unfolding name_bytes currency_bytes bcd_bytes truth_bytes
open_a1 = refl

uncancel_s1 : spelling
    (kinds.Act (codes "a1") (codes "k2") (actions.Uncancel (record { subscription = codes "s1" })))
    ≡ 7 ∷ 2 ∷ 97 ∷ 49 ∷ 2 ∷ 107 ∷ 50 ∷ 2 ∷ 115 ∷ 49 ∷ []
unfolding name_bytes
uncancel_s1 = refl
