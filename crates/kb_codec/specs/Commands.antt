-- What the members of a command may be.
use Rattle.std.specs.Prelude.{ℕ, ⊤, ◌≤◌, ◌<◌, ◌^◌, ◌≡◌, IfSome, Ok, codes, refl}
use Rattle.kb_days.specs.Names.{IsName}
use Rattle.kb_days.specs.Calendar.{first_day, last_day}
use Rattle.kb_money.specs.Currency.{IsCurrency}
use Rattle.kb_catalog_text.specs.Texts.{CatalogText, OverdueText, catalog_read, overdue_read}
use Rattle.kb_codec.specs.declared.amount.TheConstants.{MAX_AMOUNT}
use Rattle.kb_codec.specs.declared.command.Command.{Command}
use Rattle.kb_codec.specs.declared.command.Command.TheVariants as kinds
use Rattle.kb_codec.specs.declared.action.Action.{Action}
use Rattle.kb_codec.specs.declared.action.Action.TheVariants as actions

-- a day that a command may name: from 2000-01-01 to 2099-12-31
abbrev pub IsDay : ℕ → Type 0
IsDay day = (first_day ≤ day) × (day ≤ last_day)

-- a day of the month: 1 to 31
abbrev pub IsBcd : ℕ → Type 0
IsBcd bcd = (1 ≤ bcd) × (bcd ≤ 31)

-- an amount: 1 to 10^12 minor units
abbrev pub IsAmount : ℕ → Type 0
IsAmount amount = (1 ≤ amount) × (amount ≤ MAX_AMOUNT)

-- the number of an invoice: 1 to 4294967295
abbrev pub IsInvoiceNo : ℕ → Type 0
IsInvoiceNo invoice = (1 ≤ invoice) × (invoice < 2 ^ 32)

-- a catalog text with the version that it says
abbrev pub IsCatalogText : CatalogText → Type 0
IsCatalogText text = catalog_read text.text ≡ Ok text.version

-- an overdue text with the states that it says
abbrev pub IsOverdueText : OverdueText → Type 0
IsOverdueText text = overdue_read text.text ≡ Ok text.states

-- each member of an action is one that its type allows
abbrev pub IsAction : Action → Type 0
IsAction (actions.OpenAccount c) = IsCurrency c.currency × IsBcd c.bcd
IsAction (actions.Create c) = IsName c.bundle × IsName c.subscription × IsName c.product × IsName c.list
    × IfSome c.day IsDay
IsAction (actions.Change c) = IsName c.subscription × IsName c.product × IsName c.list × IfSome c.day IsDay
IsAction (actions.Cancel c) = IsName c.subscription × IfSome c.day IsDay
IsAction (actions.Uncancel c) = IsName c.subscription
IsAction (actions.Pause c) = IsName c.bundle × IfSome c.day IsDay
IsAction (actions.Resume c) = IsName c.bundle × IfSome c.day IsDay
IsAction (actions.Block c) = IsName c.target × IsName c.service × IsName c.state × IfSome c.day IsDay
IsAction (actions.Bill c) = IfSome c.day IsDay
IsAction (actions.Charge c) = IsAmount c.amount
IsAction (actions.Credit c) = IsAmount c.amount
IsAction (actions.Pay c) = IsName c.payment × IsInvoiceNo c.invoice × IfSome c.amount IsAmount
IsAction (actions.Refund c) = IsName c.payment × IsName c.of × IsAmount c.amount
IsAction (actions.Chargeback c) = IsName c.payment × IsName c.of × IsAmount c.amount
IsAction (actions.Autopay c) = ⊤

-- so is each member of a command
abbrev pub IsCommand : Command → Type 0
IsCommand (kinds.Catalog c) = IsName c.key × IsCatalogText c.text
IsCommand (kinds.OverdueRules c) = IsName c.key × IsOverdueText c.text
IsCommand (kinds.Act account key action) = IsName account × IsName key × IsAction action
IsCommand (kinds.Auto c) = IsName c.account × IsInvoiceNo c.invoice
IsCommand (kinds.Settle c) = IsName c.account × IsName c.payment
IsCommand (kinds.Overdue c) = IsName c.account

an_uncancel : IsCommand
    (kinds.Act (codes "a1") (codes "k2") (actions.Uncancel (record { subscription = codes "s1" })))
an_uncancel = (refl, refl, refl)
