-- The kinds of members of a command.
use Rattle.std.specs.Prelude.{ℕ, Bool, List, ◌++◌, Option, IfSome}
use Rattle.kb_days.specs.Names.{IsName}
use Rattle.kb_days.specs.declared.period.Period.{Period}
use Rattle.kb_money.specs.Currency.{IsCurrency}
use Rattle.kb_payment.specs.declared.attempt.Status.{Status}
use Rattle.kb_blocking.specs.declared.state.Flags.{Flags}
use Rattle.kb_codec.specs.declared.scope.BlockScope.{BlockScope}
use Rattle.kb_catalog_text.specs.Texts.{CatalogText, OverdueText}
use Rattle.kb_codec.specs.Commands.{IsDay, IsBcd, IsAmount, IsInvoiceNo, IsCatalogText, IsOverdueText}
use Rattle.kb_codec.specs.Members.{name_bytes, currency_bytes, bcd_bytes, day_bytes, invoice_bytes}
use Rattle.kb_codec.specs.Members.{amount_bytes, optional_bytes, truth_bytes, period_bytes, scope_bytes}
use Rattle.kb_codec.specs.Members.{status_bytes, flags_bytes, text_bytes}
use Rattle.kb_codec.specs.Reading.{Reader, name_in, currency_in, bcd_in, day_in, invoice_in, amount_in}
use Rattle.kb_codec.specs.Reading.{truth_in, optional_in, period_in, scope_in, status_in, flags_in}
use Rattle.kb_codec.specs.Reading as reading
use Rattle.kb_codec.specs.TextReading.{catalog_in, overdue_in}

-- a kind of member: how it is spelled, how it is read, and which values there are
pub record Member (A : Type 0) : Type 1 where
  pub spell : A → List ℕ
  pub read : Reader A
  pub allowed : A → Type 0

-- one member and then another one
abbrev pub both : {A B : Type 0} → Member A → Member B → Member (A × B)
both first second = record {
  spell = λ pair. first.spell pair.0 ++ second.spell pair.1;
  read = reading.both first.read second.read;
  allowed = λ pair. first.allowed pair.0 × second.allowed pair.1;
}

-- a member that may be missing
abbrev pub optional : {A : Type 0} → Member A → Member (Option A)
optional member = record {
  spell = optional_bytes member.spell;
  read = optional_in member.read;
  allowed = λ value. IfSome value member.allowed;
}

-- a name
abbrev pub name : Member (List ℕ)
name = record { spell = name_bytes; read = name_in; allowed = IsName }

-- a currency
abbrev pub currency : Member (List ℕ)
currency = record { spell = currency_bytes; read = currency_in; allowed = IsCurrency }

-- a day of the month
abbrev pub bcd : Member ℕ
bcd = record { spell = bcd_bytes; read = bcd_in; allowed = IsBcd }

-- a day
abbrev pub day : Member ℕ
day = record { spell = day_bytes; read = day_in; allowed = IsDay }

-- the number of an invoice
abbrev pub invoice : Member ℕ
invoice = record { spell = invoice_bytes; read = invoice_in; allowed = IsInvoiceNo }

-- an amount
abbrev pub amount : Member ℕ
amount = record { spell = amount_bytes; read = amount_in; allowed = IsAmount }

-- whether something is on
abbrev pub truth : Member Bool
truth = record { spell = truth_bytes; read = truth_in; allowed = λ truth. Unit {0} }

-- a period
abbrev pub period : Member Period
period = record { spell = period_bytes; read = period_in; allowed = λ period. Unit {0} }

-- what a blocking state speaks of
abbrev pub scope : Member BlockScope
scope = record { spell = scope_bytes; read = scope_in; allowed = λ scope. Unit {0} }

-- how an attempt stands
abbrev pub status : Member Status
status = record { spell = status_bytes; read = status_in; allowed = λ status. Unit {0} }

-- the flags of a blocking state
abbrev pub flags : Member Flags
flags = record { spell = flags_bytes; read = flags_in; allowed = λ flags. Unit {0} }

-- a catalog text
abbrev pub catalog : Member CatalogText
catalog = record { spell = λ text. text_bytes text.text; read = catalog_in; allowed = IsCatalogText }

-- an overdue text
abbrev pub overdue : Member OverdueText
overdue = record { spell = λ text. text_bytes text.text; read = overdue_in; allowed = IsOverdueText }
