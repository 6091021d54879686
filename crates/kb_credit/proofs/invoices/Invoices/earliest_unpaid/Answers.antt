use Rattle.std.proofs.Common.{◌≡◌, ℕ, ◌≤◌, Option, Some, None, IfSome, Contains, All, List, ap, sym, ◌∙◌}
use Rattle.kb_credit.specs.InvoiceRows.{InvoicesValue, earliest_unpaid, unpaid_days, least}
use Rattle.kb_credit.specs.Private.OpenInvoices.{due_days}
use Rattle.kb_credit.proofs.OpenReads.{earliest_due-opened}
use Rattle.kb_credit.proofs.EarliestDays.{Contains-least, All-least, earliest_unpaid-none}
use Rattle.kb_credit.proofs.invoices.Invoices.earliest_unpaid.Goals as goal

pub returns-clause-value : goal.returns-clause-value
returns-clause-value c =
    c.earliest_due.ensures
    ∙ ap (λ invoices. least (due_days invoices)) (c.as_slice.ensures ∙ c.self.invariant.1.opens)
    ∙ earliest_due-opened c.self.inside.rows
    ∙ ap (λ (value : InvoicesValue). earliest_unpaid value.rows) c.self.view_is

one_of_them : (found : Option ℕ) (days : List ℕ) → found ≡ least days
    → IfSome found (λ (day : ℕ). Contains days day)
one_of_them None days is = tt
one_of_them (Some day) days is = Contains-least days day (sym is)

none_earlier : (found : Option ℕ) (days : List ℕ) → found ≡ least days
    → IfSome found (λ (day : ℕ). All (λ (other : ℕ). day ≤ other) days)
none_earlier None days is = tt
none_earlier (Some day) days is = All-least days day (sym is)

pub returns-clause-unpaid : goal.returns-clause-unpaid
returns-clause-unpaid c = one_of_them _ (unpaid_days c.args.self.now.rows) (returns-clause-value c)

pub returns-clause-earliest : goal.returns-clause-earliest
returns-clause-earliest c = none_earlier _ (unpaid_days c.args.self.now.rows) (returns-clause-value c)

pub returns-clause-none : goal.returns-clause-none
returns-clause-none c =
    let both = earliest_unpaid-none c.args.self.now.rows in
    let is = returns-clause-value c in
    ((λ none. both.0 (sym is ∙ none)), (λ none. is ∙ both.1 none))
