-- The command that a book asks for by itself is never refused.
use Rattle.std.proofs.Common.{◌≡◌, ℕ, Bool, true, false, Option, Some, None, if◌then◌else◌, refl}
use Rattle.std.proofs.lemmas.Option.{none-some}
use Rattle.std.proofs.lemmas.Bool.{eq-eqb}
use Rattle.kb_codec.specs.declared.command.Command.{Command}
use Rattle.kb_codec.specs.declared.command.Command.TheVariants as kinds
use Rattle.kb_book.specs.Worlds.{WorldValue}
use Rattle.kb_book.specs.Books.{BookValue}
use Rattle.kb_book.specs.BlockCommands.{has_all_states}
use Rattle.kb_book.specs.Inner.{is_transition_due, invoice_due}
use Rattle.kb_book.specs.Rows.{first_refusal}
use Rattle.kb_book.specs.Steps.{rows_of}
use Rattle.kb_book.specs.NextDues.{transition_of, payment_of, next_due}

module _ (world : WorldValue) (book : BookValue) (today : ℕ) (command : Command) where
  -- a transition is due
  abbrev due : Bool
  due = is_transition_due world.states book.invoices book.transition book.overdue today

  -- then it is accepted
  transition-accepted : (full : Bool) → has_all_states book.blocks ≡ full → due ≡ true
      → (if full then None else Some (kinds.Overdue (record { account = book.account }))) ≡ Some command
      → first_refusal (rows_of world book today command) ≡ None
  transition-accepted true is owed next = absurd (none-some command next)
  transition-accepted false is owed next =
      let same : kinds.Overdue (record { account = book.account }) ≡ command = cc in
      rw (← same, owed, is) refl

  -- and so is the automatic payment that is due
  payment-accepted : (found : Option ℕ) → invoice_due book.autopay book.payments book.invoices today ≡ found
      → payment_of book.account found ≡ Some command → first_refusal (rows_of world book today command) ≡ None
  payment-accepted None is next = absurd (none-some command next)
  payment-accepted (Some invoice) is next =
      let same : kinds.Auto (record { account = book.account; invoice = invoice }) ≡ command = cc in
      rw (← same, is, eq-eqb invoice invoice refl) refl

  -- what comes next is accepted
  pub next_due-accepted : next_due world book today ≡ Some command
      → first_refusal (rows_of world book today command) ≡ None
  next_due-accepted next = by_due due refl next
    where
      by_due : (is : Bool) → due ≡ is
          → (if is then transition_of book.account book.blocks
          else payment_of book.account (invoice_due book.autopay book.payments book.invoices today))
          ≡ Some command
          → first_refusal (rows_of world book today command) ≡ None
      by_due true owed is = transition-accepted (has_all_states book.blocks) refl owed is
      by_due false none is =
          payment-accepted (invoice_due book.autopay book.payments book.invoices today) refl is
