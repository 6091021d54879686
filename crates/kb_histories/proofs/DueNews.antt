-- The command that a book asks for by itself names the book's own account, and is new.
use Rattle.std.proofs.Common.{◌≡◌, ℕ, Bool, true, false, List, Option, Some, None, if◌then◌else◌, refl, ◌∙◌}
use Rattle.std.proofs.lemmas.Option.{none-some}
use Rattle.kb_codec.specs.declared.command.Command.{Command}
use Rattle.kb_codec.specs.declared.command.Command.TheVariants as kinds
use Rattle.kb_book.specs.Worlds.{WorldValue}
use Rattle.kb_book.specs.Books.{BookValue}
use Rattle.kb_book.specs.BlockCommands.{has_all_states}
use Rattle.kb_book.specs.Inner.{is_transition_due, invoice_due}
use Rattle.kb_book.specs.NextDues.{transition_of, payment_of, next_due}
use Rattle.kb_book.proofs.DueCommands.{next_due-accepted}
use Rattle.kb_codec.specs.Senders.{account_of, key_of}
use Rattle.kb_histories.specs.Dues.{DueCommandsAreNamed, DueCommandsAreNew}
use Rattle.kb_histories.proofs.JudgedCases.{accepted-new}

-- a command has no request key, and is on this account
record IsDue (account : List ℕ) (command : Command) : Type 0 where
  pub own : account_of command ≡ account
  pub keyless : key_of command ≡ None

module _ (world : WorldValue) (book : BookValue) (today : ℕ) (command : Command) where
  -- so is a transition
  transition-due : (full : Bool)
      → (if full then None else Some (kinds.Overdue (record { account = book.account }))) ≡ Some command
      → IsDue book.account command
  transition-due true next = absurd (none-some command next)
  transition-due false next =
      let same : kinds.Overdue (record { account = book.account }) ≡ command = cc in
      rw (← same) (record { own = refl; keyless = refl })

  -- and an automatic payment
  payment-due : (found : Option ℕ) → payment_of book.account found ≡ Some command
      → IsDue book.account command
  payment-due None next = absurd (none-some command next)
  payment-due (Some invoice) next =
      let same : kinds.Auto (record { account = book.account; invoice = invoice }) ≡ command = cc in
      rw (← same) (record { own = refl; keyless = refl })

  -- so is what is due
  next_due-own : next_due world book today ≡ Some command → IsDue book.account command
  next_due-own next =
      by_due (is_transition_due world.states book.invoices book.transition book.overdue today) next
    where
      by_due : (due : Bool)
          → (if due then transition_of book.account book.blocks
          else payment_of book.account (invoice_due book.autopay book.payments book.invoices today))
          ≡ Some command
          → IsDue book.account command
      by_due true next = transition-due (has_all_states book.blocks) next
      by_due false next = payment-due (invoice_due book.autopay book.payments book.invoices today) next

pub due_commands_are_named : DueCommandsAreNamed
due_commands_are_named machine today account book command named there next =
    (next_due-own machine.texts.world book today command next).own ∙ named.named account book there

pub due_commands_are_new : DueCommandsAreNew
due_commands_are_new machine today account book command named there next =
    let due = next_due-own machine.texts.world book today command next in
    let own : account_of command ≡ account =
    due_commands_are_named machine today account book command named there next in
    accepted-new machine today command book (rw own there) due.keyless
    (next_due-accepted machine.texts.world book today command next)
