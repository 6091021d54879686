-- Commands that settle no payment.
use Rattle.std.proofs.Common.{◌≡◌, ℕ, Bool, true, false, List, Option, Some, None, if◌then◌else◌, refl}
use Rattle.std.proofs.lemmas.Option.{none-some}
use Rattle.kb_codec.specs.declared.command.Command.{Command}
use Rattle.kb_codec.specs.declared.command.Command.TheVariants as kinds
use Rattle.kb_book.specs.Worlds.{WorldValue}
use Rattle.kb_book.specs.Books.{BookValue}
use Rattle.kb_book.specs.BlockCommands.{has_all_states}
use Rattle.kb_book.specs.Inner.{is_transition_due, invoice_due}
use Rattle.kb_book.specs.NextDues.{transition_of, payment_of, next_due}
use Rattle.kb_histories.specs.Attempts.{settles}
use Rattle.kb_lane.specs.declared.work.Work.{Work}
use Rattle.kb_lane.specs.Private.Runs.{SettlesNone}

-- what an account asks for by itself settles none
module _ (world : WorldValue) (book : BookValue) (today : ℕ) (command : Command) (account key : List ℕ) where
  transition-settles : (full : Bool)
      → (if full then None else Some (kinds.Overdue (record { account = book.account }))) ≡ Some command
      → settles command account key ≡ false
  transition-settles true next = absurd (none-some command next)
  transition-settles false next =
      let same : kinds.Overdue (record { account = book.account }) ≡ command = cc in rw (← same) refl

  payment-settles : (found : Option ℕ) → payment_of book.account found ≡ Some command
      → settles command account key ≡ false
  payment-settles None next = absurd (none-some command next)
  payment-settles (Some invoice) next =
      let same : kinds.Auto (record { account = book.account; invoice = invoice }) ≡ command = cc in
      rw (← same) refl

  due-settles : next_due world book today ≡ Some command → settles command account key ≡ false
  due-settles next =
      by_due (is_transition_due world.states book.invoices book.transition book.overdue today) next
    where
      by_due : (due : Bool)
          → (if due then transition_of book.account book.blocks
          else payment_of book.account (invoice_due book.autopay book.payments book.invoices today))
          ≡ Some command → settles command account key ≡ false
      by_due true next = transition-settles (has_all_states book.blocks) next
      by_due false next = payment-settles (invoice_due book.autopay book.payments book.invoices today) next

pub due_settles_none : (world : WorldValue) (book : BookValue) (today : ℕ) (command : Command)
    (outbox : List Work) → next_due world book today ≡ Some command → SettlesNone command outbox
due_settles_none world book today command outbox next =
    λ k d inside. due-settles world book today command _ _ next
