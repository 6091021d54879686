-- What a book may ask for by itself: a transition, or the automatic payment of the invoice that is due.
use Rattle.std.proofs.Common.{◌≡◌, ℕ, Bool, true, false, not, ◌&&◌, Option, Some, None, if◌then◌else◌, refl}
use Rattle.std.proofs.Common.{sym, subst, true≢false}
use Rattle.std.proofs.lemmas.Option.{none-some}
use Rattle.kb_codec.specs.declared.command.Command.{Command}
use Rattle.kb_codec.specs.declared.command.Command.TheVariants as kinds
use Rattle.kb_book.specs.Worlds.{WorldValue}
use Rattle.kb_book.specs.Books.{BookValue}
use Rattle.kb_book.specs.BlockCommands.{has_all_states}
use Rattle.kb_book.specs.Inner.{is_after, is_transition_due, invoice_due, same_name, state_name, state_of}
use Rattle.kb_book.specs.NextDues.{transition_of, payment_of, next_due}

-- what holds of both holds of the command that is due
pub next_due-cases : (world : WorldValue) (book : BookValue) (today : ℕ) (P : Command → Type 0)
    → (is_after book.transition today ≡ true → P (kinds.Overdue (record { account = book.account })))
    → ((invoice : ℕ) → invoice_due true book.payments book.invoices today ≡ Some invoice
    → P (kinds.Auto (record { account = book.account; invoice = invoice })))
    → (command : Command) → next_due world book today ≡ Some command → P command
next_due-cases world book today P transition payment command next =
    by_due (is_transition_due world.states book.invoices book.transition book.overdue today) refl next
  where
    by_full : (full : Bool) → is_after book.transition today ≡ true
        → (if full then None else Some (kinds.Overdue (record { account = book.account }))) ≡ Some command
        → P command
    by_full true may is = absurd (none-some command is)
    by_full false may is =
        let same : kinds.Overdue (record { account = book.account }) ≡ command = cc in
        subst P same (transition may)

    by_found : (autopay : Bool) (found : Option ℕ)
        → invoice_due autopay book.payments book.invoices today ≡ found
        → payment_of book.account found ≡ Some command → P command
    by_found autopay None due is = absurd (none-some command is)
    by_found false (Some invoice) due is = absurd (cc)
    by_found true (Some invoice) due is =
        let same : kinds.Auto (record { account = book.account; invoice = invoice }) ≡ command = cc in
        subst P same (payment invoice due)

    first-holds : (one other : Bool) → (one && other) ≡ true → one ≡ true
    first-holds true other is = refl
    first-holds false other is = absurd (true≢false (sym is))

    by_due : (due : Bool)
        → is_transition_due world.states book.invoices book.transition book.overdue today ≡ due
        → (if due then transition_of book.account book.blocks
        else payment_of book.account (invoice_due book.autopay book.payments book.invoices today))
        ≡ Some command
        → P command
    by_due true due is =
        by_full (has_all_states book.blocks)
        (first-holds (is_after book.transition today)
        (not (same_name (state_name (state_of world.states book.invoices today)) book.overdue)) due)
        is
    by_due false due is =
        by_found book.autopay (invoice_due book.autopay book.payments book.invoices today) refl is
