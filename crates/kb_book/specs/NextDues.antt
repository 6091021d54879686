-- The command that a book asks for by itself.
use Rattle.std.specs.Prelude.{ℕ, List, Option, Some, None, if◌then◌else◌, option_map}
use Rattle.kb_blocking.specs.declared.state.BlockState.{BlockState}
use Rattle.kb_codec.specs.declared.command.Command.{Command}
use Rattle.kb_codec.specs.declared.command.Command.TheVariants as kinds
use Rattle.kb_book.specs.Worlds.{WorldValue}
use Rattle.kb_book.specs.Books.{BookValue}
use Rattle.kb_book.specs.BlockCommands.{has_all_states}
use Rattle.kb_book.specs.Inner.{is_transition_due, invoice_due}

-- a transition that is due, unless no blocking state may be added
abbrev pub transition_of : List ℕ → List BlockState → Option Command
transition_of account blocks =
    if has_all_states blocks then None else Some (kinds.Overdue (record { account = account }))

-- the automatic payment of an invoice
abbrev pub payment_of : List ℕ → Option ℕ → Option Command
payment_of account due =
    option_map (λ invoice. kinds.Auto (record { account = account; invoice = invoice })) due

-- a transition where one is due, and else the automatic payment that is due
abbrev pub next_due : WorldValue → BookValue → ℕ → Option Command
next_due world book today =
    if is_transition_due world.states book.invoices book.transition book.overdue today
    then transition_of book.account book.blocks
    else payment_of book.account (invoice_due book.autopay book.payments book.invoices today)
