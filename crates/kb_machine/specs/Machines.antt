-- The machine: texts and accounts, and what a command makes of them.
use Rattle.std.specs.Prelude.{ℕ, ◌≡◌, nat_le, Bool, true, false, List, [], ◌∷◌, length, Option, Some, None}
use Rattle.std.specs.Prelude.{Result, Ok, Err, codes, refl}
use Rattle.std.specs.FinMap.{find, put}
use Rattle.kb_sharing.specs.Keys.{by_words}
use Rattle.kb_days.specs.Calendar.{first_day, charged_days}
use Rattle.kb_days.specs.Dates.{march}
use Rattle.kb_codec.specs.declared.command.Command.{Command}
use Rattle.kb_codec.specs.declared.command.Command.TheVariants as kinds
use Rattle.kb_codec.specs.declared.action.Action.TheVariants as actions
use Rattle.kb_codec.specs.declared.action.OpenAccount.{OpenAccount}
use Rattle.kb_codec.specs.Senders.{account_of, is_text, is_callers}
use Rattle.kb_book.specs.declared.answer.Answer.{Answer}
use Rattle.kb_book.specs.declared.refusal.Refusal.{Refusal}
use Rattle.kb_book.specs.declared.refusal.Refusal.TheVariants.{NoAccount}
use Rattle.kb_book.specs.Worlds.{WorldValue}
use Rattle.kb_book.specs.Books.{BookValue, Keyed}
use Rattle.kb_book.specs.Rows.{Rows, first_refusal, limit}
use Rattle.kb_book.specs.Steps.{Outcome, accepted_over, step}
use Rattle.kb_account.specs.Prepares.{is_kept_command, opening_book}
use Rattle.kb_book.specs.declared.reply.LaneReply.{LaneReply}
use Rattle.kb_book.specs.declared.reply.LaneReply.TheVariants as replies
use Rattle.kb_machine.specs.Judged.{Judged, New, Again, Refused, unless_refused, lifted}
use Rattle.kb_machine.specs.Texts.{TextsValue, no_texts, catalog_judged, overdue_judged}

-- the texts, and the books of the accounts, by their names
pub record MachineValue : Type 0 where
  pub texts : TextsValue
  pub books : Keyed BookValue

-- before any command
abbrev pub no_machine : MachineValue
no_machine = record { texts = no_texts; books = [] }

-- the most accounts that a machine has
abbrev pub max_accounts : ℕ
max_accounts = 100000

-- the book of an account, if it is there
abbrev pub book_of : MachineValue → List ℕ → Option BookValue
book_of machine account = find by_words account machine.books

-- with this book in the place of the one before, or beside the others
abbrev pub with_book : MachineValue → List ℕ → BookValue → MachineValue
with_book machine account book = record machine { books = put by_words account book machine.books }

-- what a step of a book comes to, by whether its command came before
abbrev pub of_step : Bool → Result Outcome Refusal → Judged Answer BookValue
of_step kept (Err refusal) = Refused refusal
of_step true (Ok outcome) = Again outcome.0
of_step false (Ok outcome) = New outcome.0 outcome.1

-- what a command comes to on a book
abbrev pub book_judged : WorldValue → BookValue → ℕ → Command → Judged Answer BookValue
book_judged world book today command = of_step (is_kept_command book command) (step world book today command)

-- the refusals of the opening of an account that isn't there
abbrev pub opening_rows : MachineValue → Rows
opening_rows machine = (nat_le max_accounts (length machine.books), limit 1 max_accounts) ∷ []

-- an account that is opened
abbrev pub of_outcome : Outcome → Judged Answer BookValue
of_outcome outcome = New outcome.0 outcome.1

abbrev pub opened_judged : MachineValue → ℕ → Command → Judged Answer BookValue
opened_judged machine today command =
    unless_refused (first_refusal (opening_rows machine))
    (of_outcome (accepted_over machine.texts.world (opening_book command) today command first_day
    charged_days))

-- the command that opens an account, under a request key
abbrev pub opening : List ℕ → List ℕ → OpenAccount → Command
opening account key c = kinds.Act account key (actions.OpenAccount c)

-- what a command comes to on an account that isn't there: it may be opened
abbrev pub absent_judged : MachineValue → ℕ → Command → Judged Answer BookValue
absent_judged machine today (kinds.Act account key (actions.OpenAccount c)) =
    opened_judged machine today (opening account key c)
absent_judged machine today _ = Refused NoAccount

-- what a command comes to on its account
abbrev pub by_book : MachineValue → ℕ → Command → Option BookValue → Judged Answer BookValue
by_book machine today command (Some book) = book_judged machine.texts.world book today command
by_book machine today command None = absent_judged machine today command

abbrev pub account_judged : MachineValue → ℕ → Command → Judged LaneReply MachineValue
account_judged machine today command =
    lifted replies.Accepted (with_book machine (account_of command))
    (by_book machine today command (book_of machine (account_of command)))

-- with these texts
abbrev pub with_texts : MachineValue → TextsValue → MachineValue
with_texts machine texts = record machine { texts = texts }

-- what a command comes to
unfoldable pub judged : MachineValue → ℕ → Command → Judged LaneReply MachineValue
judged machine today (kinds.Catalog c) =
    lifted replies.Version (with_texts machine) (catalog_judged machine.texts c)
judged machine today (kinds.OverdueRules c) =
    lifted replies.States (with_texts machine) (overdue_judged machine.texts c)
judged machine today command = account_judged machine today command

-- the reply to a command
abbrev pub reply_of : {A : Type 0} → Judged LaneReply A → LaneReply
reply_of (New reply after) = reply
reply_of (Again reply) = reply
reply_of (Refused refusal) = replies.Refused refusal

no_such_account : reply_of (judged no_machine (march 10)
    (kinds.Act (codes "a1") (codes "k1") (actions.Bill (record { day = None }))))
    ≡ replies.Refused NoAccount
unfolding judged
no_such_account = refl
