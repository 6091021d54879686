-- What is prepared for a command.
use Rattle.std.specs.Prelude.{◌≡◌, Bool, true, false, [], Option, Some, None, Result, Ok, Err, bytes_eq, ⊤}
use Rattle.kb_codec.specs.declared.command.Command.{Command}
use Rattle.kb_codec.specs.declared.command.Command.TheVariants as kinds
use Rattle.kb_codec.specs.declared.action.Action.TheVariants as actions
use Rattle.kb_codec.specs.declared.action.OpenAccount.{OpenAccount}
use Rattle.kb_book.specs.declared.answer.Answer.{Answer}
use Rattle.kb_codec.specs.CommandBytes.{spelling}
use Rattle.kb_book.specs.declared.refusal.Refusal.{Refusal}
use Rattle.kb_book.specs.Books.{BookValue, Kept, new_book}
use Rattle.kb_book.specs.Steps.{Outcome, kept_of}
use Rattle.kb_codec.specs.Senders.{key_of}
use Rattle.kb_account.specs.declared.next.Prepared.{Prepared}
use Rattle.kb_account.specs.declared.next.Prepared.TheVariants.{Next, Kept as KeptAnswer}

-- the answer to what is prepared, and the book after it
abbrev pub prepared_outcome : BookValue → Prepared → Outcome
prepared_outcome book (Next next) = (next.answer, next.book)
prepared_outcome book (KeptAnswer answer) = (answer, book)

-- an answer that was kept is prepared
abbrev pub is_kept : Prepared → Bool
is_kept (Next next) = false
is_kept (KeptAnswer answer) = true

-- the same command was accepted before under its key
abbrev pub is_same_command : Option Kept → Command → Bool
is_same_command None command = false
is_same_command (Some kept) command = bytes_eq kept.spelling (spelling command)

abbrev pub is_kept_command : BookValue → Command → Bool
is_kept_command book command = is_same_command (kept_of book (key_of command)) command

-- the refusal of a step or a query, if it is refused
abbrev pub refusal_by : {A : Type 0} → Result A Refusal → Option Refusal
refusal_by (Ok given) = None
refusal_by (Err refusal) = Some refusal

-- what holds of the book and the answer that are prepared, if the command is new
abbrev pub IfNew : (BookValue → Answer → Type 0) → Prepared → Type 0
IfNew P (Next next) = P next.book next.answer
IfNew P (KeptAnswer answer) = ⊤

-- a command opens an account
abbrev pub is_opening : Command → Bool
is_opening (kinds.Act account key (actions.OpenAccount c)) = true
is_opening _ = false

-- the book that an account is opened with, before that command is counted
abbrev pub opening_book : Command → BookValue
opening_book (kinds.Act account key (actions.OpenAccount c)) = new_book account c.currency c.bcd c.autopay
opening_book _ = new_book [] [] 0 false
