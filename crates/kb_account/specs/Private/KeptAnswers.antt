-- What is kept of the commands of an account.
use Rattle.std.specs.Prelude.{ℕ, List, Option, Some, None, bytes_eq, if◌then◌else◌}
use Rattle.std.specs.FinMap.{put}
use Rattle.kb_sharing.specs.Keys.{by_words}
use Rattle.kb_codec.specs.declared.command.Command.{Command}
use Rattle.kb_codec.specs.CommandBytes.{spelling}
use Rattle.kb_book.specs.declared.answer.Answer.{Answer}
use Rattle.kb_book.specs.declared.refusal.Refusal.{Refusal}
use Rattle.kb_book.specs.declared.refusal.Refusal.TheVariants.{KeyReused}
use Rattle.kb_book.specs.Books.{Kept, Keyed}

-- the answer that was kept of a command under its key, and its refusal if another command was
abbrev pub kept_answer : Option Kept → Command → Option Answer
kept_answer None command = None
kept_answer (Some kept) command =
    if bytes_eq kept.spelling (spelling command) then Some kept.answer else None

abbrev pub kept_refusal : Option Kept → Command → Option Refusal
kept_refusal None command = None
kept_refusal (Some kept) command = if bytes_eq kept.spelling (spelling command) then None else Some KeyReused

-- what is kept, with a command and its answer under the command's key, if it has one
abbrev pub kept_after : Keyed Kept → Command → Answer → Option (List ℕ) → Keyed Kept
kept_after kept command answer None = kept
kept_after kept command answer (Some key) =
    put by_words key (record { spelling = spelling command; answer = answer }) kept
