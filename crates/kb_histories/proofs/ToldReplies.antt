-- The replies that a machine keeps, by the keys of their commands.
use Rattle.std.proofs.Common.{ℕ, List, Option, Some, None, option_map}
use Rattle.std.specs.FinMap.{find}
use Rattle.kb_sharing.specs.Keys.{by_words}
use Rattle.kb_book.specs.Books.{BookValue, Kept}
use Rattle.kb_book.specs.declared.reply.LaneReply.{LaneReply}
use Rattle.kb_book.specs.declared.reply.LaneReply.TheVariants as replies
use Rattle.kb_machine.specs.Texts.{KeptText}
use Rattle.kb_machine.specs.Machines.{MachineValue, book_of}
use Rattle.kb_histories.specs.RequestKeys.{Scope, CatalogTexts, OverdueTexts, OfAccount}

-- the spelling of a command, and its reply
abbrev pub Told : Type 0
Told = List ℕ × LaneReply

abbrev pub told_version : KeptText → Told
told_version kept = (kept.spelling, replies.Version kept.number)

abbrev pub told_states : KeptText → Told
told_states kept = (kept.spelling, replies.States kept.number)

abbrev pub told_answer : Kept → Told
told_answer kept = (kept.spelling, replies.Accepted kept.answer)

-- what a book keeps at a key, if it is there
abbrev pub told_in : List ℕ → Option BookValue → Option Told
told_in key None = None
told_in key (Some book) = option_map told_answer (find by_words key book.kept)

-- what a machine keeps at a key
abbrev pub told_at : Scope → List ℕ → MachineValue → Option Told
told_at CatalogTexts key machine = option_map told_version (find by_words key machine.texts.catalogs)
told_at OverdueTexts key machine = option_map told_states (find by_words key machine.texts.overdues)
told_at (OfAccount account) key machine = told_in key (book_of machine account)
