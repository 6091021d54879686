-- A book that was put in is known to be billed.
use Rattle.std.proofs.Common.{◌≡◌, ℕ, List}
use Rattle.std.specs.FinMap.{find, put}
use Rattle.kb_sharing.specs.Keys.{by_words}
use Rattle.kb_book.specs.Worlds.{WorldValue}
use Rattle.kb_book.specs.Books.{BookValue, Keyed}
use Rattle.kb_book.specs.BilledBooks.{IsBilled}
use Rattle.kb_book.proofs.RepeatedCommands.{find-put-self}
use Rattle.kb_machine.specs.Private.KnownBooks.{IsBilledOf}

pub put-known : (world : WorldValue) (account : List ℕ) (next : BookValue) (old books : Keyed BookValue)
    → books ≡ put by_words account next old → IsBilled world next
    → IsBilledOf world (find by_words account books)
put-known world account next old books is billed = rw (is, find-put-self account next old) billed
