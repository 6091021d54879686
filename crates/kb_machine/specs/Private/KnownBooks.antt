-- The account whose book a machine knows to be billed.
use Rattle.std.specs.Prelude.{ℕ, List, Option, Some, None, IfSome}
use Rattle.std.specs.FinMap.{find}
use Rattle.kb_sharing.specs.Keys.{by_words}
use Rattle.kb_book.specs.Worlds.{WorldValue}
use Rattle.kb_book.specs.Books.{BookValue, Keyed}
use Rattle.kb_book.specs.BilledBooks.{IsBilled}

-- a book is billed by some texts, if it is there
abbrev pub IsBilledOf : WorldValue → Option BookValue → Type 0
IsBilledOf world book = IfSome book (IsBilled world)

-- if an account is known to be billed, its book is
abbrev pub IsKnown : WorldValue → Keyed BookValue → Option (List ℕ) → Type 0
IsKnown world books None = Unit {0}
IsKnown world books (Some account) = IsBilledOf world (find by_words account books)
