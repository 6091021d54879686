-- What a lane answers to queries.
use Rattle.std.specs.Prelude.{ℕ, ◌≡◌, List, Option, Some, None, Result, Err, codes, refl}
use Rattle.kb_days.specs.Dates.{march}
use Rattle.kb_book.specs.Books.{BookValue}
use Rattle.kb_book.specs.Worlds.{WorldValue}
use Rattle.kb_book.specs.declared.refusal.Refusal.{Refusal}
use Rattle.kb_book.specs.declared.refusal.Refusal.TheVariants.{NoAccount}
use Rattle.kb_book.specs.declared.query.Query.{Query}
use Rattle.kb_book.specs.declared.query.Query.TheVariants as queries
use Rattle.kb_book.specs.declared.views.View.{View}
use Rattle.kb_account.specs.Views.{answer_to}
use Rattle.kb_machine.specs.Machines.{MachineValue, no_machine, book_of}

-- the account that a query is on
abbrev pub asked_account : Query → List ℕ
asked_account (queries.Account account) = account
asked_account (queries.Invoice account invoice) = account
asked_account (queries.Payment account payment) = account
asked_account (queries.Subscription account subscription day) = account

-- the answer of a book, if there is one
abbrev pub view_in : WorldValue → ℕ → Query → Option BookValue → Result View Refusal
view_in world today query None = Err NoAccount
view_in world today query (Some book) = answer_to world book today query

-- the answer to a query on a day
abbrev pub view_of : MachineValue → ℕ → Query → Result View Refusal
view_of machine today query =
    view_in machine.texts.world today query (book_of machine (asked_account query))

nobody_is_there : view_of no_machine (march 1) (queries.Account (codes "a1")) ≡ Err NoAccount
nobody_is_there = refl
