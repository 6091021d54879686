-- What is planned for a command.
use Rattle.std.specs.Prelude.{ℕ, ◌≡◌, List, IsSome, None, Some}
use Rattle.std.specs.FinMap.{entries}
use Rattle.kb_tree.specs.declared.issue.Issue.{Issue}
use Rattle.kb_book.specs.Books.{BookValue}
use Rattle.kb_book.specs.BilledBooks.{IsBilled}
use Rattle.kb_account.specs.Issues.{IsIssueOf}
use Rattle.kb_book.specs.declared.reply.LaneReply.{LaneReply}
use Rattle.kb_book.specs.declared.reply.LaneReply.TheVariants as replies
use Rattle.kb_machine.specs.Judged.{Judged, New, Again}
use Rattle.kb_machine.specs.Machines.{MachineValue, with_texts, with_book, book_of}
use Rattle.kb_machine.specs.declared.change.Change.{Change}
use Rattle.kb_machine.specs.declared.change.Change.TheVariants as changes
use Rattle.kb_machine.specs.declared.change.Planned.{Planned}
use Rattle.kb_machine.specs.declared.change.Planned.TheVariants as plans

-- the reply to a new command with this change
abbrev pub change_reply : Change → LaneReply
change_reply (changes.Catalog catalog keys number) = replies.Version number
change_reply (changes.Overdue config keys number) = replies.States number
change_reply (changes.Book account next) = replies.Accepted next.answer

-- the machine with this change
abbrev pub changed : MachineValue → Change → MachineValue
changed machine (changes.Catalog catalog keys number) = with_texts machine (record machine.texts {
  world = record machine.texts.world { versions = catalog };
  catalogs = entries keys;
})
changed machine (changes.Overdue config keys number) = with_texts machine (record machine.texts {
  world = record machine.texts.world { states = config };
  overdues = entries keys;
})
changed machine (changes.Book account next) = with_book machine account next.book

-- what a plan says that a command comes to
abbrev pub plan_judged : MachineValue → Planned → Judged LaneReply MachineValue
plan_judged machine (plans.Change change) = New (change_reply change) (changed machine change)
plan_judged machine (plans.Opened opened) =
    New (replies.Accepted opened.answer) (with_book machine opened.account opened.book)
plan_judged machine (plans.Again reply) = Again reply

-- the account whose book changes is there, and the texts bill its new book
abbrev pub IsThere : MachineValue → Change → Type 0
IsThere machine (changes.Catalog catalog keys number) = Unit {0}
IsThere machine (changes.Overdue config keys number) = Unit {0}
IsThere machine (changes.Book account next) =
    IsSome (book_of machine account) × IsBilled machine.texts.world next.book

-- a book, and what is issued for it
pub record DueBook : Type 0 where
  pub book : BookValue
  pub issue : Issue

-- this is the book of an account, as it stands, and what is issued for it
abbrev pub IsDueIn : MachineValue → List ℕ → DueBook → Type 0
IsDueIn machine account due =
    (book_of machine account ≡ Some due.book) × IsIssueOf machine.texts.world due.book due.issue

-- so it is of a plan; an account that is opened isn't there
abbrev pub Fits : MachineValue → Planned → Type 0
Fits machine (plans.Change change) = IsThere machine change
Fits machine (plans.Opened opened) = book_of machine opened.account ≡ None
Fits machine (plans.Again reply) = Unit {0}
