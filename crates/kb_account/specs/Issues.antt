-- What is issued for a book, and settlements, which leave that as it is.
use Rattle.std.specs.Prelude.{◌≡◌, ◌≤◌, ◌*◌, length, All}
use Rattle.kb_days.specs.Calendar.{first_day, charged_days}
use Rattle.kb_codec.specs.declared.command.Command.{Command}
use Rattle.kb_codec.specs.declared.command.Command.TheVariants as kinds
use Rattle.kb_codec.specs.declared.command.Settle.{Settle}
use Rattle.kb_tree.specs.declared.issue.Issue.{Issue}
use Rattle.kb_tree.specs.ItemLines.{IsItemLine}
use Rattle.kb_tree.specs.IssueValues.{issue_of}
use Rattle.kb_book.specs.Worlds.{WorldValue}
use Rattle.kb_book.specs.Books.{BookValue}
use Rattle.kb_book.specs.Steps.{issue_over}

-- what is issued for a book over all days, and how much that may be
pub record IsIssueOf (world : WorldValue) (book : BookValue) (issue : Issue) : Type 0 where
  pub over : issue_of issue ≡ issue_over world book first_day charged_days
  pub few : length issue.lines.items ≤ 512 * charged_days
  pub plain : All IsItemLine issue.lines.items

-- a command is a settlement
abbrev pub IsSettlement : Command → Type 0
IsSettlement command = (c : Settle) × (command ≡ kinds.Settle c)
