-- Nothing is issued with a command that leaves what is due, if the book is billed.
use Rattle.std.proofs.Common.{◌≡◌, ℕ, true, [], refl, sym, ap, ap₂, ◌∙◌, arith}
use Rattle.std.proofs.lemmas.List.Elements.{All-nil}
use Rattle.std.specs.Arc.{arc_value}
use Rattle.kb_days.specs.Calendar.{first_day, charged_days}
use Rattle.kb_codec.specs.declared.command.Command.{Command}
use Rattle.kb_codec.specs.declared.command.Command.TheVariants as kinds
use Rattle.kb_codec.specs.declared.action.Action.TheVariants as actions
use Rattle.kb_tree.specs.declared.issue.Issue.{Issue}
use Rattle.kb_tree.specs.ItemLines.{IsItemLine}
use Rattle.kb_book.specs.Worlds.{WorldValue}
use Rattle.kb_book.specs.Books.{BookValue}
use Rattle.kb_book.specs.Commands.{begun}
use Rattle.kb_book.specs.Steps.{issue_over}
use Rattle.kb_book.specs.BilledBooks.{IsBilled}
use Rattle.kb_book.proofs.NothingDue.{nothing-due}
use Rattle.kb_account.specs.Issues.{IsIssueOf}
use Rattle.kb_account.specs.Private.LeavingCommands.{leaves_due}

-- what is due stays
pub due-left : (world : WorldValue) (book : BookValue) (today : ℕ) (command : Command)
    → leaves_due command ≡ true
    → issue_over world (begun world book today command) first_day charged_days
    ≡ issue_over world book first_day charged_days
due-left world book today (kinds.Act account key (actions.Charge c)) leaves = refl
due-left world book today (kinds.Act account key (actions.Credit c)) leaves = refl
due-left world book today (kinds.Act account key (actions.Pay c)) leaves = refl
due-left world book today (kinds.Act account key (actions.Refund c)) leaves = refl
due-left world book today (kinds.Act account key (actions.Chargeback c)) leaves = refl
due-left world book today (kinds.Act account key (actions.Autopay c)) leaves = refl
due-left world book today (kinds.Auto c) leaves = refl
due-left world book today (kinds.Settle c) leaves = refl
due-left world book today command leaves = absurd (cc)

-- so what is issued for the book is issued with such a command
pub issue-left : (world : WorldValue) (book edited : BookValue) (today : ℕ) (command : Command)
    (issue : Issue) → leaves_due command ≡ true → edited ≡ begun world book today command
    → IsIssueOf world book issue → IsIssueOf world edited issue
issue-left world book edited today command issue leaves edit is = record {
  over =
      is.over ∙ sym (due-left world book today command leaves)
      ∙ sym (ap (λ (b : BookValue). issue_over world b first_day charged_days) edit);
  few = is.few;
  plain = is.plain;
}

-- of a book that is billed, nothing is
pub none-of : (world : WorldValue) (book : BookValue) (issue : Issue) → IsBilled world book
    → issue.lines.items ≡ [] → (arc_value issue.charges).items ≡ book.charges → IsIssueOf world book issue
none-of world book issue billed lines charges = record {
  over = ap₂ (λ l c. record { lines = l; charges = c }) lines charges ∙ sym (nothing-due world book billed);
  few = rw lines (omega arith);
  plain = rw lines (All-nil IsItemLine);
}

-- so with such a command nothing is
pub none-left : (world : WorldValue) (book edited : BookValue) (today : ℕ) (command : Command) (issue : Issue)
    → IsBilled world book → leaves_due command ≡ true → edited ≡ begun world book today command
    → issue.lines.items ≡ [] → (arc_value issue.charges).items ≡ book.charges → IsIssueOf world edited issue
none-left world book edited today command issue billed leaves edit lines charges =
    issue-left world book edited today command issue leaves edit
    (none-of world book issue billed lines charges)
