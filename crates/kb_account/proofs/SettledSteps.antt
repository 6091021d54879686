-- What is due with a settlement is what is due of the book as it stands, and a settlement has no key.
use Rattle.std.proofs.Common.{◌≡◌, ℕ, None, Ok, refl, ap₂, ◌∙◌}
use Rattle.std.specs.Arc.{arc_value}
use Rattle.kb_days.specs.Calendar.{first_day, charged_days}
use Rattle.kb_codec.specs.declared.command.Command.{Command}
use Rattle.kb_tree.specs.declared.issue.Issue.{Issue}
use Rattle.kb_book.specs.declared.unprepared.Unprepared.{Unprepared}
use Rattle.kb_book.specs.Worlds.{WorldValue}
use Rattle.kb_book.specs.Books.{BookValue}
use Rattle.kb_book.specs.Commands.{begun}
use Rattle.kb_book.specs.Rows.{first_refusal, IsUnprepared}
use Rattle.kb_book.specs.Steps.{Outcome, rows_of, step, accepted_over}
use Rattle.kb_account.specs.Issues.{IsIssueOf, IsSettlement}
use Rattle.kb_account.specs.Prepares.{refusal_by}
use Rattle.kb_account.proofs.LeftDues.{issue-left}
use Rattle.kb_account.proofs.PreparedSteps.{step-accepted, step-refused}

module _ (world : WorldValue) (book : BookValue) (today : ℕ) (command : Command)
    (settles : IsSettlement command) where
  -- a settlement leaves what is due, so the items that are due with it are those of the book
  pub issue-settled : (edited : BookValue) (issue shared : Issue) → edited ≡ begun world book today command
      → shared.lines.items ≡ issue.lines.items
      → (arc_value shared.charges).items ≡ (arc_value issue.charges).items
      → IsIssueOf world book issue → IsIssueOf world edited shared
  issue-settled edited issue shared edit lines charges is =
      issue-left world book edited today command shared (rw settles.1 refl) edit (record {
        over = ap₂ (λ l c. record { lines = l; charges = c }) lines charges ∙ is.over;
        few = rw lines is.few;
        plain = rw lines is.plain;
      })

  -- a settlement that isn't refused is accepted
  pub step-settled : (outcome : Outcome) → first_refusal (rows_of world book today command) ≡ None
      → accepted_over world book today command first_day charged_days ≡ outcome
      → step world book today command ≡ Ok outcome
  step-settled outcome accepted is =
      step-accepted world book today command outcome (rw settles.1 refl) (rw settles.1 refl) accepted is

  -- and it is refused by its first refusal
  pub step-unsettled : (fault : Unprepared) → IsUnprepared
      (first_refusal (rows_of world book today command)) fault
      → IsUnprepared (refusal_by (step world book today command)) fault
  step-unsettled fault is =
      step-refused world book today command fault (rw settles.1 refl) (rw settles.1 refl) is
