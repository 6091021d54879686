-- The book after an accepted command is sound.
use Rattle.std.proofs.Common.{◌≡◌, ℕ, ◌+◌, ◌^◌, ◌≤◌, ◌<◌, List, ◌++◌, length, nat_abs, ap, subst, ◌∙◌, arith}
use Rattle.std.proofs.Common.{All, None}
use Rattle.kb_days.specs.Calendar.{first_day, charged_days}
use Rattle.kb_sharing.specs.Sums.{sum_of}
use Rattle.kb_credit.specs.declared.line.Line.{Line}
use Rattle.kb_credit.specs.Items.{amount_of}
use Rattle.kb_credit.proofs.SizeLaws.{nat_abs-sum_of}
use Rattle.kb_payment.specs.PaymentSums.{PaymentsValue}
use Rattle.kb_codec.specs.declared.command.Command.{Command}
use Rattle.kb_tree.specs.ItemLines.{IsItemLine}
use Rattle.kb_book.specs.declared.answer.Answer.{Answer}
use Rattle.kb_book.specs.Worlds.{WorldValue}
use Rattle.kb_tree.specs.Issues.{Issue}
use Rattle.kb_book.specs.Books.{BookValue}
use Rattle.kb_book.specs.Commands.{begun, own_rows, own_lines}
use Rattle.kb_book.specs.Rows.{first_refusal}
use Rattle.kb_book.specs.Steps.{Outcome, issue_over, accepted_over}
use Rattle.kb_book.specs.SoundBooks.{IsBook}
use Rattle.kb_book.proofs.PaidMoves.{MovesOnce}
use Rattle.kb_book.proofs.SoundCommands.{sound-accepted}
use Rattle.kb_account.specs.declared.begun.Move.{Move}
use Rattle.kb_account.specs.Private.Begins.{HasMoved}
use Rattle.kb_account.proofs.NextBooks.{lines-size}

-- what moves is one move
moved-once : (old new : PaymentsValue) (moved : Move) → HasMoved old new moved → MovesOnce old new
moved-once old new moved has = (moved.invoice, moved.amount, has.small, has.by)

-- a book that is the one after an accepted command is sound
pub next-sound : (world : WorldValue) (book edited next : BookValue) (today : ℕ) (command : Command)
    (issue : Issue)
    (lines : List Line) (moved : Move) (answer : Answer)
    → IsBook book → book.commands + 1 < 2 ^ 32 → first_refusal (own_rows world book today command) ≡ None
    → edited ≡ begun world book today command
    → HasMoved book.payments edited.payments moved
    → issue ≡ issue_over world edited first_day charged_days
    → lines ≡ issue.lines ++ own_lines command
    → All IsItemLine lines → length lines ≤ 2 ^ 25
    → accepted_over world book today command first_day charged_days ≡ (answer, next)
    → IsBook next
next-sound world book edited next today command issue lines moved answer sound room accepted edit has made all
    plain few is =
    subst (λ (outcome : Outcome). IsBook outcome.1) is
    (sound-accepted world book today command sound accepted room small
    (subst (λ (b : BookValue). MovesOnce book.payments b.payments) edit
    (moved-once book.payments edited.payments moved has)))
  where
    whole : lines ≡ (issue_over world (begun world book today command) first_day charged_days).lines
        ++ own_lines command
    whole =
        all ∙ ap (λ (i : Issue). i.lines ++ own_lines command) made
        ∙ ap (λ (b : BookValue). (issue_over world b first_day charged_days).lines ++ own_lines command) edit

    small : nat_abs (sum_of amount_of ((issue_over world (begun world book today command) first_day
        charged_days).lines
        ++ own_lines command)) ≤ 2 ^ 55
    small =
        let size = nat_abs-sum_of amount_of lines in
        let most = lines-size lines plain in
        subst (λ (l : List Line). nat_abs (sum_of amount_of l) ≤ 2 ^ 55) whole
        (omega (arith, size, most, few))
