-- What holds of an edited book and of its lines before it is billed.
use Rattle.std.proofs.Common.{◌≡◌, ℕ, ◌+◌, ◌*◌, ◌^◌, ◌≤◌, ◌<◌, List, ◌++◌, length, None, All, sym, ap, subst}
use Rattle.std.proofs.Common.{arith, length-append}
use Rattle.std.proofs.lemmas.List.Elements.{All-append}
use Rattle.kb_days.specs.Calendar.{charged_days}
use Rattle.kb_credit.specs.declared.line.Line.{Line}
use Rattle.kb_credit.specs.declared.row.Row.{Row}
use Rattle.kb_credit.specs.Sizes.{size_of}
use Rattle.kb_credit.specs.Items.{amount_of}
use Rattle.kb_credit.specs.InvoiceEdits.{max_sum}
use Rattle.kb_codec.specs.declared.command.Command.{Command}
use Rattle.kb_codec.specs.declared.command.Command.TheVariants as kinds
use Rattle.kb_codec.specs.declared.action.Action.TheVariants as actions
use Rattle.kb_tree.specs.Numbers.{AreBelow}
use Rattle.kb_tree.specs.ItemLines.{IsItemLine}
use Rattle.kb_book.specs.Worlds.{WorldValue}
use Rattle.kb_book.specs.Books.{BookValue}
use Rattle.kb_book.specs.Commands.{begun, own_rows, own_lines}
use Rattle.kb_book.specs.Rows.{first_refusal}
use Rattle.kb_book.specs.SoundBooks.{IsBook}
use Rattle.kb_book.proofs.BegunBooks.{begun-edited}
use Rattle.kb_book.proofs.BilledSteps.{edited-matched, were-below}
use Rattle.kb_account.proofs.NextBooks.{own-plain, lines-size}

-- each subscription has its items
pub begun-matched : (world : WorldValue) (book edited : BookValue) (today : ℕ) (command : Command)
    → IsBook book
    → edited ≡ begun world book today command → length edited.charges ≡ length edited.timeline.subscriptions
begun-matched world book edited today command sound is =
    subst (λ (b : BookValue). length b.charges ≡ length b.timeline.subscriptions) (sym is)
    (edited-matched book (begun world book today command) (own_lines command) sound
    (begun-edited world book today command))

-- whose numbers are below the next one
pub begun-below : (world : WorldValue) (book edited : BookValue) (today : ℕ) (command : Command) → IsBook book
    → edited ≡ begun world book today command → All (AreBelow (length edited.invoices.items + 1))
    edited.charges
begun-below world book edited today command sound is =
    subst (λ (b : BookValue). All (AreBelow (length b.invoices.items + 1)) b.charges) (sym is)
    (were-below book (begun world book today command) (own_lines command) sound
    (begun-edited world book today command))

-- a command has one line of its own at most
own-few : (command : Command) → length (own_lines command) ≤ 1
own-few (kinds.Act account key (actions.Charge c)) = omega arith
own-few command = omega arith

-- all lines of a command that isn't refused are those of items
pub all-plain : (world : WorldValue) (book : BookValue) (today : ℕ) (command : Command)
    (issued lines : List Line)
    → first_refusal (own_rows world book today command) ≡ None → All IsItemLine issued
    → lines ≡ issued ++ own_lines command → All IsItemLine lines
all-plain world book today command issued lines accepted plain is =
    subst (λ (l : List Line). All IsItemLine l) (sym is)
    (All-append IsItemLine issued (own_lines command) plain (own-plain world book today command accepted))

-- and few
pub all-few : (command : Command) (issued lines : List Line) → length issued ≤ 512 * charged_days
    → lines ≡ issued ++ own_lines command → length lines ≤ 2 ^ 25
all-few command issued lines few is =
    omega (
      arith,
      ap (λ (l : List Line). length l) is,
      length-append issued (own_lines command),
      own-few command,
      few,
    )

-- so they are small
pub all-small : (lines : List Line) → All IsItemLine lines → length lines ≤ 2 ^ 25
    → size_of amount_of lines ≤ 2 ^ 55
all-small lines plain few = omega (arith, lines-size lines plain, few)

-- and leave room in the totals
pub all-room : (book : BookValue) (lines : List Line) → IsBook book → book.commands < 2 ^ 32
    → size_of amount_of lines ≤ 2 ^ 55
    → size_of (λ (row : Row). row.total) book.invoices.rows + size_of amount_of lines ≤ max_sum
all-room book lines sound few small = omega (arith, sound.totals, few, small)
