-- What a command on a book comes to, by what the book keeps.
use Rattle.std.proofs.Common.{◌≡◌, ℕ, Bool, true, false, Option, Some, None, cond, bytes_eq}
use Rattle.std.proofs.Common.{Result, Ok, Err, refl}
use Rattle.kb_days.specs.Calendar.{first_day, charged_days}
use Rattle.kb_codec.specs.declared.command.Command.{Command}
use Rattle.kb_codec.specs.CommandBytes.{spelling}
use Rattle.kb_book.specs.declared.answer.Answer.{Answer}
use Rattle.kb_book.specs.declared.refusal.Refusal.{Refusal}
use Rattle.kb_book.specs.declared.refusal.Refusal.TheVariants as refusal
use Rattle.kb_book.specs.Worlds.{WorldValue}
use Rattle.kb_book.specs.Books.{BookValue, Kept}
use Rattle.kb_book.specs.Rows.{first_refusal}
use Rattle.kb_book.specs.Steps.{Outcome, kept_of, accepted_over, rows_of, step}
use Rattle.kb_codec.specs.Senders.{key_of}
use Rattle.kb_machine.specs.Judged.{Judged, New, Again, Refused}
use Rattle.kb_machine.specs.Machines.{of_step, book_judged}

module _ (world : WorldValue) (book : BookValue) (today : ℕ) (command : Command) where
  abbrev accepted : Outcome
  accepted = accepted_over world book today command first_day charged_days

  abbrev judged_here : Judged Answer BookValue
  judged_here = book_judged world book today command

  -- a command that is new under its key is refused, or accepted
  pub judged-new-key : (P : Judged Answer BookValue → Type 0) → kept_of book (key_of command) ≡ None
      → ((refused : Refusal) → P (Refused refused)) → P (New accepted.0 accepted.1) → P judged_here
  unfolding step
  judged-new-key P none refused new =
      rw none (by_rows (first_refusal (rows_of world book today command)) refl)
    where
      by_rows : (found : Option Refusal) → first_refusal (rows_of world book today command) ≡ found
          → P (of_step false (elim found as (λ _. Result Outcome Refusal) [
            | Some refused ↦ Err refused
            | None ↦ Ok accepted
          ]))
      by_rows (Some refusal) is = refused refusal
      by_rows None is = new

  -- one whose key was used gets what is kept there, or is refused
  pub judged-kept-key : (kept : Kept) → kept_of book (key_of command) ≡ Some kept
      → judged_here
      ≡ cond (bytes_eq kept.spelling (spelling command)) (Again kept.answer) (Refused refusal.KeyReused)
  unfolding step
  judged-kept-key kept is = rw is (by_same (bytes_eq kept.spelling (spelling command)))
    where
      by_same : (same : Bool)
          → of_step same (cond same (Ok (kept.answer, book)) (Err refusal.KeyReused))
          ≡ cond same (Again kept.answer) (Refused refusal.KeyReused)
      by_same true = refl
      by_same false = refl
