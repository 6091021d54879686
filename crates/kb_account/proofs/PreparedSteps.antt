-- A step is refused, kept or accepted.
use Rattle.std.proofs.Common.{◌≡◌, ℕ, Bool, true, false, Option, Some, None, Result, Ok, bytes_eq, refl, ap}
use Rattle.kb_days.specs.Calendar.{first_day, charged_days}
use Rattle.kb_codec.specs.declared.command.Command.{Command}
use Rattle.kb_codec.specs.CommandBytes.{spelling}
use Rattle.kb_book.specs.declared.answer.Answer.{Answer}
use Rattle.kb_book.specs.declared.refusal.Refusal.{Refusal}
use Rattle.kb_book.specs.declared.unprepared.Unprepared.{Unprepared}
use Rattle.kb_book.specs.declared.unprepared.Unprepared.TheVariants.{Refused, NoMemory}
use Rattle.kb_book.specs.Worlds.{WorldValue}
use Rattle.kb_book.specs.Books.{BookValue, Kept}
use Rattle.kb_book.specs.Rows.{first_refusal, IsUnprepared}
use Rattle.kb_book.specs.Steps.{Outcome, step, kept_of, rows_of, accepted_over}
use Rattle.kb_codec.specs.Senders.{key_of}
use Rattle.kb_account.specs.Prepares.{refusal_by}
use Rattle.kb_account.specs.Private.KeptAnswers.{kept_answer, kept_refusal}

-- an outcome, as a step gives it
abbrev ok_of : Outcome → Result Outcome Refusal
ok_of outcome = Ok outcome

module _ (world : WorldValue) (book : BookValue) (today : ℕ) (command : Command) where
  -- what a step gives
  abbrev pub stepped : Result Outcome Refusal
  stepped = step world book today command

  abbrev found : Option Kept
  found = kept_of book (key_of command)

  -- an answer that was kept
  pub step-kept : (answer : Answer) → Some answer ≡ kept_answer found command → stepped ≡ Ok (answer, book)
  unfolding step
  step-kept answer is = by_found found refl is
    where
      by_same : (kept : Kept) (same : Bool) → bytes_eq kept.spelling (spelling command) ≡ same
          → found ≡ Some kept
          → Some answer ≡ kept_answer (Some kept) command → stepped ≡ Ok (answer, book)
      by_same kept true here there told =
          let given : Some answer ≡ Some kept.answer = rw here at told in
          let same : kept.answer ≡ answer = cc in
          rw (there, here) (ap (λ (a : Answer). ok_of (a, book)) same)
      by_same kept false here there told = absurd (let given = rw here at told in cc)

      by_found : (kept : Option Kept) → found ≡ kept → Some answer ≡ kept_answer kept command
          → stepped ≡ Ok (answer, book)
      by_found None there told = absurd (cc)
      by_found (Some kept) there told = by_same kept (bytes_eq kept.spelling (spelling command))
          refl there told

  -- where no answer was kept, and no other command, the key is new
  new-key : (kept : Option Kept) → None ≡ kept_answer kept command → kept_refusal kept command ≡ None
      → kept ≡ None
  new-key None none allowed = refl
  new-key (Some kept) none allowed = by_same (bytes_eq kept.spelling (spelling command)) refl
    where
      by_same : (same : Bool) → bytes_eq kept.spelling (spelling command) ≡ same → Some kept ≡ None
      by_same true here = absurd (let given = rw here at none in cc)
      by_same false here = absurd (let given = rw here at allowed in cc)

  -- a new command that isn't refused is accepted
  pub step-accepted : (outcome : Outcome) → None ≡ kept_answer found command
      → kept_refusal found command ≡ None
      → first_refusal (rows_of world book today command) ≡ None
      → accepted_over world book today command first_day charged_days ≡ outcome → stepped ≡ Ok outcome
  unfolding step
  step-accepted outcome none allowed accepted is =
      rw (new-key found none allowed, accepted) (ap ok_of is)

  -- another command was accepted under its key
  pub step-reused : (fault : Unprepared) → IsUnprepared (kept_refusal found command) fault
      → IsUnprepared (refusal_by stepped) fault
  unfolding step
  step-reused NoMemory is = tt
  step-reused (Refused refusal) is = by_found found refl is
    where
      by_same : (kept : Kept) (same : Bool) → bytes_eq kept.spelling (spelling command) ≡ same
          → found ≡ Some kept
          → kept_refusal (Some kept) command ≡ Some refusal → refusal_by stepped ≡ Some refusal
      by_same kept true here there told = absurd (let given = rw here at told in cc)
      by_same kept false here there told =
          let given = rw here at told in rw (there, here) given

      by_found : (kept : Option Kept) → found ≡ kept → kept_refusal kept command ≡ Some refusal
          → refusal_by stepped ≡ Some refusal
      by_found None there told = absurd (cc)
      by_found (Some kept) there told = by_same kept (bytes_eq kept.spelling (spelling command))
          refl there told

  -- a new command is refused by its first refusal
  pub step-refused : (fault : Unprepared) → None ≡ kept_answer found command
      → kept_refusal found command ≡ None
      → IsUnprepared (first_refusal (rows_of world book today command)) fault
      → IsUnprepared (refusal_by stepped) fault
  unfolding step
  step-refused NoMemory none allowed is = tt
  step-refused (Refused refusal) none allowed is = rw (new-key found none allowed, is)
