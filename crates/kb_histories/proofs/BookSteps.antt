-- What a step of a book keeps, and what it makes of what is kept.
use Rattle.std.proofs.Common.{◌≡◌, ℕ, List, Option, Some, None, option_map, refl}
use Rattle.std.specs.FinMap.{find}
use Rattle.kb_days.specs.Calendar.{first_day, charged_days}
use Rattle.kb_sharing.specs.Keys.{by_words}
use Rattle.kb_codec.specs.declared.command.Command.{Command}
use Rattle.kb_codec.specs.declared.command.Command.TheVariants as kinds
use Rattle.kb_codec.specs.declared.action.Action.TheVariants as actions
use Rattle.kb_codec.specs.CommandBytes.{spelling}
use Rattle.kb_book.specs.Worlds.{WorldValue}
use Rattle.kb_book.specs.Books.{BookValue, Kept}
use Rattle.kb_book.specs.Commands.{begun, own_lines}
use Rattle.kb_book.specs.Steps.{Outcome, kept_of, keep, accepted_over, billed_outcome}
use Rattle.kb_codec.specs.Senders.{key_of}
use Rattle.kb_book.specs.Steps.{issue_over}
use Rattle.kb_book.proofs.RepeatedCommands.{find-put-self}
use Rattle.kb_histories.proofs.PutEntries.{find-put-stays}

-- a command's own edit leaves what is kept
begun-kept : (world : WorldValue) (book : BookValue) (today : ℕ) (command : Command)
    → (begun world book today command).kept ≡ book.kept
begun-kept world book today (kinds.Act account key (actions.Create c)) = refl
begun-kept world book today command = refl

-- an answer is kept under the command's key
pub kept-keep : (command : Command) (used : Option (List ℕ)) (key : List ℕ) (outcome : Outcome)
    → used ≡ Some key
    → find by_words key (keep command used outcome).1.kept
    ≡ Some (record { spelling = spelling command; answer = (keep command used outcome).0 })
kept-keep command None key outcome is = absurd (cc)
kept-keep command (Some own) key outcome is =
    let same : own ≡ key = cc in
    rw same (find-put-self key (record { spelling = spelling command; answer = outcome.0 }) outcome.1.kept)

-- keeping it leaves what was kept under other keys
kept-stays : {Y : Type 0} (of : Kept → Y) (found : Y) (command : Command) (used : Option (List ℕ))
    (key : List ℕ) (outcome : Outcome) (book : BookValue) → kept_of book used ≡ None
    → outcome.1.kept ≡ book.kept
    → option_map of (find by_words key book.kept) ≡ Some found
    → option_map of (find by_words key (keep command used outcome).1.kept) ≡ Some found
kept-stays of found command None key outcome book none same is = rw same is
kept-stays of found command (Some own) key outcome book none same is =
    let kept : Kept = record { spelling = spelling command; answer = outcome.0 } in
    rw same (find-put-stays key own kept book.kept of found none is)

module _ (world : WorldValue) (book : BookValue) (today : ℕ) (command : Command) where
  -- what an accepted command leaves
  pub accepted-stays : {Y : Type 0} (of : Kept → Y) (found : Y) (key : List ℕ)
      → kept_of book (key_of command) ≡ None
      → option_map of (find by_words key book.kept) ≡ Some found
      → option_map of
      (find by_words key (accepted_over world book today command first_day charged_days).1.kept)
      ≡ Some found
  accepted-stays of found key none is =
      let begun_book : BookValue = begun world book today command in
      kept-stays of found command (key_of command) key
      (billed_outcome begun_book today (issue_over world begun_book first_day charged_days)
      (own_lines command)) book none (begun-kept world book today command) is

  -- and what it keeps
  pub accepted-kept : (key : List ℕ) → key_of command ≡ Some key
      → find by_words key (accepted_over world book today command first_day charged_days).1.kept
      ≡ Some (record {
        spelling = spelling command;
        answer = (accepted_over world book today command first_day charged_days).0;
      })
  accepted-kept key is =
      let begun_book : BookValue = begun world book today command in
      let outcome : Outcome = billed_outcome begun_book today
      (issue_over world begun_book first_day charged_days) (own_lines command) in
      kept-keep command (key_of command) key outcome is
