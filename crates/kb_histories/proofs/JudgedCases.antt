-- What a command may come to on a machine, and what it leaves then.
use Rattle.std.proofs.Common.{◌≡◌, ℕ, Bool, true, false, Option, Some, None, cond, bytes_eq, List}
use Rattle.std.proofs.Common.{Result, Ok, Err, refl, sym, true≢false}
use Rattle.kb_days.specs.Calendar.{first_day, charged_days}
use Rattle.kb_codec.specs.declared.command.Command.{Command}
use Rattle.kb_codec.specs.declared.command.Command.TheVariants as kinds
use Rattle.kb_codec.specs.declared.action.Action.TheVariants as actions
use Rattle.kb_codec.specs.declared.action.OpenAccount.{OpenAccount}
use Rattle.kb_codec.specs.CommandBytes.{spelling}
use Rattle.kb_book.specs.declared.answer.Answer.{Answer}
use Rattle.kb_book.specs.declared.refusal.Refusal.{Refusal}
use Rattle.kb_book.specs.declared.refusal.Refusal.TheVariants as refusal
use Rattle.kb_book.specs.Worlds.{WorldValue}
use Rattle.kb_book.specs.Books.{BookValue, Kept}
use Rattle.kb_book.specs.Rows.{first_refusal}
use Rattle.kb_book.specs.Steps.{Outcome, kept_of, accepted_over, rows_of, step}
use Rattle.kb_account.specs.Prepares.{opening_book}
use Rattle.kb_book.specs.declared.reply.LaneReply.{LaneReply}
use Rattle.kb_book.specs.declared.reply.LaneReply.TheVariants as replies
use Rattle.kb_machine.specs.Judged.{Judged, New, Again, Refused, unless_refused, lifted, is_new}
use Rattle.kb_machine.specs.Texts.{TextsValue, catalog_judged, overdue_judged}
use Rattle.kb_machine.specs.Machines.{MachineValue, book_of, with_book, with_texts, by_book, absent_judged}
use Rattle.kb_machine.specs.Machines.{opening}
use Rattle.kb_machine.specs.Machines.{book_judged, opening_rows, of_step, of_outcome, judged, account_judged}
use Rattle.kb_codec.specs.Senders.{account_of, is_text, key_of}

-- on a book it comes again, or is refused, or is accepted
module _ (world : WorldValue) (book : BookValue) (today : ℕ) (command : Command) where
  book-cases : (Q : Judged Answer BookValue → Type 0) → ((answer : Answer) → Q (Again answer))
      → ((refused : Refusal) → Q (Refused refused))
      → (first_refusal (rows_of world book today command) ≡ None
      → Q (of_outcome (accepted_over world book today command first_day charged_days)))
      → Q (book_judged world book today command)
  unfolding step
  book-cases Q again refused new = by_kept (kept_of book (key_of command)) refl
    where
      accepted : Outcome
      accepted = accepted_over world book today command first_day charged_days

      by_rows : (found : Option Refusal) → first_refusal (rows_of world book today command) ≡ found
          → Q (of_step false (elim found as (λ _. Result Outcome Refusal) [
            | Some refused ↦ Err refused
            | None ↦ Ok accepted
          ]))
      by_rows (Some refusal) is = refused refusal
      by_rows None is = new is

      by_same : (kept : Kept) (same : Bool)
          → Q (of_step same (cond same (Ok (kept.answer, book)) (Err refusal.KeyReused)))
      by_same kept true = again kept.answer
      by_same kept false = refused refusal.KeyReused

      by_kept : (found : Option Kept) → kept_of book (key_of command) ≡ found
          → Q (book_judged world book today command)
      by_kept None none = rw none (by_rows (first_refusal (rows_of world book today command)) refl)
      by_kept (Some kept) is = rw is (by_same kept (bytes_eq kept.spelling (spelling command)))

  -- a command without a key that isn't refused is new
  book-new : key_of command ≡ None → first_refusal (rows_of world book today command) ≡ None
      → is_new (book_judged world book today command) ≡ true
  unfolding step
  book-new keyless accepted =
      let none : kept_of book (key_of command) ≡ None = rw keyless refl in
      rw (none, accepted) refl

module _ (machine : MachineValue) (today : ℕ) where
  -- what an accepted command makes of a book
  abbrev pub accepted_on : Command → BookValue → Outcome
  accepted_on command book = accepted_over machine.texts.world book today command first_day charged_days

  -- and of the machine
  abbrev pub comes_to : Command → Outcome → Judged LaneReply MachineValue
  comes_to command outcome =
      New (replies.Accepted outcome.0) (with_book machine (account_of command) outcome.1)

  -- where there is no account it is refused, or opens it
  absent-cases : (command : Command) (Q : Judged Answer BookValue → Type 0)
      → ((refused : Refusal) → Q (Refused refused))
      → ((name request : List ℕ) (c : OpenAccount) → command ≡ opening name request c
      → Q (of_outcome (accepted_on (opening name request c) (opening_book (opening name request c)))))
      → Q (absent_judged machine today command)
  absent-cases (kinds.Act name request (actions.OpenAccount c)) Q refused opened =
      by_rows (first_refusal (opening_rows machine))
    where
      by_rows : (found : Option Refusal) → Q (unless_refused found
          (of_outcome (accepted_on (opening name request c) (opening_book (opening name request c)))))
      by_rows None = opened name request c refl
      by_rows (Some refusal) = refused refusal
  absent-cases command Q refused opened = refused refusal.NoAccount

  module _ (P : Judged LaneReply MachineValue → Type 0) (again : (reply : LaneReply) → P (Again reply))
      (refused : (refusal : Refusal) → P (Refused refusal)) where
    -- a text changes no book
    text-cases : (reply : ℕ → LaneReply) (comes : Judged ℕ TextsValue)
        → ((reply : LaneReply) (texts : TextsValue) → P (New reply (with_texts machine texts)))
        → P (lifted reply (with_texts machine) comes)
    text-cases reply (New number texts) text = text (reply number) texts
    text-cases reply (Again number) text = again (reply number)
    text-cases reply (Refused refusal) text = refused refusal

    -- what a command on an account may come to
    account-cases : (command : Command)
        → ((name request : List ℕ) (c : OpenAccount) → command ≡ opening name request c
        → book_of machine (account_of command) ≡ None
        → P (comes_to command (accepted_on (opening name request c) (opening_book (opening name request c)))))
        → ((book : BookValue) → book_of machine (account_of command) ≡ Some book
        → first_refusal (rows_of machine.texts.world book today command) ≡ None
        → P (comes_to command (accepted_on command book)))
        → P (account_judged machine today command)
    account-cases command opened taken = by_found (book_of machine (account_of command)) refl
      where
        Q : Judged Answer BookValue → Type 0
        Q comes = P (lifted replies.Accepted (with_book machine (account_of command)) comes)

        by_found : (found : Option BookValue) → book_of machine (account_of command) ≡ found
            → Q (by_book machine today command found)
        by_found None none =
            absent-cases command Q refused (λ name request c is. opened name request c is none)
        by_found (Some book) there =
            book-cases machine.texts.world book today command Q (λ answer. again (replies.Accepted answer))
            refused (taken book there)

    -- what any command may come to: it is a text, it comes again, it is refused, it opens its account, or it
    -- is accepted on its account
    pub judged-cases : (command : Command)
        → (is_text command ≡ true → (reply : LaneReply) (texts : TextsValue)
        → P (New reply (with_texts machine texts)))
        → ((name request : List ℕ) (c : OpenAccount) → command ≡ opening name request c
        → book_of machine (account_of command) ≡ None
        → P (comes_to command (accepted_on (opening name request c) (opening_book (opening name request c)))))
        → ((book : BookValue) → book_of machine (account_of command) ≡ Some book
        → first_refusal (rows_of machine.texts.world book today command) ≡ None
        → P (comes_to command (accepted_on command book)))
        → P (judged machine today command)
    unfolding judged
    judged-cases (kinds.Catalog c) text opened taken =
        text-cases replies.Version (catalog_judged machine.texts c) (text refl)
    judged-cases (kinds.OverdueRules c) text opened taken =
        text-cases replies.States (overdue_judged machine.texts c) (text refl)
    judged-cases command text opened taken = account-cases command opened taken

  -- on an account that is there, a command without a key that isn't refused is new
  account-new : (command : Command) (book : BookValue) → book_of machine (account_of command) ≡ Some book
      → key_of command ≡ None → first_refusal (rows_of machine.texts.world book today command) ≡ None
      → is_new (account_judged machine today command) ≡ true
  account-new command book there keyless accepted =
      rw there (lifted-new command (book_judged machine.texts.world book today command)
      (book-new machine.texts.world book today command keyless accepted))
    where
      lifted-new : (command : Command) (comes : Judged Answer BookValue) → is_new comes ≡ true
          → is_new (lifted replies.Accepted (with_book machine (account_of command)) comes) ≡ true
      lifted-new command (New answer next) new = refl
      lifted-new command (Again answer) new = absurd (true≢false (sym new))
      lifted-new command (Refused refusal) new = absurd (true≢false (sym new))

  pub accepted-new : (command : Command) (book : BookValue) → book_of machine (account_of command) ≡ Some book
      → key_of command ≡ None → first_refusal (rows_of machine.texts.world book today command) ≡ None
      → is_new (judged machine today command) ≡ true
  unfolding judged
  accepted-new (kinds.Catalog c) book there keyless accepted = absurd (cc)
  accepted-new (kinds.OverdueRules c) book there keyless accepted = absurd (cc)
  accepted-new command book there keyless accepted = account-new command book there keyless accepted
