-- A machine of which one account is kept.
use Rattle.std.proofs.Common.{◌≡◌, ℕ, nat_le, Bool, true, false, List, [], ◌∷◌, length, Option, Some, None}
use Rattle.std.proofs.Common.{bytes_eq, refl, sym, ap, ◌∙◌, inl, inr, ◌⊎◌}
use Rattle.std.specs.declared.cmp.Ordering.TheVariants.{Equal}
use Rattle.std.specs.Cmp.{tied_itself}
use Rattle.std.specs.Cmp.Lexicographic.{nat_list_cmp_total}
use Rattle.std.specs.FinMap.{find, put}
use Rattle.kb_sharing.specs.Keys.{by_words}
use Rattle.kb_days.specs.Calendar.{first_day, charged_days}
use Rattle.kb_codec.specs.declared.command.Command.{Command}
use Rattle.kb_codec.specs.declared.command.Command.TheVariants as kinds
use Rattle.kb_codec.specs.declared.action.Action.TheVariants as actions
use Rattle.kb_book.specs.declared.answer.Answer.{Answer}
use Rattle.kb_book.specs.Books.{BookValue, Keyed}
use Rattle.kb_book.specs.Rows.{first_refusal, limit}
use Rattle.kb_book.specs.Steps.{Outcome, accepted_over}
use Rattle.kb_account.specs.Prepares.{opening_book}
use Rattle.kb_book.specs.declared.reply.LaneReply.{LaneReply}
use Rattle.kb_book.specs.declared.reply.LaneReply.TheVariants as replies
use Rattle.kb_machine.specs.Judged.{Judged, New, Again, Refused, unless_refused, lifted, after_judged}
use Rattle.kb_machine.specs.Texts.{TextsValue}
use Rattle.kb_machine.specs.Machines.{MachineValue, book_of, with_book, with_texts, by_book, opening}
use Rattle.kb_machine.specs.Machines.{absent_judged, account_judged, book_judged, max_accounts, of_outcome}
use Rattle.kb_codec.specs.Senders.{account_of}
use Rattle.kb_histories.proofs.AccountSteps.{other-stays}
use Rattle.kb_book.proofs.RepeatedCommands.{find-put-self}

-- a book by its name, if it is there
abbrev pub alone : List ℕ → Option BookValue → Keyed BookValue
alone account None = []
alone account (Some book) = (account, book) ∷ []

-- the texts, and one account
abbrev pub only : List ℕ → MachineValue → MachineValue
only account machine = record machine { books = alone account (book_of machine account) }

by_words-same : (word : List ℕ) → by_words word word ≡ Equal
by_words-same word = tied_itself nat_list_cmp_total word

find-alone : (account : List ℕ) (found : Option BookValue)
    → find by_words account (alone account found) ≡ found
find-alone account None = refl
find-alone account (Some book) = rw (by_words-same account) refl

put-alone : (account : List ℕ) (book : BookValue) (found : Option BookValue)
    → put by_words account book (alone account found) ≡ (account, book) ∷ []
put-alone account book None = refl
put-alone account book (Some old) = rw (by_words-same account) refl

pub book_of-only : (account : List ℕ) (machine : MachineValue)
    → book_of (only account machine) account ≡ book_of machine account
book_of-only account machine = find-alone account (book_of machine account)

-- the same of the machine with one account
abbrev pub narrowed : List ℕ → Judged LaneReply MachineValue → Judged LaneReply MachineValue
narrowed account comes = lifted (λ reply. reply) (only account) comes

-- a text comes to the same
pub text-same : (machine : MachineValue) (account : List ℕ) (reply : ℕ → LaneReply)
    (comes : Judged ℕ TextsValue)
    → lifted reply (with_texts (only account machine)) comes
    ≡ narrowed account (lifted reply (with_texts machine) comes)
text-same machine account reply (New number texts) = refl
text-same machine account reply (Again number) = refl
text-same machine account reply (Refused refused) = refl

module _ (machine : MachineValue) (today : ℕ) (command : Command) where
  abbrev own : List ℕ
  own = account_of command

  -- so does what comes to the same on the account
  book-same : (comes : Judged Answer BookValue)
      → lifted replies.Accepted (with_book (only own machine) own) comes
      ≡ narrowed own (lifted replies.Accepted (with_book machine own) comes)
  book-same (New answer book) =
      ap (λ (books : Keyed BookValue). New (replies.Accepted answer) (record machine { books = books }))
      (put-alone own book (book_of machine own)
      ∙ sym (ap (alone own) (find-put-self own book machine.books)))
  book-same (Again answer) = refl
  book-same (Refused refused) = refl

  -- and a command on an account that isn't there, unless there is no room for one more
  absent-same : (found : Option BookValue) (other : Command)
      → (absent_judged machine today other ≡ Refused (limit 1 max_accounts))
      ⊎ (absent_judged (record machine { books = alone own found }) today other
      ≡ absent_judged machine today other)
  absent-same found (kinds.Act name request (actions.OpenAccount c)) =
      by_full (nat_le max_accounts (length machine.books)) refl
    where
      accepted : Outcome
      accepted = accepted_over machine.texts.world (opening_book (opening name request c)) today
          (opening name request c) first_day charged_days

      opened : Bool → Judged Answer BookValue
      opened full = unless_refused (first_refusal ((full, limit 1 max_accounts) ∷ [])) (of_outcome accepted)

      by_found : (found : Option BookValue)
          → of_outcome accepted ≡ absent_judged machine today (opening name request c)
          → absent_judged (record machine { books = alone own found }) today (opening name request c)
          ≡ absent_judged machine today (opening name request c)
      by_found None room = room
      by_found (Some book) room = room

      by_full : (full : Bool) → nat_le max_accounts (length machine.books) ≡ full
          → (absent_judged machine today (opening name request c) ≡ Refused (limit 1 max_accounts))
          ⊎ (absent_judged (record machine { books = alone own found }) today (opening name request c)
          ≡ absent_judged machine today (opening name request c))
      by_full true is = inl (ap opened is)
      by_full false is = inr (by_found found (sym (ap opened is)))
  absent-same found other = inr refl

  -- so a command on that account comes to the same, unless it is refused as one account too many
  pub account-same : (account_judged machine today command ≡ Refused (limit 1 max_accounts))
      ⊎ (account_judged (only own machine) today command
      ≡ narrowed own (account_judged machine today command))
  account-same = by_found (book_of machine own) refl
    where
      on_whole : Option BookValue → Judged LaneReply MachineValue
      on_whole found = lifted replies.Accepted (with_book machine own) (by_book machine today command found)

      on_one : Option BookValue → Judged LaneReply MachineValue
      on_one found =
          lifted replies.Accepted (with_book (only own machine) own)
          (by_book (only own machine) today command found)

      -- what it comes to by the book that is found
      Comes : Option BookValue → Type 0
      Comes found =
          (on_whole found ≡ Refused (limit 1 max_accounts)) ⊎ (on_one found ≡ narrowed own (on_whole found))

      by_absent : (absent_judged machine today command ≡ Refused (limit 1 max_accounts))
          ⊎ (absent_judged (only own machine) today command ≡ absent_judged machine today command)
          → Comes None
      by_absent (inl full) = inl (ap (lifted replies.Accepted (with_book machine own)) full)
      by_absent (inr same) =
          inr (ap (lifted replies.Accepted (with_book (only own machine) own)) same
          ∙ book-same (absent_judged machine today command))

      comes : (found : Option BookValue) → Comes found
      comes None = by_absent (absent-same (book_of machine own) command)
      comes (Some book) = inr (book-same (book_judged machine.texts.world book today command))

      by_found : (found : Option BookValue) → book_of machine own ≡ found
          → (account_judged machine today command ≡ Refused (limit 1 max_accounts))
          ⊎ (account_judged (only own machine) today command
          ≡ narrowed own (account_judged machine today command))
      by_found found is = rw (book_of-only own machine) (comes (book_of machine own))

  -- a command on another account leaves this one
  pub other-same : (account : List ℕ) → bytes_eq account own ≡ false
      → only account (after_judged machine (account_judged machine today command)) ≡ only account machine
  other-same account other =
      by_comes (by_book machine today command (book_of machine own))
    where
      by_comes : (comes : Judged Answer BookValue)
          → only account (after_judged machine (lifted replies.Accepted (with_book machine own) comes))
          ≡ only account machine
      by_comes (New answer book) =
          ap (λ found. record machine { books = alone account found })
          (other-stays machine today command account (New answer book) other)
      by_comes (Again answer) = refl
      by_comes (Refused refused) = refl
