-- What a command on an account leaves of the replies that are kept, and what it adds.
use Rattle.std.proofs.Common.{◌≡◌, ℕ, Bool, true, false, List, Option, Some, None, cond, option_map, bytes_eq}
use Rattle.std.proofs.Common.{refl, sym, ap, subst, ◌∙◌}
use Rattle.std.proofs.lemmas.Slice.Eq.{bytes_eq-Decides}
use Rattle.std.specs.FinMap.{find}
use Rattle.kb_days.specs.Calendar.{first_day, charged_days}
use Rattle.kb_sharing.specs.Keys.{by_words}
use Rattle.kb_codec.specs.declared.command.Command.{Command}
use Rattle.kb_codec.specs.declared.command.Command.TheVariants as kinds
use Rattle.kb_codec.specs.declared.action.Action.TheVariants as actions
use Rattle.kb_codec.specs.CommandBytes.{spelling}
use Rattle.kb_book.specs.declared.answer.Answer.{Answer}
use Rattle.kb_book.specs.declared.refusal.Refusal.{Refusal}
use Rattle.kb_book.specs.declared.refusal.Refusal.TheVariants as refusal
use Rattle.kb_book.specs.Worlds.{WorldValue}
use Rattle.kb_book.specs.Books.{BookValue, Kept}
use Rattle.kb_book.specs.Rows.{first_refusal}
use Rattle.kb_book.specs.Steps.{Outcome, kept_of, accepted_over}
use Rattle.kb_account.specs.Prepares.{opening_book}
use Rattle.kb_book.specs.declared.reply.LaneReply.{LaneReply}
use Rattle.kb_book.specs.declared.reply.LaneReply.TheVariants as replies
use Rattle.kb_machine.specs.Judged.{Judged, New, Again, Refused, unless_refused, lifted, after_judged}
use Rattle.kb_machine.specs.Machines.{MachineValue, book_of, with_book, by_book, account_judged, opening}
use Rattle.kb_machine.specs.Machines.{absent_judged, book_judged, opening_rows, of_outcome}
use Rattle.kb_codec.specs.Senders.{account_of, key_of}
use Rattle.kb_histories.specs.RequestKeys.{Scope, CatalogTexts, OverdueTexts, OfAccount}
use Rattle.kb_book.proofs.RepeatedCommands.{find-put-self}
use Rattle.kb_histories.proofs.PutEntries.{find-put-other}
use Rattle.kb_histories.proofs.BookSteps.{accepted-stays, accepted-kept}
use Rattle.kb_histories.proofs.JudgedSteps.{judged-new-key, judged-kept-key}
use Rattle.kb_histories.proofs.ToldReplies.{Told, told_at, told_in, told_answer}

-- what a book comes to leaves what it keeps
book-stays : (world : WorldValue) (book : BookValue) (today : ℕ) (command : Command) (key : List ℕ)
    (told : Told) → told_in key (Some book) ≡ Some told
    → told_in key (Some (after_judged book (book_judged world book today command))) ≡ Some told
book-stays world book today command key told is = by_kept (kept_of book (key_of command)) refl
  where
    Stays : Judged Answer BookValue → Type 0
    Stays judged = told_in key (Some (after_judged book judged)) ≡ Some told

    by_same : (kept : Kept) (same : Bool) → Stays (cond same (Again kept.answer) (Refused refusal.KeyReused))
    by_same kept true = is
    by_same kept false = is

    by_kept : (found : Option Kept) → kept_of book (key_of command) ≡ found
        → Stays (book_judged world book today command)
    by_kept None none =
        judged-new-key world book today command Stays none (λ refused. is)
        (accepted-stays world book today command told_answer told key none is)
    by_kept (Some kept) there =
        subst Stays (sym (judged-kept-key world book today command kept there))
        (by_same kept (bytes_eq kept.spelling (spelling command)))

-- a new command is kept by its book
book-new : (world : WorldValue) (book : BookValue) (today : ℕ) (command : Command) (key : List ℕ)
    (answer : Answer) (after : BookValue) → key_of command ≡ Some key
    → book_judged world book today command ≡ New answer after
    → told_in key (Some after) ≡ Some (spelling command, replies.Accepted answer)
book-new world book today command key answer after named is = by_kept (kept_of book (key_of command)) refl
  where
    IsTold : Answer → BookValue → Type 0
    IsTold answer after = told_in key (Some after) ≡ Some (spelling command, replies.Accepted answer)

    Keeps : Judged Answer BookValue → Type 0
    Keeps judged = judged ≡ New answer after → IsTold answer after

    by_same : (kept : Kept) (same : Bool) → Keeps (cond same (Again kept.answer) (Refused refusal.KeyReused))
    by_same kept true given = absurd (cc)
    by_same kept false given = absurd (cc)

    accepted : Outcome
    accepted = accepted_over world book today command first_day charged_days

    by_kept : (found : Option Kept) → kept_of book (key_of command) ≡ found → IsTold answer after
    by_kept None none =
        judged-new-key world book today command Keeps none (λ refused given. absurd (cc)) (λ given.
        let same_answer : accepted.0 ≡ answer = cc in
        let same_after : accepted.1 ≡ after = cc in
        rw (← same_answer, ← same_after)
        (ap (option_map told_answer) (accepted-kept world book today command key named))) is
    by_kept (Some kept) there =
        subst Keeps (sym (judged-kept-key world book today command kept there))
        (by_same kept (bytes_eq kept.spelling (spelling command))) is

-- an account that is opened keeps its opening
opened-new : (machine : MachineValue) (today : ℕ) (command : Command) (key : List ℕ) (answer : Answer)
    (after : BookValue) → key_of command ≡ Some key → absent_judged machine today command ≡ New answer after
    → told_in key (Some after) ≡ Some (spelling command, replies.Accepted answer)
opened-new machine today (kinds.Act name request (actions.OpenAccount c)) key answer after named is =
    by_rows (first_refusal (opening_rows machine)) is
  where
    accepted : Outcome
    accepted = accepted_over machine.texts.world (opening_book (opening name request c)) today
        (opening name request c) first_day charged_days

    by_rows : (found : Option Refusal) → unless_refused found (of_outcome accepted) ≡ New answer after
        → told_in key (Some after) ≡ Some (spelling (opening name request c), replies.Accepted answer)
    by_rows None given =
        let same_answer : accepted.0 ≡ answer = cc in
        let same_after : accepted.1 ≡ after = cc in
        rw (← same_answer, ← same_after) (ap (option_map told_answer)
        (accepted-kept machine.texts.world (opening_book (opening name request c)) today
        (opening name request c) key named))
    by_rows (Some refused) given = absurd (cc)
opened-new machine today command key answer after named is = absurd (cc)

module _ (machine : MachineValue) (today : ℕ) (command : Command) where
  abbrev own : List ℕ
  own = account_of command

  -- what it comes to on the machine, by what it comes to on its account
  abbrev on_machine : Judged Answer BookValue → Judged LaneReply MachineValue
  on_machine judged = lifted replies.Accepted (with_book machine own) judged

  texts-stay : (judged : Judged Answer BookValue)
      → (after_judged machine (on_machine judged)).texts ≡ machine.texts
  texts-stay (New answer book) = refl
  texts-stay (Again answer) = refl
  texts-stay (Refused refused) = refl

  -- the book of another account
  pub other-stays : (account : List ℕ) (judged : Judged Answer BookValue) → bytes_eq account own ≡ false
      → book_of (after_judged machine (on_machine judged)) account ≡ book_of machine account
  other-stays account (New answer book) other = find-put-other account own book machine.books other
  other-stays account (Again answer) other = refl
  other-stays account (Refused refused) other = refl

  -- the book of its own
  own-stays : (key : List ℕ) (told : Told) (book : BookValue) (judged : Judged Answer BookValue)
      → told_in key (book_of machine own) ≡ Some told → book_of machine own ≡ Some book
      → told_in key (Some (after_judged book judged)) ≡ Some told
      → told_in key (book_of (after_judged machine (on_machine judged)) own) ≡ Some told
  own-stays key told book (New answer next) before there after =
      rw (find-put-self own next machine.books) after
  own-stays key told book (Again answer) before there after = before
  own-stays key told book (Refused refused) before there after = before

  -- what is kept at a key stays
  pub account-stays : (scope : Scope) (key : List ℕ) (told : Told) → told_at scope key machine ≡ Some told
      → told_at scope key (after_judged machine (account_judged machine today command)) ≡ Some told
  account-stays CatalogTexts key told is =
      rw (texts-stay (by_book machine today command (book_of machine own))) is
  account-stays OverdueTexts key told is =
      rw (texts-stay (by_book machine today command (book_of machine own))) is
  account-stays (OfAccount account) key told is = by_same (bytes_eq account own) refl
    where
      by_found : (found : Option BookValue) → book_of machine own ≡ found
          → told_in key (book_of machine own) ≡ Some told
          → told_in key
          (book_of (after_judged machine (on_machine (by_book machine today command found))) own)
          ≡ Some told
      by_found None none before = absurd (let gone = rw none at before in cc)
      by_found (Some book) there before =
          own-stays key told book (book_judged machine.texts.world book today command) before there
          (book-stays machine.texts.world book today command key told (rw there at before))

      by_same : (same : Bool) → bytes_eq account own ≡ same
          → told_in key (book_of (after_judged machine (account_judged machine today command)) account)
          ≡ Some told
      by_same false other =
          rw (other-stays account (by_book machine today command (book_of machine own)) other) is
      by_same true same =
          let one : account ≡ own = (bytes_eq-Decides account own).0 same in
          rw one (by_found (book_of machine own) refl (rw one at is))

  -- a new command is kept
  pub account-new : (key : List ℕ) (reply : LaneReply) (after : MachineValue) → key_of command ≡ Some key
      → account_judged machine today command ≡ New reply after
      → told_at (OfAccount own) key after ≡ Some (spelling command, reply)
  account-new key reply after named is = by_found (book_of machine own) refl
    where
      by_judged : (judged : Judged Answer BookValue)
          → ((answer : Answer) (book : BookValue) → judged ≡ New answer book
          → told_in key (Some book) ≡ Some (spelling command, replies.Accepted answer))
          → on_machine judged ≡ New reply after
          → told_at (OfAccount own) key after ≡ Some (spelling command, reply)
      by_judged (New answer book) kept given =
          let same_reply : replies.Accepted answer ≡ reply = cc in
          let same_after : with_book machine own book ≡ after = cc in
          rw (← same_reply, ← same_after, find-put-self own book machine.books) (kept answer book refl)
      by_judged (Again answer) kept given = absurd (cc)
      by_judged (Refused refused) kept given = absurd (cc)

      by_found : (found : Option BookValue) → book_of machine own ≡ found
          → told_at (OfAccount own) key after ≡ Some (spelling command, reply)
      by_found None none =
          by_judged (absent_judged machine today command)
          (λ answer book. opened-new machine today command key answer book named) (rw none at is)
      by_found (Some book) there =
          by_judged (book_judged machine.texts.world book today command)
          (λ answer next. book-new machine.texts.world book today command key answer next named)
          (rw there at is)

  -- one whose key was used gets what is kept there, or is refused
  pub account-kept : (key : List ℕ) (told : Told) → key_of command ≡ Some key
      → told_at (OfAccount own) key machine ≡ Some told
      → account_judged machine today command
      ≡ cond (bytes_eq told.0 (spelling command)) (Again told.1) (Refused refusal.KeyReused)
  account-kept key told named is = by_found (book_of machine own) refl
    where
      Comes : Told → Judged LaneReply MachineValue → Type 0
      Comes told judged =
          judged ≡ cond (bytes_eq told.0 (spelling command)) (Again told.1) (Refused refusal.KeyReused)

      by_same : (kept : Kept) (same : Bool)
          → on_machine (cond same (Again kept.answer) (Refused refusal.KeyReused))
          ≡ cond same (Again (replies.Accepted kept.answer)) (Refused refusal.KeyReused)
      by_same kept true = refl
      by_same kept false = refl

      by_kept : (book : BookValue) (found : Option Kept) → find by_words key book.kept ≡ found
          → option_map told_answer found ≡ Some told
          → Comes told (on_machine (book_judged machine.texts.world book today command))
      by_kept book None there told_is = absurd (cc)
      by_kept book (Some kept) there told_is =
          let one : told_answer kept ≡ told = cc in
          let used : kept_of book (key_of command) ≡ Some kept = rw named there in
          subst (λ told. Comes told (on_machine (book_judged machine.texts.world book today command))) one
          (ap on_machine (judged-kept-key machine.texts.world book today command kept used)
          ∙ by_same kept (bytes_eq kept.spelling (spelling command)))

      by_found : (found : Option BookValue) → book_of machine own ≡ found
          → Comes told (account_judged machine today command)
      by_found None none = absurd (let gone = rw none at is in cc)
      by_found (Some book) there =
          let told_is : told_in key (Some book) ≡ Some told = rw there at is in
          rw there (by_kept book (find by_words key book.kept) refl told_is)
