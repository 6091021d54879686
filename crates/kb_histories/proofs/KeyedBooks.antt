-- The payment keys of books stay apart.
use Rattle.std.proofs.Common.{◌≡◌, ℕ, ◌+◌, ◌≤◌, List, [], ◌∷◌, ◌++◌, length, Option, Some, None}
use Rattle.std.proofs.Common.{ap, subst, arith}
use Rattle.std.proofs.lemmas.List.Elements.{All-nil}
use Rattle.std.specs.List.{fold}
use Rattle.kb_days.specs.Calendar.{first_day, charged_days}
use Rattle.kb_credit.specs.declared.line.Line.{Line}
use Rattle.kb_credit.specs.InvoiceRows.{InvoicesValue}
use Rattle.kb_payment.specs.declared.attempt.Attempt.{Attempt}
use Rattle.kb_codec.specs.declared.command.Command.{Command}
use Rattle.kb_codec.specs.declared.action.OpenAccount.{OpenAccount}
use Rattle.kb_book.specs.Worlds.{WorldValue}
use Rattle.kb_book.specs.Books.{BookValue}
use Rattle.kb_book.specs.Commands.{begun, own_rows, own_lines}
use Rattle.kb_book.specs.Rows.{first_refusal}
use Rattle.kb_book.specs.Steps.{Outcome, keep, accepted_over, billed_outcome, issue_over}
use Rattle.kb_book.specs.OwnKeys.{IsOwned}
use Rattle.kb_book.proofs.AcceptedPayments.{AreSound, payments-sound}
use Rattle.kb_book.proofs.BegunBooks.{begun-edited}
use Rattle.kb_book.proofs.OwnedKeys.{AreOwned}
use Rattle.kb_book.proofs.InvoicedAttempts.{AreInvoiced, invoiced-more}
use Rattle.kb_book.proofs.KeptTotals.{billed_rows-few}
use Rattle.kb_account.specs.Prepares.{opening_book}
use Rattle.kb_codec.specs.Entries.{History}
use Rattle.kb_machine.specs.Judged.{after_judged}
use Rattle.kb_machine.specs.Machines.{MachineValue, no_machine, book_of, with_book, judged, opening}
use Rattle.kb_codec.specs.Senders.{account_of, key_of}
use Rattle.kb_machine.specs.Histories.{entry_after, replay}
use Rattle.kb_histories.specs.PaymentKeys.{ReplaysAreKeyed}
use Rattle.kb_histories.proofs.FoundEntries.{found-put}
use Rattle.kb_histories.proofs.JudgedCases.{judged-cases, accepted_on}
use Rattle.kb_histories.proofs.AcceptedBooks.{own-none}

-- the payment keys of a book are apart, and it has at most so many invoices; so of each book of a machine
record IsKeyedBelow (count : ℕ) (book : BookValue) : Type 0 where
  pub owned : AreOwned book.payments
  pub invoiced : AreInvoiced (length book.invoices.rows) book.payments
  pub low : length book.invoices.rows ≤ count

abbrev AreKeyedBelow : ℕ → MachineValue → Type 0
AreKeyedBelow count machine =
    (account : List ℕ) (book : BookValue) → book_of machine account ≡ Some book → IsKeyedBelow count book

-- keeping an answer leaves them
keyed-keep : (count : ℕ) (command : Command) (key : Option (List ℕ)) (outcome : Outcome)
    → IsKeyedBelow count outcome.1 → IsKeyedBelow count (keep command key outcome).1
keyed-keep count command None outcome keyed = keyed
keyed-keep count command (Some key) outcome keyed =
    record { owned = keyed.owned; invoiced = keyed.invoiced; low = keyed.low }

-- an accepted command leaves them, and makes at most one invoice
keyed-accepted : (world : WorldValue) (book : BookValue) (today : ℕ) (command : Command) (count : ℕ)
    → IsKeyedBelow count book → first_refusal (own_rows world book today command) ≡ None
    → IsKeyedBelow (count + 1) (accepted_over world book today command first_day charged_days).1
keyed-accepted world book today command count keyed none =
    let edited : BookValue = begun world book today command in
    let lines : List Line = (issue_over world edited first_day charged_days).lines ++ own_lines command in
    let edit = begun-edited world book today command in
    let rows = ap (λ (invoices : InvoicesValue). length invoices.rows) edit.invoices in
    let made = billed_rows-few edited.payments edited.invoices today lines in
    let sound : AreSound (length book.invoices.rows) edited.payments =
    payments-sound world book today command (keyed.owned, keyed.invoiced) none in
    let outcome : Outcome = billed_outcome edited today (issue_over world edited first_day charged_days)
    (own_lines command) in
    keyed-keep (count + 1) command (key_of command) outcome (record {
      owned = sound.0;
      invoiced =
          invoiced-more (length book.invoices.rows) (length outcome.1.invoices.rows) edited.payments
          (omega (arith, rows, made.0)) sound.1;
      low = omega (arith, rows, made.1, keyed.low);
    })

-- an account that is opened has no attempt
keyed-opened : (world : WorldValue) (today : ℕ) (name request : List ℕ) (c : OpenAccount) (count : ℕ)
    → IsKeyedBelow (count + 1)
    (accepted_over world (opening_book (opening name request c)) today (opening name request c) first_day
    charged_days).1
keyed-opened world today name request c count = record {
  owned = All-nil (λ (entry : List ℕ × Attempt). IsOwned entry.0 entry.1);
  invoiced = All-nil (λ (entry : List ℕ × Attempt). entry.1.invoice ≤ 0);
  low = omega arith;
}

-- there may be more invoices
keyed-more : (count : ℕ) (machine : MachineValue) → AreKeyedBelow count machine
    → AreKeyedBelow (count + 1) machine
keyed-more count machine keyed account book there =
    let one = keyed account book there in
    record { owned = one.owned; invoiced = one.invoiced; low = omega (arith, one.low) }

-- one more book
keyed-put : (count : ℕ) (machine : MachineValue) (own : List ℕ) (value : BookValue)
    → AreKeyedBelow count machine → IsKeyedBelow count value
    → AreKeyedBelow count (with_book machine own value)
keyed-put count machine own value keyed new account book =
    found-put account own value machine.books (λ found. found ≡ Some book → IsKeyedBelow count book)
    (λ other there. keyed account book there)
    (λ same there. let one : value ≡ book = cc in subst (IsKeyedBelow count) one new)

-- each command adds at most one invoice
keyed-judged : (machine : MachineValue) (today : ℕ) (command : Command) (count : ℕ)
    → AreKeyedBelow count machine
    → AreKeyedBelow (count + 1) (after_judged machine (judged machine today command))
keyed-judged machine today command count keyed =
    let more : AreKeyedBelow (count + 1) machine = keyed-more count machine keyed in
    judged-cases machine today (λ comes. AreKeyedBelow (count + 1) (after_judged machine comes))
    (λ reply. more) (λ refusal. more) command (λ text reply texts. more)
    (λ name request c opens none.
    keyed-put (count + 1) machine (account_of command)
    (accepted_on machine today (opening name request c) (opening_book (opening name request c))).1 more
    (keyed-opened machine.texts.world today name request c count))
    (λ book there none.
    keyed-put (count + 1) machine (account_of command) (accepted_on machine today command book).1 more
    (keyed-accepted machine.texts.world book today command count (keyed (account_of command) book there)
    (own-none machine.texts.world book today command none)))

-- over later commands
keyed-after : (later : History) (machine : MachineValue) (count : ℕ) → AreKeyedBelow count machine
    → AreKeyedBelow (count + length later) (fold entry_after machine later)
keyed-after [] machine count keyed =
    let same : count ≡ count + 0 = omega arith in
    subst (λ number. AreKeyedBelow number machine) same keyed
keyed-after (entry ∷ later) machine count keyed =
    let same : count + 1 + length later ≡ count + length (entry ∷ later) = omega arith in
    subst (λ number. AreKeyedBelow number (fold entry_after machine (entry ∷ later))) same
    (keyed-after later (entry_after machine entry) (count + 1)
    (keyed-judged machine entry.0 entry.1 count keyed))

-- so a history leads to at most as many invoices as it has commands
keyed-replay : (history : History) → AreKeyedBelow (length history) (replay history)
unfolding replay
keyed-replay history =
    let same : 0 + length history ≡ length history = omega arith in
    subst (λ number. AreKeyedBelow number (fold entry_after no_machine history)) same
    (keyed-after history no_machine 0 (λ account book there. absurd (cc)))

pub replays_are_keyed : ReplaysAreKeyed
replays_are_keyed history short = record {
  keyed =
      λ account book there.
      let one = keyed-replay history account book there in
      record { owned = one.owned; invoiced = one.invoiced; few = omega (arith, one.low) };
}
