-- Books stay billed, by the texts of the world at their last command.
use Rattle.std.proofs.Common.{◌≡◌, ℕ, ◌+◌, ◌⊎◌, inl, inr, List, [], ◌∷◌, ◌++◌, length, Option, Some, None}
use Rattle.std.proofs.Common.{All, refl, ap, sym, subst, ◌∙◌, arith, length-append}
use Rattle.std.specs.List.{fold}
use Rattle.std.specs.FinMap.Entries.{is_sorted-put}
use Rattle.std.specs.Cmp.Lexicographic.{nat_list_cmp_total}
use Rattle.std.proofs.lemmas.Option.{slice_get_past}
use Rattle.std.proofs.lemmas.List.Elements.{All-nil, All-push, All-weaker}
use Rattle.kb_days.specs.Calendar.{first_day, charged_days}
use Rattle.kb_sharing.specs.Keys.{by_words}
use Rattle.kb_credit.specs.declared.line.Line.{Line}
use Rattle.kb_credit.specs.InvoiceRows.{InvoicesValue}
use Rattle.kb_codec.specs.declared.command.Command.{Command}
use Rattle.kb_codec.specs.declared.action.OpenAccount.{OpenAccount}
use Rattle.kb_tree.specs.Numbers.{AreBelow}
use Rattle.kb_book.specs.Worlds.{WorldValue}
use Rattle.kb_tree.specs.Issues.{Issue, no_items}
use Rattle.kb_book.specs.Books.{BookValue}
use Rattle.kb_book.specs.Dues.{facts_of}
use Rattle.kb_book.specs.Commands.{begun, own_lines}
use Rattle.kb_book.specs.Steps.{Outcome, keep, accepted_over, billed_outcome, billed_with}
use Rattle.kb_book.specs.Steps.{issue_over}
use Rattle.kb_book.specs.BilledBooks.{AreCharged}
use Rattle.kb_book.proofs.BegunBooks.{IsEdited, AreKept, HaveOneMore, begun-edited, subscription_count}
use Rattle.kb_book.proofs.BelowIssues.{issue-below, billed_rows-count}
use Rattle.kb_book.proofs.ChargedSubscriptions.{AreBelow-higher}
use Rattle.kb_book.proofs.IssuedCharges.{issue-charged, issue-length}
use Rattle.kb_book.proofs.StartedSubscriptions.{AreCharged-start, no_items-below}
use Rattle.kb_account.specs.Prepares.{opening_book}
use Rattle.kb_codec.specs.Entries.{History}
use Rattle.kb_machine.specs.Judged.{after_judged}
use Rattle.kb_machine.specs.Machines.{MachineValue, no_machine, with_book, opening}
use Rattle.kb_codec.specs.Senders.{account_of, key_of}
use Rattle.kb_machine.specs.Histories.{entry_after, replay}
use Rattle.kb_histories.proofs.FoundEntries.{found-put}
use Rattle.kb_histories.proofs.JudgedCases.{judged-cases, accepted_on}
use Rattle.kb_histories.specs.BilledMachines.{WasBilled, AreBilled, BooksStayBilled, ReplaysAreBilled}

module _ (world : WorldValue) (book edited : BookValue) (own : List Line) (today : ℕ) (was : WasBilled book)
    (edit : IsEdited book edited own) where
  abbrev first : ℕ
  first = length edited.invoices.items + 1

  abbrev issue : Issue
  issue = issue_over world edited first_day charged_days

  -- the book once it is billed
  abbrev after : BookValue
  after = billed_with edited today issue own

  -- the numbers of the edited book's items are below the next one
  pub were-below : All (AreBelow first) edited.charges
  were-below = by_edit edit.subscriptions
    where
      next : length book.invoices.items + 1 ≡ first
      next = ap (λ (invoices : InvoicesValue). length invoices.items + 1) (sym edit.invoices)

      by_edit : AreKept book edited ⊎ HaveOneMore book edited → All (AreBelow first) edited.charges
      by_edit (inl kept) =
          subst (λ number. All (AreBelow number) edited.charges) next
          (subst (All (AreBelow (length book.invoices.items + 1))) (sym kept.0) was.below)
      by_edit (inr more) =
          subst (λ number. All (AreBelow number) edited.charges) next
          (subst (All (AreBelow (length book.invoices.items + 1))) (sym more.0)
          (All-push (AreBelow (length book.invoices.items + 1)) book.charges no_items was.below
          (no_items-below (length book.invoices.items + 1))))

  -- each subscription has its items
  edited-matched : length edited.charges ≡ subscription_count edited.timeline
  edited-matched = by_edit edit.subscriptions
    where
      by_edit : AreKept book edited ⊎ HaveOneMore book edited
          → length edited.charges ≡ subscription_count edited.timeline
      by_edit (inl kept) = omega (arith, ap length kept.0, kept.1, was.matched)
      by_edit (inr more) =
          omega (arith, ap length more.0, length-append book.charges (no_items ∷ []), more.1, was.matched)

  -- the days of its subscriptions are charged by what was due before
  pub were-charged : AreCharged (facts_of was.world book) book.billed 0 edited.charges
  were-charged = by_edit edit.subscriptions
    where
      by_edit : AreKept book edited ⊎ HaveOneMore book edited
          → AreCharged (facts_of was.world book) book.billed 0 edited.charges
      by_edit (inl kept) = subst (AreCharged (facts_of was.world book) book.billed 0) (sym kept.0) was.days
      by_edit (inr more) =
          subst (AreCharged (facts_of was.world book) book.billed 0) (sym more.0)
          (AreCharged-start (facts_of was.world book) book.billed 0 book.charges was.days
          (slice_get_past book.timeline.subscriptions (0 + length book.charges) (omega (arith, was.matched))))

  -- once it is billed, by what is due now
  pub after-charged : AreCharged (facts_of world after) after.billed 0 after.charges
  after-charged =
      issue-charged (facts_of was.world book) (facts_of world edited) book.billed edited.billed first 0
      edited.charges were-charged were-below

  -- so it was billed
  after-was : WasBilled after
  after-was = record {
    world = world;
    days = after-charged;
    matched =
        issue-length (facts_of world edited) (facts_of world edited) edited.billed edited.billed first 0
        edited.charges
        ∙ edited-matched;
    below =
        let past = length after.invoices.items + 1 in
        let count = billed_rows-count edited.payments edited.invoices today (issue.lines ++ own) in
        let lines = length-append issue.lines own in
        All-weaker (AreBelow (first + length issue.lines)) (AreBelow past)
        (λ one low. AreBelow-higher (first + length issue.lines) past one (omega (arith, count, lines)) low)
        after.charges (issue-below (facts_of world edited) edited.billed first 0 edited.charges were-below);
  }

-- also with its answer kept
was-keep : (command : Command) (key : Option (List ℕ)) (outcome : Outcome) → WasBilled outcome.1
    → WasBilled (keep command key outcome).1
was-keep command None outcome was = was
was-keep command (Some key) outcome was =
    record { world = was.world; days = was.days; matched = was.matched; below = was.below }

-- each accepted command leaves it so
pub was-accepted : (world : WorldValue) (book : BookValue) (today : ℕ) (command : Command) → WasBilled book
    → WasBilled (accepted_over world book today command first_day charged_days).1
was-accepted world book today command was =
    let edited : BookValue = begun world book today command in
    was-keep command (key_of command)
    (billed_outcome edited today (issue_over world edited first_day charged_days) (own_lines command))
    (after-was world book edited (own_lines command) today was (begun-edited world book today command))

-- an account that is opened has nothing due
was-opened : (world : WorldValue) (today : ℕ) (name request : List ℕ) (c : OpenAccount)
    → WasBilled
    (accepted_over world (opening_book (opening name request c)) today (opening name request c) first_day
    charged_days).1
was-opened world today name request c =
    record { world = world; days = tt; matched = refl; below = All-nil (AreBelow 1) }

-- one more book
billed-put : (machine : MachineValue) (own : List ℕ) (value : BookValue) → AreBilled machine
    → WasBilled value → AreBilled (with_book machine own value)
billed-put machine own value are was = record {
  billed =
      λ account book. found-put account own value machine.books (λ found. found ≡ Some book → WasBilled book)
      (λ other there. are.billed account book there)
      (λ same there. let one : value ≡ book = cc in subst WasBilled one was);
  ordered = is_sorted-put by_words nat_list_cmp_total own value machine.books are.ordered;
}

-- each command leaves all books so
pub books_stay_billed : BooksStayBilled
books_stay_billed machine today command are =
    judged-cases machine today (λ comes. AreBilled (after_judged machine comes)) (λ reply. are)
    (λ refusal. are) command (λ text reply texts. record { billed = are.billed; ordered = are.ordered })
    (λ name request c opens none.
    billed-put machine (account_of command)
    (accepted_on machine today (opening name request c) (opening_book (opening name request c))).1 are
    (was-opened machine.texts.world today name request c))
    (λ book there none.
    billed-put machine (account_of command) (accepted_on machine today command book).1 are
    (was-accepted machine.texts.world book today command (are.billed (account_of command) book there)))

-- and later ones
billed-after : (later : History) (machine : MachineValue) → AreBilled machine
    → AreBilled (fold entry_after machine later)
billed-after [] machine are = are
billed-after (entry ∷ later) machine are =
    billed-after later (entry_after machine entry) (books_stay_billed machine entry.0 entry.1 are)

pub replays_are_billed : ReplaysAreBilled
unfolding replay
replays_are_billed history =
    billed-after history no_machine (record { billed = λ account book there. absurd (cc); ordered = tt })
