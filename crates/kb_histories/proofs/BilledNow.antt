-- Accounts are billed by the texts of now, after each command.
use Rattle.std.proofs.Common.{◌≡◌, ℕ, ◌+◌, List, [], ◌∷◌, ◌++◌, length, Option, Some, None, refl, sym, subst}
use Rattle.std.proofs.Common.{◌∙◌}
use Rattle.std.specs.List.{fold}
use Rattle.std.proofs.Math.Path.{fun_ext, subst₂}
use Rattle.kb_days.specs.Calendar.{first_day, charged_days}
use Rattle.kb_catalog.specs.declared.version.Version.{Version}
use Rattle.kb_codec.specs.declared.command.Command.{Command}
use Rattle.kb_codec.specs.declared.action.OpenAccount.{OpenAccount}
use Rattle.kb_due.specs.declared.cell.Cell.{Cell}
use Rattle.kb_due.specs.Facts.{FactsValue}
use Rattle.kb_due.specs.DueDays.{due_at, fee_at}
use Rattle.kb_book.specs.Worlds.{WorldValue}
use Rattle.kb_tree.specs.Issues.{SubscriptionItems}
use Rattle.kb_book.specs.Books.{BookValue}
use Rattle.kb_book.specs.Dues.{facts_of}
use Rattle.kb_book.specs.Commands.{begun, own_lines}
use Rattle.kb_book.specs.Steps.{Outcome, keep, accepted_over, billed_outcome, issue_over}
use Rattle.kb_book.specs.BilledBooks.{IsCharged, AreCharged, IsBilled}
use Rattle.kb_book.proofs.BegunBooks.{begun-edited}
use Rattle.kb_account.specs.Prepares.{opening_book}
use Rattle.kb_codec.specs.Entries.{History}
use Rattle.kb_machine.specs.Texts.{TextsValue}
use Rattle.kb_machine.specs.Machines.{MachineValue, no_machine, with_book, opening}
use Rattle.kb_codec.specs.Senders.{account_of, key_of}
use Rattle.kb_machine.specs.Histories.{entry_after, replay}
use Rattle.kb_histories.proofs.FoundEntries.{found-put}
use Rattle.kb_histories.specs.BilledMachines.{WasBilled, AreBilled}
use Rattle.kb_histories.proofs.BilledBooks.{after-charged, was-accepted, books_stay_billed}
use Rattle.kb_histories.specs.HeldPlans.{HasPlansOf}
use Rattle.kb_histories.specs.LaterVersions.{with_later}
use Rattle.kb_histories.specs.HeldMachines.{HasAllPlans}
use Rattle.kb_histories.specs.BilledNow.{AreBilledNow, BooksStayBilledNow, ReplaysAreBilledNow}
use Rattle.kb_histories.proofs.LaterDues.{dues_stay, fees_stay}
use Rattle.kb_histories.proofs.LaterTotals.{totals_stay}
use Rattle.kb_histories.proofs.HeldBooks.{plans_stay}
use Rattle.kb_histories.proofs.JudgedTexts.{HaveLater, judged-leaves}
use Rattle.kb_histories.proofs.TotalledBooks.{after-totals}

-- days that are charged by some versions are so with later ones
charged-later : (facts : FactsValue) (later : List Version) (billed : Option ℕ)
    → HasPlansOf facts.catalog facts.timeline → (sub : ℕ) (charges : List SubscriptionItems)
    → AreCharged facts billed sub charges → AreCharged (with_later facts later) billed sub charges
charged-later facts later billed held sub [] charged = tt
charged-later facts later billed held sub (items ∷ others) charged =
    let fees : fee_at facts sub billed ≡ fee_at (with_later facts later) sub billed =
    fun_ext (λ (day : ℕ). sym (fees_stay facts later sub billed day held)) in
    let dues : due_at facts sub billed ≡ due_at (with_later facts later) sub billed =
    fun_ext (λ (day : ℕ). sym (dues_stay facts later sub billed day held)) in (
      subst₂ (λ (fee due : ℕ → Option Cell). IsCharged fee due items) fees dues charged.0,
      charged-later facts later billed held (sub + 1) others charged.1,
    )

-- so is a book that is billed by them
billed-later : (world : WorldValue) (later : List Version) (book : BookValue)
    → HasPlansOf world.versions book.timeline → IsBilled world book
    → IsBilled (record world { versions = world.versions ++ later }) book
billed-later world later book held billed = record {
  days = charged-later (facts_of world book) later book.billed held 0 book.charges billed.days;
  totals = billed.totals ∙ sym (totals_stay world later book held);
}

-- and whatever overdue states there are then
billed-texts : (texts next : TextsValue) (book : BookValue) → HaveLater texts next
    → HasPlansOf texts.world.versions book.timeline → IsBilled texts.world book → IsBilled next.world book
billed-texts texts next book more held billed =
    let now : IsBilled (record texts.world { versions = next.world.versions }) book =
    subst (λ (versions : List Version). IsBilled (record texts.world { versions = versions }) book)
    (sym more.1) (billed-later texts.world more.0 book held billed) in
    record { days = now.days; totals = now.totals }

-- keeping an answer leaves it so
billed-keep : (world : WorldValue) (command : Command) (key : Option (List ℕ)) (outcome : Outcome)
    → IsBilled world outcome.1 → IsBilled world (keep command key outcome).1
billed-keep world command None outcome billed = billed
billed-keep world command (Some key) outcome billed = record { days = billed.days; totals = billed.totals }

-- and so does an accepted command
pub billed-accepted : (world : WorldValue) (book : BookValue) (today : ℕ) (command : Command) → WasBilled book
    → IsBilled world book → IsBilled world (accepted_over world book today command first_day charged_days).1
billed-accepted world book today command was billed =
    let edited : BookValue = begun world book today command in
    let edit = begun-edited world book today command in
    billed-keep world command (key_of command)
    (billed_outcome edited today (issue_over world edited first_day charged_days) (own_lines command))
    (record {
      days = after-charged world book edited (own_lines command) today was edit;
      totals = after-totals world book edited (own_lines command) today billed was.matched edit;
    })

-- an account that is opened has nothing due
pub billed-opened : (world : WorldValue) (today : ℕ) (name request : List ℕ) (c : OpenAccount)
    → IsBilled world
    (accepted_over world (opening_book (opening name request c)) today (opening name request c) first_day
    charged_days).1
billed-opened world today name request c = record { days = tt; totals = refl }

-- with one more book
billed-put : (machine : MachineValue) (own : List ℕ) (value : BookValue) → AreBilledNow machine
    → IsBilled machine.texts.world value → length value.charges ≡ length value.timeline.subscriptions
    → AreBilledNow (with_book machine own value)
billed-put machine own value are billed matched = record {
  billed =
      λ account book. found-put account own value machine.books
      (λ found. found ≡ Some book → IsBilled machine.texts.world book)
      (λ other there. are.billed account book there)
      (λ same there. let one : value ≡ book = cc in subst (IsBilled machine.texts.world) one billed);
  matched =
      λ account book. found-put account own value machine.books
      (λ found. found ≡ Some book → length book.charges ≡ length book.timeline.subscriptions)
      (λ other there. are.matched account book there)
      (λ same there. let one : value ≡ book = cc in
      subst (λ (one : BookValue). length one.charges ≡ length one.timeline.subscriptions) one matched);
}

-- each command leaves all books so
pub books_stay_billed_now : BooksStayBilledNow
books_stay_billed_now machine today command were has are =
    judged-leaves machine today AreBilledNow are command
    (λ texts more. record {
      billed = λ account book there.
          billed-texts machine.texts texts book more (has.held account book there)
          (are.billed account book there);
      matched = are.matched;
    })
    (λ name request c. billed-put machine (account_of command) _ are
    (billed-opened machine.texts.world today name request c) refl)
    (λ book there none.
    billed-put machine (account_of command) _ are
    (billed-accepted machine.texts.world book today command (were.billed (account_of command) book there)
    (are.billed (account_of command) book there))
    (was-accepted machine.texts.world book today command
    (were.billed (account_of command) book there)).matched)

-- and each history leads to such ones
billed-after : (later : History) (machine : MachineValue) → AreBilled machine → HasAllPlans machine
    → AreBilledNow machine → AreBilledNow (fold entry_after machine later)
billed-after [] machine were has are = are
billed-after (entry ∷ later) machine were has are =
    billed-after later (entry_after machine entry) (books_stay_billed machine entry.0 entry.1 were)
    (plans_stay machine entry.0 entry.1 has) (books_stay_billed_now machine entry.0 entry.1 were has are)

pub replays_are_billed_now : ReplaysAreBilledNow
unfolding replay
replays_are_billed_now history =
    billed-after history no_machine (record { billed = λ account book there. absurd (cc); ordered = tt })
    (record { held = λ account book there. absurd (cc) })
    (record { billed = λ account book there. absurd (cc); matched = λ account book there. absurd (cc) })
