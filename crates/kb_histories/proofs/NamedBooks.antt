-- Books stay found under the names of their accounts.
use Rattle.std.proofs.Common.{◌≡◌, ℕ, List, [], ◌∷◌, Some, sym, ap, ◌∙◌}
use Rattle.std.specs.List.{fold}
use Rattle.kb_book.specs.Books.{BookValue}
use Rattle.kb_account.specs.Prepares.{opening_book}
use Rattle.kb_codec.specs.Entries.{History}
use Rattle.kb_machine.specs.Judged.{after_judged}
use Rattle.kb_machine.specs.Machines.{MachineValue, no_machine, with_book, opening}
use Rattle.kb_codec.specs.Senders.{account_of}
use Rattle.kb_machine.specs.Histories.{entry_after, replay}
use Rattle.kb_histories.specs.Names.{AreNamed, NamesStay, ReplaysAreNamed}
use Rattle.kb_histories.proofs.FoundEntries.{found-put}
use Rattle.kb_histories.proofs.JudgedCases.{judged-cases, accepted_on}
use Rattle.kb_histories.proofs.AcceptedBooks.{accepted-account}

-- they do with one more book that is its account's
named-put : (machine : MachineValue) (own : List ℕ) (value : BookValue) → AreNamed machine
    → value.account ≡ own → AreNamed (with_book machine own value)
named-put machine own value are is = record {
  named =
      λ account book. found-put account own value machine.books
      (λ found. found ≡ Some book → book.account ≡ account) (λ other there. are.named account book there)
      (λ same there. let one : value ≡ book = cc in
      sym (ap (λ (some : BookValue). some.account) one) ∙ is ∙ sym same);
}

-- they do after each command
pub names_stay : NamesStay
names_stay machine today command are =
    judged-cases machine today (λ comes. AreNamed (after_judged machine comes)) (λ reply. are)
    (λ refusal. are) command (λ text reply texts. record { named = are.named })
    (λ name request c opens none.
    named-put machine (account_of command)
    (accepted_on machine today (opening name request c) (opening_book (opening name request c))).1 are
    (accepted-account machine.texts.world (opening_book (opening name request c)) today
    (opening name request c)
    ∙ sym (ap account_of opens)))
    (λ book there none.
    named-put machine (account_of command) (accepted_on machine today command book).1 are
    (accepted-account machine.texts.world book today command ∙ are.named (account_of command) book there))

-- and over later commands
named-after : (later : History) (machine : MachineValue) → AreNamed machine
    → AreNamed (fold entry_after machine later)
named-after [] machine named = named
named-after (entry ∷ later) machine named =
    named-after later (entry_after machine entry) (names_stay machine entry.0 entry.1 named)

pub replays_are_named : ReplaysAreNamed
unfolding replay
replays_are_named history =
    named-after history no_machine (record { named = λ account book there. absurd (cc) })
