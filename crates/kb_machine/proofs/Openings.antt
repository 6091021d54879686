-- An account that isn't there is opened.
use Rattle.std.proofs.Common.{◌≡◌, ℕ, ◌<◌, nat_le, Bool, false, length, List, [], ◌∷◌, Option, None, sym, ap}
use Rattle.std.proofs.Common.{true, subst, true≢false, arith}
use Rattle.std.proofs.lemmas.Bool.Decides.{nat_tests}
use Rattle.kb_days.specs.Calendar.{first_day, charged_days}
use Rattle.kb_codec.specs.declared.command.Command.{Command}
use Rattle.kb_codec.specs.declared.command.Command.TheVariants as kinds
use Rattle.kb_codec.specs.declared.action.Action.TheVariants as actions
use Rattle.kb_codec.specs.declared.action.OpenAccount.{OpenAccount}
use Rattle.kb_book.specs.declared.answer.Answer.{Answer}
use Rattle.kb_book.specs.Books.{BookValue}
use Rattle.kb_book.specs.Rows.{first_refusal, limit}
use Rattle.kb_book.specs.Steps.{Outcome, accepted_over}
use Rattle.kb_account.specs.Prepares.{is_opening, opening_book}
use Rattle.kb_book.specs.declared.reply.LaneReply.TheVariants as replies
use Rattle.kb_machine.specs.Judged.{New, lifted, unless_refused}
use Rattle.kb_machine.specs.Machines.{MachineValue, max_accounts, book_of, with_book, account_judged, by_book}
use Rattle.kb_machine.specs.Machines.{of_outcome, opening}
use Rattle.kb_codec.specs.Senders.{account_of}

room : (count : ℕ) → count < max_accounts → nat_le max_accounts count ≡ false
room count few = grind (arith, nat_tests)

opened-account : (machine : MachineValue) (today : ℕ) (account key : List ℕ) (c : OpenAccount)
    (answer : Answer) (book : BookValue)
    → book_of machine account ≡ None → length machine.books < max_accounts
    → accepted_over machine.texts.world (opening_book (opening account key c)) today
    (opening account key c) first_day
    charged_days ≡ (answer, book)
    → account_judged machine today (opening account key c)
    ≡ New (replies.Accepted answer) (with_book machine account book)
opened-account machine today account key c answer book absent few first =
    let Found : Option BookValue → Type 0 = λ found. lifted replies.Accepted (with_book machine account)
    (by_book machine today (opening account key c) found)
    ≡ New (replies.Accepted answer) (with_book machine account book) in
    let Full : Bool → Type 0 = λ full. lifted replies.Accepted (with_book machine account)
    (unless_refused (first_refusal ((full, limit 1 max_accounts) ∷ []))
    (of_outcome (accepted_over machine.texts.world (opening_book (opening account key c)) today
    (opening account key c) first_day charged_days)))
    ≡ New (replies.Accepted answer) (with_book machine account book) in
    subst Found (sym absent) (subst Full (sym (room (length machine.books) few)) (ap (λ (outcome : Outcome).
    lifted replies.Accepted (with_book machine account) (of_outcome outcome)) first))

pub opened_account : (machine : MachineValue) (today : ℕ) (command : Command) (account : List ℕ)
    (answer : Answer) (book : BookValue) → is_opening command ≡ true → account ≡ account_of command
    → book_of machine account ≡ None → length machine.books < max_accounts
    → accepted_over machine.texts.world (opening_book command) today command first_day charged_days
    ≡ (answer, book)
    → account_judged machine today command ≡ New (replies.Accepted answer) (with_book machine account book)
opened_account machine today (kinds.Act own key (actions.OpenAccount c)) account answer book opens named
    absent few first =
    let Named : List ℕ → Type 0 = λ name. book_of machine name ≡ None
    → account_judged machine today (opening own key c)
    ≡ New (replies.Accepted answer) (with_book machine name book) in
    subst Named (sym named) (λ none. opened-account machine today own key c answer book none few first) absent
opened_account machine today command account answer book opens named absent few first =
    absurd (true≢false (sym opens))
