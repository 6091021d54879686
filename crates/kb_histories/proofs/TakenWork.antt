-- What an account asks for by itself takes as much work off as it leaves to do.
use Rattle.std.proofs.Common.{◌≡◌, ℕ, ◌+◌, ◌≤◌, Bool, true, false, List, Some, sym, subst, ◌∙◌, true≢false}
use Rattle.kb_days.specs.Calendar.{first_day, charged_days}
use Rattle.kb_codec.specs.declared.command.Command.{Command}
use Rattle.kb_book.specs.Books.{BookValue}
use Rattle.kb_book.specs.Steps.{accepted_over}
use Rattle.kb_machine.specs.Judged.{after_judged, is_new}
use Rattle.kb_machine.specs.Machines.{MachineValue, book_of, judged}
use Rattle.kb_codec.specs.Senders.{is_text, account_of}
use Rattle.kb_histories.proofs.DueNews.{due_commands_are_named, due_commands_are_new}
use Rattle.kb_histories.proofs.JudgedCases.{judged-cases, accepted_on}
use Rattle.kb_histories.specs.OwnWork.{work_left, own_work, all_work}
use Rattle.kb_histories.specs.BilledMachines.{AreBilled}
use Rattle.kb_histories.specs.DueWork.{DueCommandsTakeWork}
use Rattle.kb_histories.proofs.BookWork.{next_due-takes}
use Rattle.kb_histories.proofs.MachineWork.{work-taken}

-- a new command on an account that is there, which takes as much off its book's work as it leaves
taken-after : (machine : MachineValue) (today : ℕ) (named : List ℕ → Bool) (book : BookValue)
    (command : Command) → AreBilled machine → book_of machine (account_of command) ≡ Some book
    → named (account_of command) ≡ true
    → is_text command ≡ false → is_new (judged machine today command) ≡ true
    → own_work machine.texts.world today
    (accepted_over machine.texts.world book today command first_day charged_days).1
    + work_left command
    ≤ own_work machine.texts.world today book
    → all_work named today (after_judged machine (judged machine today command)) + work_left command
    ≤ all_work named today machine
taken-after machine today named book command are there is no_text new less =
    judged-cases machine today
    (λ comes. is_new comes ≡ true
    → all_work named today (after_judged machine comes) + work_left command ≤ all_work named today machine)
    (λ reply again. absurd (true≢false (sym again))) (λ refusal refused. absurd (true≢false (sym refused)))
    command (λ text. absurd (true≢false (sym text ∙ no_text))) (λ name request c opens none. absurd (cc))
    (λ other here none accepted.
    let same : book ≡ other = cc in
    work-taken machine today named (account_of command) other (accepted_on machine today command other).1 are
    here (work_left command) is
    (subst (λ one. own_work machine.texts.world today (accepted_on machine today command one).1
    + work_left command
    ≤ own_work machine.texts.world today one) same less))
    new

pub due_commands_take_work : DueCommandsTakeWork
due_commands_take_work machine today named account book command own keyed are last is there next =
    let same : account_of command ≡ account =
    due_commands_are_named machine today account book command own there next in
    let takes = next_due-takes machine.texts.world book today (are.billed account book there) command
    (keyed.keyed account book there) last next in
    taken-after machine today named book command are (rw same there) (rw same is) takes.no_text
    (due_commands_are_new machine today account book command own there next) takes.less
