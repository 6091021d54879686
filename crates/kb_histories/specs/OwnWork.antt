-- The work that commands leave to do, and that which books may yet ask for by themselves on a day. It counts
-- in steps: a look at an account is one, and asking the gateway for a payment is two, since the settlement
-- leaves a look.
use Rattle.std.specs.Prelude.{ℕ, ◌+◌, ◌*◌, ◌≡◌, Bool, true, false, not, List, [], ◌∷◌, length, sum_by}
use Rattle.std.specs.Prelude.{count_by, Option, if◌then◌else◌, refl, codes}
use Rattle.std.specs.List.{range_with_len}
use Rattle.kb_days.specs.Calendar.{first_day, charged_days}
use Rattle.kb_days.specs.Dates.{march}
use Rattle.kb_credit.specs.declared.line.Line.{Line}
use Rattle.kb_payment.specs.PaymentSums.{PaymentsValue, has_automatic_since}
use Rattle.kb_codec.specs.declared.command.Command.{Command}
use Rattle.kb_codec.specs.declared.command.Command.TheVariants as kinds
use Rattle.kb_codec.specs.declared.action.Action.TheVariants as actions
use Rattle.kb_book.specs.Worlds.{WorldValue}
use Rattle.kb_book.specs.Books.{BookValue}
use Rattle.kb_book.specs.Inner.{is_after}
use Rattle.kb_book.specs.Steps.{issue_over, step}
use Rattle.kb_machine.specs.Machines.{MachineValue, judged}
use Rattle.kb_machine.specs.Histories.{entry_after}
use Rattle.kb_histories.specs.SmallMachines.{owing_book, machine_with}

-- what a command leaves to do: a look at its account, and before it a payment to ask for, if it begins one
abbrev pub work_left : Command → ℕ
work_left (kinds.Catalog c) = 0
work_left (kinds.OverdueRules c) = 0
work_left (kinds.Act account key (actions.Pay c)) = 3
work_left (kinds.Act account key (actions.Refund c)) = 3
work_left (kinds.Auto c) = 3
work_left command = 1

-- a transition, if one may yet come: it leaves a look, and may issue an invoice
abbrev pub transition_work : Option ℕ → ℕ → ℕ
transition_work transition today = if is_after transition today then 4 else 0

-- how many invoices, which are numbered from one on, have no automatic attempt of a day or later
abbrev pub unattempted : PaymentsValue → ℕ → ℕ → ℕ
unattempted payments day count =
    count_by (λ invoice. not (has_automatic_since payments invoice day)) (range_with_len 1 count)

-- some lines make one invoice, and no line makes none
abbrev pub invoices_of : List Line → ℕ
invoices_of [] = 0
invoices_of (line ∷ later) = 1

-- the invoice that a book's next command issues, if the command itself changes nothing that is due
abbrev pub invoices_due : WorldValue → BookValue → ℕ
invoices_due world book = invoices_of (issue_over world book first_day charged_days).lines

-- The work that a book may yet ask for by itself on a day: a transition, and an automatic payment of each
-- invoice that has none of this day, also of the one that is yet to be issued.
abbrev pub own_work : WorldValue → ℕ → BookValue → ℕ
own_work world today book =
    transition_work book.transition today
    + 3 * (unattempted book.payments today (length book.invoices.rows) + invoices_due world book)

-- the same of an account, if its name passes a test
abbrev pub named_work : (List ℕ → Bool) → WorldValue → ℕ → List ℕ × BookValue → ℕ
named_work named world today entry = if named entry.0 then own_work world today entry.1 else 0

-- and of all accounts
abbrev pub all_work : (List ℕ → Bool) → ℕ → MachineValue → ℕ
all_work named today machine = sum_by (named_work named machine.texts.world today) machine.books

-- the account a1, which owes an invoice and has it paid automatically
abbrev automatic : MachineValue
automatic = machine_with (owing_book true)

abbrev pay_itself : Command
pay_itself = kinds.Auto (record { account = codes "a1"; invoice = 1 })

-- a transition and a payment may come; once the payment is asked for, a transition
at_first : all_work (λ account. true) (march 2) automatic ≡ 7
at_first = refl

once_it_is_asked_for : all_work (λ account. true) (march 2) (entry_after automatic (march 2, pay_itself)) ≡ 4
unfolding judged step
once_it_is_asked_for = refl

what_that_leaves : work_left pay_itself ≡ 3
what_that_leaves = refl

-- on the next day the payment may come again
a_day_later : all_work (λ account. true) (march 3) (entry_after automatic (march 2, pay_itself)) ≡ 7
unfolding judged step
a_day_later = refl

of_no_account : all_work (λ account. false) (march 2) automatic ≡ 0
of_no_account = refl
