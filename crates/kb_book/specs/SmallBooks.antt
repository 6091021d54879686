-- An account with one subscription, command by command, over some weeks.
use Rattle.std.specs.Prelude.{ℕ, ◌≡◌, [], ◌∷◌, codes, Option, Some, None, Result, Ok, Err, pos, neg_ℤ, true}
use Rattle.std.specs.Prelude.{false, Bool, refl}
use Rattle.kb_base.specs.Runs.{runs}
use Rattle.kb_days.specs.Calendar.{month_of, month_after, month_start, month_length}
use Rattle.kb_days.specs.Dates.{march}
use Rattle.kb_days.specs.declared.period.Period.TheVariants.{Monthly}
use Rattle.kb_catalog.specs.SmallVersion.{small}
use Rattle.kb_align.specs.Phases.{phase_on, phase_starts}
use Rattle.kb_align.specs.PeriodDays.{period_on, last_day_on, next_day_after, is_boundary, first_month}
use Rattle.kb_blocking.specs.Blocking.{is_on}
use Rattle.kb_due.specs.Cells.{cell_on}
use Rattle.kb_due.specs.DueDays.{due_on, fee_on}
use Rattle.kb_payment.specs.declared.attempt.Status.TheVariants.{Success}
use Rattle.kb_tree.specs.Repairs.{new_repairs, new_bills}
use Rattle.kb_tree.specs.Amounts.{days_cost}
use Rattle.kb_codec.specs.Members.{name_bytes, period_bytes, optional_bytes, day_bytes, four_bytes}
use Rattle.kb_codec.specs.declared.command.Command.{Command}
use Rattle.kb_codec.specs.declared.command.Command.TheVariants as kinds
use Rattle.kb_codec.specs.declared.action.Action.TheVariants as actions
use Rattle.kb_book.specs.declared.answer.Answer.{Answer}
use Rattle.kb_book.specs.declared.refusal.Refusal.{Refusal}
use Rattle.kb_book.specs.declared.refusal.Refusal.TheVariants.{KeyReused}
use Rattle.kb_book.specs.Worlds.{WorldValue}
use Rattle.kb_book.specs.Books.{BookValue, new_book}
use Rattle.kb_book.specs.Rows.{first_refusal}
use Rattle.kb_book.specs.Commands.{own_rows}
use Rattle.kb_book.specs.Steps.{Outcome, accepted_over, step_over}
use Rattle.kb_book.specs.Inner.{invoice_due, is_transition_due}
use Rattle.kb_overdue.specs.OverdueDays.{state_on, is_reached_at}

-- the small version alone, and no overdue state
abbrev world : WorldValue
world = record { versions = small ∷ []; states = [] }

-- what an accepted command of a day makes of a book, where nothing is due before March or after 3 April
abbrev accepted : BookValue → ℕ → Command → Outcome
accepted book today command = accepted_over world book today command (march 1) 34

-- the account a1 in USD, with the cycle day 1
abbrev open_a1 : Command
open_a1 = kinds.Act (codes "a1") (codes "k1") (actions.OpenAccount (record {
  currency = codes "USD";
  bcd = 1;
  autopay = false;
}))

abbrev opened : BookValue
opened = (accepted (new_book (codes "a1") (codes "USD") 1 false) (march 1) open_a1).1

-- a subscription of Gold at 1000 a month starts on a day
abbrev start_on : ℕ → Command
start_on day = kinds.Act (codes "a1") (codes "k2") (actions.Create (record {
  bundle = codes "b1";
  subscription = codes "s1";
  product = codes "Gold";
  period = Monthly;
  list = codes "DEFAULT";
  day = Some day;
}))

not_refused : first_refusal (own_rows world opened (march 10) (start_on (march 10))) ≡ None
unfolding is_on
not_refused = refl

-- 22 days of March are billed on invoice 1
first_answer : (accepted opened (march 10) (start_on (march 10))).0
    ≡ record { command = 2; invoice = Some 1; total = pos 710; credit = pos 0; unpaid = pos 710 }
unfolding new_repairs new_bills days_cost runs due_on fee_on cell_on is_on phase_on phase_starts period_on
    last_day_on next_day_after is_boundary first_month month_of month_after month_start month_length
first_answer = refl

-- with all of March billed and paid
abbrev started : BookValue
started = (accepted opened (march 1) (start_on (march 1))).1

abbrev paying : BookValue
paying = (accepted started (march 1) (kinds.Act (codes "a1") (codes "k3") (actions.Pay (record {
  payment = codes "p1";
  invoice = 1;
  amount = None;
})))).1

abbrev paid : BookValue
paid = (accepted paying (march 1) (kinds.Settle (record {
  account = codes "a1";
  payment = codes "p1";
  status = Success;
}))).1

abbrev cancel_on : ℕ → Command
cancel_on day = kinds.Act (codes "a1") (codes "k4") (actions.Cancel (record {
  subscription = codes "s1";
  day = Some day;
}))

-- it is cancelled on the 25th from the 20th on: the days that were paid are given back as credit
cancelled_answer : (accepted paid (march 25) (cancel_on (march 20))).0
    ≡ record { command = 5; invoice = Some 2; total = neg_ℤ (pos 387); credit = pos 387; unpaid = pos 0 }
unfolding new_repairs new_bills days_cost runs due_on fee_on cell_on is_on phase_on phase_starts period_on
    last_day_on next_day_after is_boundary first_month month_of month_after month_start month_length
cancelled_answer = refl

-- the answer to what is not refused
abbrev told : Result Outcome Refusal → Option Answer
told (Ok outcome) = Some outcome.0
told (Err refused) = None

-- the same command again gives the answer that it had, and another one of its key is refused
repeated : told (step_over world started (march 9) (start_on (march 1)) (march 1) 34)
    ≡ Some (record { command = 2; invoice = Some 1; total = pos 1000; credit = pos 0; unpaid = pos 1000 })
unfolding new_repairs new_bills days_cost runs due_on fee_on cell_on is_on phase_on phase_starts period_on
    last_day_on next_day_after is_boundary first_month month_of month_after month_start month_length
    name_bytes period_bytes optional_bytes day_bytes four_bytes
repeated = refl

other_day : step_over world started (march 9) (start_on (march 2)) (march 1) 34 ≡ Err KeyReused
unfolding new_repairs new_bills days_cost runs due_on fee_on cell_on is_on phase_on phase_starts period_on
    last_day_on next_day_after is_boundary first_month month_of month_after month_start month_length
    name_bytes period_bytes optional_bytes day_bytes four_bytes
other_day = refl

-- the account as it is opened, with automatic payment
abbrev automatic : BookValue
automatic = record started { autopay = true }

-- the invoice of a book whose automatic payment is due
abbrev payment_due : BookValue → ℕ → Option ℕ
payment_due book today = invoice_due book.autopay book.payments book.invoices today

-- the invoice that is unpaid is paid automatically, and not before it is issued
due_in_march : payment_due automatic (march 1) ≡ Some 1
unfolding new_repairs new_bills days_cost runs due_on fee_on cell_on is_on phase_on phase_starts period_on
    last_day_on next_day_after is_boundary first_month month_of month_after month_start month_length
due_in_march = refl

nothing_due_at_first : payment_due (record opened { autopay = true }) (march 1) ≡ None
nothing_due_at_first = refl

-- while a purchase of it is open nothing is due, and once it is paid either
nothing_due_while_open : payment_due (record paying { autopay = true }) (march 2) ≡ None
unfolding new_repairs new_bills days_cost runs due_on fee_on cell_on is_on phase_on phase_starts period_on
    last_day_on next_day_after is_boundary first_month month_of month_after month_start month_length
nothing_due_while_open = refl

-- a week after the invoice a state that blocks is reached, if the shop has one
abbrev strict : WorldValue
strict = record world {
  states = record {
    name = codes "WARNING";
    days = Some 7;
    count = None;
    total = None;
    block_change = true;
    block_entitlement = false;
    block_billing = false;
  } ∷ [];
}

-- a transition of a book is due
abbrev transition_due : WorldValue → BookValue → ℕ → Bool
transition_due world book today =
    is_transition_due world.states book.invoices book.transition book.overdue today

due_on_the_8th : transition_due strict started (march 8) ≡ true
unfolding new_repairs new_bills days_cost runs due_on fee_on cell_on is_on phase_on phase_starts period_on
    last_day_on next_day_after is_boundary first_month month_of month_after month_start month_length
    state_on is_reached_at
due_on_the_8th = refl

not_on_the_7th : transition_due strict started (march 7) ≡ false
unfolding new_repairs new_bills days_cost runs due_on fee_on cell_on is_on phase_on phase_starts period_on
    last_day_on next_day_after is_boundary first_month month_of month_after month_start month_length
    state_on is_reached_at
not_on_the_7th = refl
