-- The commands that a seed stands for, each with the day on which it comes.
use Rattle.std.specs.Prelude.{ℕ, zero, suc, ◌+◌, ◌%◌, ◌≡◌, List, [], ◌∷◌, ◌++◌, codes, map, slice_get, refl}
use Rattle.std.specs.Option.{option_to_list}
use Rattle.std.specs.Fmt.{digits}
use Rattle.kb_days.specs.Calendar.{month_start, month_length}
use Rattle.kb_days.specs.Dates.{january, february, march}
use Rattle.kb_codec.specs.declared.command.Command.{Command}
use Rattle.kb_make.specs.Draws.{next_state, drawn, after_draws}
use Rattle.kb_make.specs.NumberedNames.{key_name}
use Rattle.kb_make.specs.MonthDays.{first_of_month, start_day}
use Rattle.kb_make.specs.SeedCommands.{opening, creation, resumption, charge, choices, bill}

-- a command that has no key yet, and its day
abbrev pub Unsent : Type 0
Unsent = ℕ × (List ℕ → Command)

-- commands that come on one day
abbrev pub on : ℕ → List (List ℕ → Command) → List Unsent
on day commands = map (λ command. (day, command)) commands

two_on_one_day : on (february 1) (charge 1 500 ∷ bill 1 (february 1) ∷ [])
    ≡ (february 1, charge 1 500) ∷ (february 1, bill 1 (february 1)) ∷ []
two_on_one_day = refl

-- what an account is sent on the day on which it begins: its two draws give the cycle day and that day
abbrev pub on_start : ℕ → ℕ → ℕ → List Unsent
on_start first second account =
    on (start_day second) (opening account first ∷ creation account (start_day second) ∷ [])

on_19_january : on_start 16838 5758 1
    ≡ (january 19, opening 1 16838) ∷ (january 19, creation 1 (january 19)) ∷ []
unfolding first_of_month month_start month_length
on_19_january = refl

-- what it is sent on the first day of a month: what the month's draw chooses, if anything, and then a bill
abbrev pub on_first : ℕ → ℕ → ℕ → List Unsent
on_first draw account day =
    on day (option_to_list (slice_get (choices account day) (draw % 8)) ++ bill account day ∷ [])

on_1_february : on_first 10113 1 (february 1)
    ≡ (february 1, resumption 1 (january 29)) ∷ (february 1, bill 1 (february 1)) ∷ []
on_1_february = refl

with_no_choice : on_first 4086 1 (february 1) ≡ (february 1, bill 1 (february 1)) ∷ []
with_no_choice = refl

-- what it is sent in so many months from one on, by the state of the draws; each month takes one draw
unfoldable pub in_months : ℕ → ℕ → ℕ → ℕ → List Unsent
in_months state account month zero = []
in_months state account month (suc count) =
    on_first (drawn state) account (first_of_month month)
    ++ in_months (next_state state) account (month + 1) count

in_two_months : in_months (after_draws 2 1) 1 1 2
    ≡ on_first 10113 1 (february 1) ++ on_first 17515 1 (march 1)
unfolding in_months after_draws drawn next_state first_of_month month_start month_length
in_two_months = refl

-- what it is sent in all; it takes two draws, and then its months take theirs
abbrev pub of_account : ℕ → ℕ → ℕ → List Unsent
of_account state account months =
    on_start (drawn state) (drawn (next_state state)) account
    ++ in_months (after_draws 2 state) account 1 months

in_one_month : of_account 1 1 1 ≡ on_start 16838 5758 1 ++ on_first 10113 1 (february 1)
unfolding in_months after_draws drawn next_state first_of_month month_start month_length
in_one_month = refl

-- what so many accounts are sent from one on, each in so many months
unfoldable pub of_accounts : ℕ → ℕ → ℕ → ℕ → List Unsent
of_accounts state account zero months = []
of_accounts state account (suc count) months =
    of_account state account months
    ++ of_accounts (after_draws (2 + months) state) (account + 1) count months

two_accounts : of_accounts 1 1 2 0 ≡ on_start 16838 5758 1 ++ on_start 10113 17515 2
unfolding of_accounts in_months after_draws drawn next_state first_of_month month_start month_length
two_accounts = refl

-- commands with their keys, which are numbered from one on
abbrev pub with_keys : ℕ → List Unsent → List (ℕ × Command)
with_keys number [] = []
with_keys number ((day, command) ∷ later) = (day, command (key_name number)) ∷ with_keys (number + 1) later

the_9th_and_10th : with_keys 9 (on (february 1) (charge 1 500 ∷ bill 1 (february 1) ∷ []))
    ≡ (february 1, charge 1 500 (codes "k9")) ∷ (february 1, bill 1 (february 1) (codes "k10")) ∷ []
unfolding digits
the_9th_and_10th = refl

-- the commands of a seed, for so many accounts and months
abbrev pub commands_of : ℕ → ℕ → ℕ → List (ℕ × Command)
commands_of seed accounts months = with_keys 1 (of_accounts seed 1 accounts months)

-- The seed 1 draws 16838, 5758 and 10113. So the account has the cycle day 10 + 1 and begins 18 days after
-- 2024-01-01, and the month chooses number 1, to resume. SeedCommands has each of these commands in full.
one_account_and_month : commands_of 1 1 1
    ≡ (january 19, opening 1 16838 (codes "k1"))
    ∷ (january 19, creation 1 (january 19) (codes "k2"))
    ∷ (february 1, resumption 1 (january 29) (codes "k3"))
    ∷ (february 1, bill 1 (february 1) (codes "k4"))
    ∷ []
unfolding of_accounts in_months after_draws drawn next_state first_of_month month_start month_length digits
one_account_and_month = refl
