-- How many commands a seed stands for at most.
use Rattle.std.proofs.Common.{◌≡◌, ℕ, zero, suc, ◌+◌, ◌*◌, ◌≤◌, ◌%◌, List, [], ◌∷◌, ◌++◌, length, refl, arith}
use Rattle.std.proofs.Common.{length-append, ap, Option, Some, None, slice_get}
use Rattle.std.specs.Option.{option_to_list}
use Rattle.kb_codec.specs.declared.command.Command.{Command}
use Rattle.kb_make.specs.Draws.{next_state, drawn, after_draws}
use Rattle.kb_make.specs.MonthDays.{first_of_month}
use Rattle.kb_make.specs.SeedCommands.{choices, bill}
use Rattle.kb_make.specs.Seeds.{Unsent, on, on_first, in_months, of_account, of_accounts, with_keys}

-- a month brings a bill, and at most one command before it
few-chosen : (day : ℕ) (chosen : Option (List ℕ → Command)) (last : List ℕ → Command)
    → length (on day (option_to_list chosen ++ last ∷ [])) ≤ 2
few-chosen day None last = omega arith
few-chosen day (Some command) last = omega arith

few-on_first : (draw account day : ℕ) → length (on_first draw account day) ≤ 2
few-on_first draw account day = few-chosen day (slice_get (choices account day) (draw % 8)) (bill account day)

-- so months bring two commands each at most
few-in_months : (state account month count : ℕ) → length (in_months state account month count) ≤ 2 * count
unfolding in_months
few-in_months state account month zero = omega arith
few-in_months state account month (suc count) =
    omega (
      arith,
      length-append (on_first (drawn state) account (first_of_month month))
          (in_months (next_state state) account (month + 1) count),
      few-on_first (drawn state) account (first_of_month month),
      few-in_months (next_state state) account (month + 1) count,
    )

-- and an account of up to 120 months has 242 at most
pub few_of_accounts : (state account count months : ℕ) → months ≤ 120
    → length (of_accounts state account count months) ≤ 242 * count
unfolding of_accounts
few_of_accounts state account zero months few = omega arith
few_of_accounts state account (suc count) months few =
    omega (
      arith,
      length-append (of_account state account months)
          (of_accounts (after_draws (2 + months) state) (account + 1) count months),
      few-in_months (after_draws 2 state) account 1 months,
      few_of_accounts (after_draws (2 + months) state) (account + 1) count months few,
    )

-- keys leave the number of commands as it is
length-with_keys : (number : ℕ) (unsent : List Unsent) → length (with_keys number unsent) ≡ length unsent
length-with_keys number [] = refl
length-with_keys number ((day, command) ∷ later) = omega (arith, length-with_keys (number + 1) later)

-- so a seed stands for 242 commands for each account at most
pub few_commands : (seed accounts months : ℕ) (unsent : List Unsent)
    → unsent ≡ of_accounts seed 1 accounts months → months ≤ 120
    → length (with_keys 1 unsent) ≤ 242 * accounts
few_commands seed accounts months unsent is few =
    omega (arith, length-with_keys 1 unsent, ap length is, few_of_accounts seed 1 accounts months few)
