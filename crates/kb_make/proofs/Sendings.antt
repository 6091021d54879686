-- What is sent first of what is still to be sent, and what is left then.
use Rattle.std.proofs.Common.{◌≡◌, ℕ, zero, suc, ◌+◌, ◌-◌, ◌<◌, ◌%◌, List, [], ◌∷◌, ◌++◌, refl, arith}
use Rattle.std.proofs.Common.{append_assoc, Option, Some, None, option_map, slice_get}
use Rattle.std.specs.Option.{option_to_list}
use Rattle.kb_codec.specs.declared.command.Command.{Command}
use Rattle.kb_make.specs.declared.place.Place.{Place}
use Rattle.kb_make.specs.declared.place.Waiting.TheVariants.{Nothing, Creation, Bill}
use Rattle.kb_make.specs.Draws.{next_state, drawn, after_draws}
use Rattle.kb_make.specs.MonthDays.{first_of_month, start_day}
use Rattle.kb_make.specs.SeedCommands.{opening, choices, bill}
use Rattle.kb_make.specs.Seeds.{Unsent, on, on_first, in_months, of_account, of_accounts}
use Rattle.kb_make.specs.Private.Places.{unsent, Sends}

-- no draw leaves the state as it is
after_draws-none : (state : ℕ) → after_draws 0 state ≡ state
unfolding after_draws
after_draws-none state = refl

-- one of some draws
after_draws-some : (state left : ℕ) → 0 < left
    → after_draws left state ≡ after_draws (left - 1) (next_state state)
unfolding after_draws
after_draws-some state zero some = absurd (omega arith)
after_draws-some state (suc left) some = let less : suc left - 1 ≡ left = omega arith in rw less refl

-- two draws
after_draws-two : (state : ℕ) → after_draws 2 state ≡ next_state (next_state state)
unfolding after_draws
after_draws-two state = refl

-- two draws, and then more
after_draws-more : (state count : ℕ)
    → after_draws (2 + count) state ≡ after_draws count (next_state (next_state state))
unfolding after_draws
after_draws-more state count = let two : 2 + count ≡ suc (suc count) = omega arith in rw two refl

-- no month
in_months-none : (state account month : ℕ) → in_months state account month 0 ≡ []
unfolding in_months
in_months-none state account month = refl

-- one of some months
in_months-some : (state account month left : ℕ) → 0 < left → in_months state account month left
    ≡ on_first (drawn state) account (first_of_month month)
    ++ in_months (next_state state) account (month + 1) (left - 1)
unfolding in_months
in_months-some state account month zero some = absurd (omega arith)
in_months-some state account month (suc left) some =
    let less : suc left - 1 ≡ left = omega arith in rw less refl

-- no account
of_accounts-none : (state account months : ℕ) → of_accounts state account 0 months ≡ []
unfolding of_accounts
of_accounts-none state account months = refl

-- one of some accounts
of_accounts-some : (state account left months : ℕ) → 0 < left → of_accounts state account left months
    ≡ of_account state account months
    ++ of_accounts (after_draws (2 + months) state) (account + 1) (left - 1) months
unfolding of_accounts
of_accounts-some state account zero months some = absurd (omega arith)
of_accounts-some state account (suc left) months some =
    let less : suc left - 1 ≡ left = omega arith in rw less refl

-- if nothing is chosen, a month brings the bill alone
on-none : (day : ℕ) (chosen : Option (List ℕ → Command)) (last : List ℕ → Command) (key : List ℕ)
    → None ≡ option_map (λ (command : List ℕ → Command). command key) chosen
    → on day (option_to_list chosen ++ last ∷ []) ≡ (day, last) ∷ []
on-none day None last key is = refl
on-none day (Some command) last key is = cc

-- and else what is chosen, and then the bill
on-some : (day : ℕ) (chosen : Option (List ℕ → Command)) (last : List ℕ → Command) (key : List ℕ)
    (sent : Command) → Some sent ≡ option_map (λ (command : List ℕ → Command). command key) chosen
    → (command : List ℕ → Command)
    × (on day (option_to_list chosen ++ last ∷ []) ≡ (day, command) ∷ (day, last) ∷ [])
    × (sent ≡ command key)
on-some day None last key sent is = cc
on-some day (Some command) last key sent is = (command, refl, cc)

module _ (place : Place) (nothing : place.waiting ≡ Nothing) where
  -- the months and accounts that are left behind the next month
  abbrev behind_month : List Unsent
  behind_month =
      in_months (next_state place.draws) place.account (place.month + 1) (place.months_left - 1)
      ++ of_accounts (after_draws (place.months_left - 1) (next_state place.draws)) (place.account + 1)
      place.accounts_left place.months

  -- the next month comes first
  unsent-month : 0 < place.months_left → unsent place
      ≡ on_first (drawn place.draws) place.account (first_of_month place.month) ++ behind_month
  unsent-month some =
      rw (
        nothing,
        in_months-some place.draws place.account place.month place.months_left some,
        after_draws-some place.draws place.months_left some,
        append_assoc,
      )

  -- nothing is chosen in the next month: its bill is sent
  pub sends_bill : (draws day : ℕ) (key : List ℕ) → 0 < place.months_left → draws ≡ next_state place.draws
      → day ≡ first_of_month place.month
      → None ≡ option_map (λ (command : List ℕ → Command). command key)
      (slice_get (choices place.account day) (drawn place.draws % 8))
      → Sends (unsent place) key (day, bill place.account day key) (unsent
      (record place { draws = draws; month = place.month + 1; months_left = place.months_left - 1 }))
  sends_bill draws day key some drew date none =
      let alone = on-none day (slice_get (choices place.account day) (drawn place.draws % 8))
      (bill place.account day) key none in
      (bill place.account day, rw (unsent-month some, ← date, alone, nothing, drew), refl)

  -- a command is chosen: it is sent, and the bill waits
  pub sends_choice : (draws day : ℕ) (key : List ℕ) (sent : Command) → 0 < place.months_left
      → draws ≡ next_state place.draws → day ≡ first_of_month place.month
      → Some sent ≡ option_map (λ (command : List ℕ → Command). command key)
      (slice_get (choices place.account day) (drawn place.draws % 8))
      → Sends (unsent place) key (day, sent) (unsent (record place {
        draws = draws;
        waiting = Bill day;
        month = place.month + 1;
        months_left = place.months_left - 1;
      }))
  sends_choice draws day key sent some drew date is =
      let found = on-some day (slice_get (choices place.account day) (drawn place.draws % 8))
      (bill place.account day) key sent is in
      (found.0, rw (unsent-month some, ← date, found.1, drew), found.2)

  -- no month is left: the next account is opened
  pub sends_opening : (draws start : ℕ) (key : List ℕ) → place.months_left ≡ 0 → 0 < place.accounts_left
      → draws ≡ next_state (next_state place.draws) → start ≡ start_day (drawn (next_state place.draws))
      → Sends (unsent place) key (start, opening (place.account + 1) (drawn place.draws) key)
      (unsent (record place {
        draws = draws;
        account = place.account + 1;
        waiting = Creation start;
        month = 1;
        months_left = place.months;
        accounts_left = place.accounts_left - 1;
      }))
  sends_opening draws start key over some drew date = (
    opening (place.account + 1) (drawn place.draws),
    rw (
      nothing,
      over,
      in_months-none place.draws place.account place.month,
      after_draws-none place.draws,
      of_accounts-some place.draws (place.account + 1) place.accounts_left place.months some,
      after_draws-more place.draws place.months,
      after_draws-two place.draws,
      ← date,
      ← drew,
      append_assoc,
    ),
    refl,
  )

  -- no account is left either
  pub unsent-over : place.months_left ≡ 0 → place.accounts_left ≡ 0 → unsent place ≡ []
  unsent-over over last =
      rw (
        nothing,
        over,
        last,
        in_months-none place.draws place.account place.month,
        of_accounts-none (after_draws 0 place.draws) (place.account + 1) place.months,
      )
