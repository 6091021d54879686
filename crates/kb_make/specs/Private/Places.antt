-- How far the commands of a seed have come.
use Rattle.std.specs.Prelude.{ℕ, ◌+◌, ◌≡◌, ◌≤◌, List, [], ◌∷◌, ◌++◌}
use Rattle.kb_codec.specs.declared.command.Command.{Command}
use Rattle.kb_make.specs.declared.place.Place.{Place}
use Rattle.kb_make.specs.declared.place.Waiting.{Waiting}
use Rattle.kb_make.specs.declared.place.Waiting.TheVariants.{Nothing, Creation, Bill}
use Rattle.kb_make.specs.Draws.{after_draws}
use Rattle.kb_make.specs.SeedCommands.{creation, bill}
use Rattle.kb_make.specs.Seeds.{Unsent, in_months, of_accounts}

-- what waits to be sent to an account
abbrev pub waiting_of : ℕ → Waiting → List Unsent
waiting_of account Nothing = []
waiting_of account (Creation day) = (day, creation account day) ∷ []
waiting_of account (Bill day) = (day, bill account day) ∷ []

-- what is still to be sent: what waits, the months that are left to the account, and the accounts behind it
abbrev pub unsent : Place → List Unsent
unsent place =
    waiting_of place.account place.waiting
    ++ in_months place.draws place.account place.month place.months_left
    ++ of_accounts (after_draws place.months_left place.draws) (place.account + 1) place.accounts_left
    place.months

-- the counts are those of up to 10,000 accounts and 120 months
pub record IsPlace (place : Place) : Type 0 where
  pub accounts : place.account + place.accounts_left ≤ 10000
  pub months : place.months ≤ 120
  pub month : place.month + place.months_left ≤ 121

-- A command is sent under a key: it was the first of what was still to be sent, and the others are left.
abbrev pub Sends : List Unsent → List ℕ → ℕ × Command → List Unsent → Type 0
Sends old key sent new =
    (command : List ℕ → Command) × (old ≡ (sent.0, command) ∷ new) × (sent.1 ≡ command key)
