-- What days of a period cost. The days of a period are numbered from 0; prices are in minor units.
use Rattle.std.specs.Prelude.{ℕ, ◌+◌, ◌-◌, ◌*◌, ◌/◌, ◌≡◌, sum_by, refl}
use Rattle.std.specs.List.{range_with_len}

-- the running total: what the first days of a period cost, rounded half up
abbrev pub cum : ℕ → ℕ → ℕ → ℕ
cum price days count = (2 * price * count + days) / (2 * days)

nine_days : cum 3100 31 9 ≡ 900
nine_days = refl

-- what one day costs: by how much the running total rises on it
abbrev pub share : ℕ → ℕ → ℕ → ℕ
share price days day = cum price days (day + 1) - cum price days day

-- what the days from one up to, but not including, another cost: the sum of their shares
unfoldable pub cost : ℕ → ℕ → ℕ → ℕ → ℕ
cost price days from to = sum_by (share price days) (range_with_len from (to - from))

five_days : cost 15 30 3 8 ≡ 2
unfolding cost
five_days = refl

rest_of_march : cost 1000 31 19 31 ≡ 387
unfolding cost
rest_of_march = refl
