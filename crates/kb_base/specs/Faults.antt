-- Counts of faults. An object of the outside counts its failed calls in a u64, which never falls.
use Rattle.std.specs.Prelude.{ℕ, ◌≡◌, ◌<◌, ◌+◌, ◌-◌, ◌^◌, min, Result, OnErr, refl}

-- the last value of a count, at which it stands still
abbrev pub last_count : ℕ
last_count = 2 ^ 64 - 1

-- a count after one more, which stands still at its last value
abbrev pub next_count : ℕ → ℕ
next_count count = min (count + 1) last_count

third : next_count 2 ≡ 3
third = refl

stands_still : next_count last_count ≡ last_count
stands_still = refl

-- two counts in one, which stands still at its last value
abbrev pub add_counts : ℕ → ℕ → ℕ
add_counts one other = min (one + other) last_count

three_and_four : add_counts 3 4 ≡ 7
three_and_four = refl

no_more_than_the_last : add_counts last_count 4 ≡ last_count
no_more_than_the_last = refl

-- the count rose; one that stands at its last value counts as risen
abbrev pub Rose : ℕ → ℕ → Type 0
Rose old new = new < last_count → old < new

-- a call fails only where the count rose
abbrev pub HasCause : {A E : Type 0} → ℕ → ℕ → Result A E → Type 0
HasCause old new result = OnErr result (Rose old new)
