-- The draws of a seed. A draw takes a state to the next one, and gives a part of that. The first state is the
-- seed.
use Rattle.std.specs.Prelude.{ℕ, zero, suc, ◌+◌, ◌*◌, ◌/◌, ◌%◌, ◌^◌, ◌≡◌, refl}

-- the state that a draw leaves
unfoldable pub next_state : ℕ → ℕ
next_state state = (state * 1103515245 + 12345) % 2 ^ 31

behind_the_seed_1 : next_state 1 ≡ 1103527590
unfolding next_state
behind_the_seed_1 = refl

-- what a draw gives: the state that it leaves, divided by 65536 and rounded down, modulo 32768
unfoldable pub drawn : ℕ → ℕ
drawn state = next_state state / 65536 % 32768

first_draw : drawn 1 ≡ 16838
unfolding drawn next_state
first_draw = refl

-- the state that so many draws leave
unfoldable pub after_draws : ℕ → ℕ → ℕ
after_draws zero state = state
after_draws (suc count) state = after_draws count (next_state state)

second_draw : drawn (after_draws 1 1) ≡ 5758
unfolding drawn next_state after_draws
second_draw = refl

third_draw : drawn (after_draws 2 1) ≡ 10113
unfolding drawn next_state after_draws
third_draw = refl
