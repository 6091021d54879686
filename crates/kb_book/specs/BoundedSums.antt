-- Sums that fit.
use Rattle.std.specs.Prelude.{◌^◌, ℤ, pos, neg_ℤ, ◌≤ℤ◌}

-- a sum lies from -2^103 to 2^103
abbrev pub IsBounded : ℤ → Type 0
IsBounded sum = (neg_ℤ (pos (2 ^ 103)) ≤ℤ sum) × (sum ≤ℤ pos (2 ^ 103))
