-- The numbers that conditions want at least.
use Rattle.std.specs.Prelude.{ℕ, ◌≡◌, ◌^◌, refl}

-- the most days, invoices or minor units that a condition wants
abbrev pub max_threshold : ℕ
max_threshold = 10 ^ 12

as_a_number : max_threshold ≡ 1000000000000
as_a_number = refl
