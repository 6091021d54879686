-- The months of up to ten years from January 2024 on begin on days that commands may name.
use Rattle.std.proofs.Common.{◌≡◌, ℕ, ◌+◌, ◌≤◌, refl, arith}
use Rattle.kb_days.specs.Calendar.{month_start, month_length, mark}
use Rattle.kb_days.proofs.Months.{month_start-rises, mark-first}

january_2024 : month_start 648 ≡ 19723
unfolding month_start month_length
january_2024 = refl

january_2034 : month_start 768 ≡ 23376
unfolding month_start month_length
january_2034 = refl

pub first_of_month_bounds : (months : ℕ) → months ≤ 120
    → (19723 ≤ mark (648 + months) 1) × (mark (648 + months) 1 ≤ 23376)
first_of_month_bounds months few =
    let low = month_start-rises 648 (648 + months) (omega arith) in
    let high = month_start-rises (648 + months) 768 (omega arith) in (
      omega (arith, low, january_2024, mark-first (648 + months)),
      omega (arith, high, january_2034, mark-first (648 + months)),
    )
