-- Laws of what days of a period cost.
use Rattle.std.proofs.Common.{◌≡◌, ℕ, zero, suc, ◌+◌, ◌-◌, ◌*◌, ◌/◌, ◌<◌, ◌≤◌, refl, ap, ◌∙◌, arith}
use Rattle.std.proofs.Math.Nat.{div-mul-le_self, mul-le-mul_left}
use Rattle.std.proofs.lemmas.Nat.{le-div, div_below, div-mul-add}
use Rattle.std.proofs.lemmas.List.Sums.{sum_by-cons}
use Rattle.std.specs.List.{sum_by, range_with_len}
use Rattle.kb_money.specs.Proration.{cum, share, cost}

-- a quotient grows with what is divided
quotient-grows : (low high divisor : ℕ) → 0 < divisor → low ≤ high → low / divisor ≤ high / divisor
quotient-grows low high divisor some h =
    le-div (low / divisor) high divisor some (omega (arith, div-mul-le_self low divisor))

-- the running total never falls
pub cum-grows : (price days count more : ℕ) → 0 < days → count ≤ more
    → cum price days count ≤ cum price days more
cum-grows price days count more some h =
    let product : 2 * price * count ≤ 2 * price * more = mul-le-mul_left (2 * price) h in
    quotient-grows (2 * price * count + days) (2 * price * more + days) (2 * days) (omega arith) (omega arith)

-- before the first day nothing is due
pub cum-none : (price days : ℕ) → 0 < days → cum price days 0 ≡ 0
cum-none price days some =
    omega (arith, div_below (2 * price * 0 + days) (2 * days) 1 (omega arith) (omega arith))

-- all days of a period cost its price
pub cum-all : (price days : ℕ) → 0 < days → cum price days days ≡ price
cum-all price days some =
    let product : 2 * price * days ≡ price * (2 * days) = grind arith in
    ap (λ total. (total + days) / (2 * days)) product ∙ div-mul-add price (2 * days) days (omega arith)

-- days of a period never cost more than its price
pub cum-le-price : (price days count : ℕ) → 0 < days → count ≤ days → cum price days count ≤ price
cum-le-price price days count some h =
    omega (arith, cum-grows price days count days some h, cum-all price days some)

-- the shares of neighbouring days add up to what the running total rises over them
sum-shares : (price days from count : ℕ) → 0 < days
    → sum_by (share price days) (range_with_len from count) + cum price days from ≡ cum price days
    (from + count)
sum-shares price days from zero some = grind arith
sum-shares price days from (suc count) some =
    let later = sum-shares price days (from + 1) count some in
    let step = sum_by-cons (share price days) from (range_with_len (from + 1) count) in
    let here = cum-grows price days from (from + 1) some (omega arith) in
    let next : from + suc count ≡ from + 1 + count = omega arith in
    let place = ap (cum price days) next in
    omega arith

-- days cost what the running total rises over them
pub cost-cum : (price days from to : ℕ) → 0 < days → from ≤ to
    → cost price days from to + cum price days from ≡ cum price days to
unfolding cost
cost-cum price days from to some h =
    let end : from + (to - from) ≡ to = omega arith in
    sum-shares price days from (to - from) some ∙ ap (cum price days) end

-- neighbouring parts add up to the whole of them
pub cost-join : (price days from middle to : ℕ) → 0 < days → from ≤ middle → middle ≤ to
    → cost price days from to ≡ cost price days from middle + cost price days middle to
cost-join price days from middle to some first second =
    let all = cost-cum price days from to some (omega arith) in
    let one = cost-cum price days from middle some first in
    let other = cost-cum price days middle to some second in
    omega arith

-- days of a period cost at most its price
pub cost-le-price : (price days from to : ℕ) → 0 < days → from ≤ to → to ≤ days
    → cost price days from to ≤ price
cost-le-price price days from to some order inside =
    omega (arith, cost-cum price days from to some order, cum-le-price price days to some inside)

-- the shares of calendar days are those of their offsets from the day on which the period begins
sum-offsets : (price days start from count : ℕ) → start ≤ from
    → sum_by (λ day. share price days (day - start)) (range_with_len from count)
    ≡ sum_by (share price days) (range_with_len (from - start) count)
sum-offsets price days start from zero h = refl
sum-offsets price days start from (suc count) h =
    let left = sum_by-cons (λ day. share price days (day - start)) from (range_with_len (from + 1) count) in
    let right = sum_by-cons (share price days) (from - start) (range_with_len (from - start + 1) count) in
    let later = sum-offsets price days start (from + 1) count (omega arith) in
    let next : from + 1 - start ≡ from - start + 1 = omega arith in
    let place = ap (λ first. sum_by (share price days) (range_with_len first count)) next in
    omega arith

-- calendar days of a period that begins on a day cost what their offsets from it cost
pub cost-days : (price days start from count : ℕ) → start ≤ from
    → sum_by (λ day. share price days (day - start)) (range_with_len from count)
    ≡ cost price days (from - start) (from - start + count)
unfolding cost
cost-days price days start from count h =
    let length : count ≡ from - start + count - (from - start) = omega arith in
    sum-offsets price days start from count h
    ∙ ap (λ more. sum_by (share price days) (range_with_len (from - start) more)) length

-- how the running total grows, and where
pub ruleset totals = (cum-grows, cum-none, cum-all, cum-le-price)

-- what parts of a period cost
pub ruleset parts = (cost-cum, cost-join, cost-le-price, cum-none, cum-all)
