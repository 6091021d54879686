-- Boundaries that are next to each other.
use Rattle.std.proofs.Common.{◌≡◌, ℕ, ◌+◌, ◌-◌, ◌*◌, ◌/◌, ◌%◌, ◌<◌, ◌≤◌, inl, inr, refl, sym, ap, ◌∙◌, arith}
use Rattle.std.proofs.Math.Nat.{mul-le-mul_left, mul-le-mul_right, div-add-mod, mod-add-div', add-mod_right}
use Rattle.std.proofs.Math.Nat.{add-mul-mod_self_left}
use Rattle.std.proofs.lemmas.Bool.{cases_lt}
use Rattle.kb_days.specs.Calendar.{mark}
use Rattle.kb_align.specs.Between.{IsBetween}
use Rattle.kb_align.specs.Boundaries.{IsFirstMonth, IsDayBoundary, IsMonthBoundary}
use Rattle.kb_days.proofs.Marks.{mark-order}
use Rattle.kb_align.proofs.FirstMonths.{IsFirstMonth-only, IsFirstMonth-before}

-- of fewer periods come no more days
times-order : (count k q : ℕ) → k ≤ q → k * count ≤ q * count
times-order count k q h = mul-le-mul_right count h

-- a period more comes so many days later
times-next : (count k q : ℕ) → q < k → q * count + count ≤ k * count
times-next count k q h =
    let next = times-order count (q + 1) k (omega arith) in
    omega (arith, next)

-- the boundaries of periods of days around a day
pub day_boundaries : (count start day from : ℕ) → 0 < count → start ≤ day
    → from ≡ start + (day - start) / count * count
    → IsBetween (IsDayBoundary count start) day from (from + count)
day_boundaries count start day from some begun e = record {
  from_such = (q, e);
  to_such = (q + 1, omega (arith, e));
  begun = omega (arith, parts, e);
  over = omega (arith, parts, rest, e);
  greatest = λ other (k, is) h.
      elim (cases_lt q k) [
        | inl more ↦ let next = times-next count k q more in absurd (omega (arith, next, parts, rest, is))
        | inr no_more ↦ let order = times-order count k q no_more in omega (arith, order, e, is)
      ];
  least = λ other (k, is) h.
      elim (cases_lt q k) [
        | inl more ↦ let next = times-next count k q more in omega (arith, next, e, is)
        | inr no_more ↦ let order = times-order count k q no_more in absurd (omega (arith, order, parts, is))
      ];
}
  where
    q : ℕ
    q = (day - start) / count

    parts : (day - start) % count + q * count ≡ day - start
    parts = mod-add-div' (day - start) count

    rest : (day - start) % count < count
    rest = omega arith

-- of two months with one remainder, one that lies less than a period later lies no later
no_later : (count m n : ℕ) → 0 < count → m % count ≡ n % count → m < n + count → m ≤ n
no_later count m n some e h =
    elim (cases_lt (n / count) (m / count)) [
      | inl more ↦
          let next = mul-le-mul_left count (let suc_le : n / count + 1 ≤ m / count = omega arith in suc_le) in
          absurd (omega (arith, next, div-add-mod m count, div-add-mod n count))
      | inr no_more ↦
          let order = mul-le-mul_left count no_more in
          omega (arith, order, div-add-mod m count, div-add-mod n count)
    ]

-- the boundaries of periods of months around a day
pub month_boundaries : (count start bcd day first month last : ℕ) → 0 < count → IsFirstMonth start bcd first
    → IsFirstMonth (day + 1) bcd (last + 1) → month % count ≡ first % count → month ≤ last
    → last < month + count
    → IsBetween (IsMonthBoundary count start bcd) day (mark month bcd) (mark (month + count) bcd)
month_boundaries count start bcd day first month last some is next whole before near = record {
  from_such = (first, month, is, whole, refl);
  to_such = (first, month + count, is, add-mod_right month count ∙ whole, refl);
  begun = let early = next.earlier month (omega arith) in omega (arith, early);
  over =
      let order = mark-order (last + 1) (month + count) bcd (omega arith) in
      let late = next.reached in
      omega (arith, order, late);
  greatest = λ other (f, m, first_is, aligned, marked) h.
      let known = IsFirstMonth-before (day + 1) bcd (last + 1) m next (omega (arith, marked, h)) in
      let same : m % count ≡ month % count = aligned
      ∙ ap (λ n. n % count) (IsFirstMonth-only start bcd f first first_is is) ∙ sym whole in
      let order = mark-order m month bcd (no_later count m month some same (omega arith)) in
      omega (arith, order, marked);
  least = λ other (f, m, first_is, aligned, marked) h.
      let same : m % count ≡ month % count = aligned
      ∙ ap (λ n. n % count) (IsFirstMonth-only start bcd f first first_is is) ∙ sym whole in
      elim (cases_lt m (month + count)) [
        | inl earlier ↦
            let low = no_later count m month some same earlier in
            let early = next.earlier m (omega arith) in
            absurd (omega (arith, early, marked, h))
        | inr later ↦ let order = mark-order (month + count) m bcd later in omega (arith, order, marked)
      ];
}

-- a month less the remainder of its way from another one lies whole periods from that one
pub whole_periods : (first count last gone : ℕ) → 0 < count → count ≤ last → first ≤ last + count
    → gone ≡ (last + count - first) % count
    → (last - gone) % count ≡ first % count
whole_periods first count last gone some low near e =
    let way : ℕ = last + count - first in
    let rest : gone < count = omega (arith, e) in
    let parts = div-add-mod way count in
    let sum : last - gone + count ≡ first + count * (way / count) = omega (arith, parts, e, rest) in
    sym (add-mod_right (last - gone) count) ∙ ap (λ n. n % count) sum
    ∙ add-mul-mod_self_left first count (way / count)
