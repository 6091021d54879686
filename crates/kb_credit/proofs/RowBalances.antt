-- What an adjustment does to a balance, and how much a pass adds or takes.
use Rattle.std.proofs.Common.{◌≡◌, Bool, true, false, cond, ℤ, pos, neg_ℤ, ◌+ℤ◌, ◌-ℤ◌, ◌≤ℤ◌}
use Rattle.std.proofs.Common.{int_lt, refl, ap, ◌∙◌, arith}
use Rattle.std.specs.Int.{int_max}
use Rattle.std.proofs.lemmas.Int.{ints, clamps}
use Rattle.kb_credit.specs.declared.row.Row.{Row}
use Rattle.kb_credit.specs.InvoiceRows.{balance_of}
use Rattle.kb_credit.specs.Levelling.{adjust, made_on, with_made}
use Rattle.kb_credit.specs.Private.Passes.{made, taken}
use Rattle.kb_credit.proofs.Integers.{add_none}

-- the balance moves by the amount
pub balance_of-adjust : (row : Row) (amount : ℤ) → balance_of (adjust row amount) ≡ balance_of row +ℤ amount
balance_of-adjust row amount = omega (arith, ints)

-- an adjustment of nothing
pub adjust_none : (row : Row) → adjust row (pos 0) ≡ row
adjust_none row = ap (λ (adjusted : ℤ). record row { adjusted = adjusted }) (add_none row.adjusted)

-- what is made lifts a balance to 0
pub made-lifts : (balance : ℤ) → balance +ℤ made balance ≡ int_max (pos 0) balance
made-lifts balance = by (int_lt balance (pos 0)) refl
  where
    by : (test : Bool) → int_lt balance (pos 0) ≡ test
        → balance +ℤ cond test (neg_ℤ balance) (pos 0) ≡ cond test (pos 0) balance
    by true below = omega (arith, ints)
    by false above = omega (arith, ints)

pub balance_of-with_made : (row : Row) → balance_of (with_made row) ≡ int_max (pos 0) (balance_of row)
balance_of-with_made row = balance_of-adjust row (made_on row) ∙ made-lifts (balance_of row)

pub int_max_twice : (z : ℤ) → int_max (pos 0) (int_max (pos 0) z) ≡ int_max (pos 0) z
int_max_twice z = omega (arith, ints, clamps)

pub int_max-least : (z : ℤ) → pos 0 ≤ℤ int_max (pos 0) z
int_max-least z = omega (arith, ints, clamps)

-- what is left then
pub left-least : (left balance : ℤ) → pos 0 ≤ℤ (left -ℤ taken left balance)
left-least left balance = omega (arith, ints, clamps)

-- of a balance of 0 nothing is made or taken
pub taken-none : (left : ℤ) → pos 0 ≤ℤ left → taken left (pos 0) ≡ pos 0
taken-none left whole = omega (arith, ints, clamps)
