-- The items of invoices.
use Rattle.std.specs.Prelude.{◌≡◌, ℤ, pos, neg_ℤ, Bool, true, false, refl}
use Rattle.kb_credit.specs.declared.line.Line.{Line}
use Rattle.kb_credit.specs.declared.line.Line.TheVariants.{Bill, Repair, Charge, Credit, Cba}

-- the amount of an item
abbrev pub amount_of : Line → ℤ
amount_of (Bill subscription recurring from to amount) = amount
amount_of (Repair subscription of from to amount) = amount
amount_of (Charge amount) = amount
amount_of (Credit amount) = amount
amount_of (Cba amount) = amount

-- it is a credit adjustment
abbrev pub is_adjustment : Line → Bool
is_adjustment (Bill subscription recurring from to amount) = false
is_adjustment (Repair subscription of from to amount) = false
is_adjustment (Charge amount) = false
is_adjustment (Credit amount) = false
is_adjustment (Cba amount) = true

-- a charge, and credit that is used
charged_400 : amount_of (Charge (pos 400)) ≡ pos 400
charged_400 = refl

used_is_an_adjustment : is_adjustment (Cba (neg_ℤ (pos 387))) ≡ true
used_is_an_adjustment = refl
