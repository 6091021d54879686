-- Lines of items.
use Rattle.std.specs.Prelude.{◌≡◌, ◌≤◌, ◌^◌, false, nat_abs}
use Rattle.kb_credit.specs.declared.line.Line.{Line}
use Rattle.kb_credit.specs.Items.{amount_of, is_adjustment}

-- a line is no credit adjustment, and its amount is at most the greatest price
abbrev pub IsItemLine : Line → Type 0
IsItemLine line = (is_adjustment line ≡ false) × (nat_abs (amount_of line) ≤ 10 ^ 9)
