-- What days cost by a cell.
use Rattle.std.proofs.Common.{◌≡◌, ℕ, ◌+◌, ◌-◌, ◌≤◌, arith, sym, ap, ◌∙◌}
use Rattle.kb_money.specs.Proration.{cost}
use Rattle.kb_money.proofs.Shares.{cost-days}
use Rattle.kb_due.specs.declared.cell.Cell.{Cell}
use Rattle.kb_tree.specs.Amounts.{days_cost}

-- days of a cell cost what their offsets cost
pub cost-cell : (cell : Cell) (from to : ℕ) → cell.start ≤ from → from ≤ to
    → cost cell.price (cell.end - cell.start) (from - cell.start) (to - cell.start) ≡ days_cost cell from to
unfolding days_cost
cost-cell cell from to begins order =
    let last : from - cell.start + (to - from) ≡ to - cell.start = omega arith in
    ap (cost cell.price (cell.end - cell.start) (from - cell.start)) (sym last)
    ∙ sym (cost-days cell.price (cell.end - cell.start) cell.start from (to - from) begins)

pub ruleset cell_costs = (cost-cell)
