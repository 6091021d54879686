-- The wrong charge of a day is one of its charges.
use Rattle.std.proofs.Common.{◌≡◌, ℕ, Bool, true, false, not, cond, List, [], ◌∷◌, find, Option, Some}
use Rattle.std.proofs.Common.{option_map, All}
use Rattle.std.proofs.lemmas.List.Elements.{All-head, All-tail}
use Rattle.std.proofs.lemmas.Option.{none-some}
use Rattle.kb_due.specs.declared.cell.Cell.{Cell}
use Rattle.kb_tree.specs.Items.{Charge}
use Rattle.kb_tree.specs.Repairs.{is_due, wrong_among}

-- the number of a wrong charge is that of a charge of which holds what holds of each
pub wrong_among-holds : (P : Charge → Type 0) (charges : List Charge) (due : Option Cell) (number : ℕ)
    → All P charges → wrong_among charges due ≡ Some number
    → (charge : Charge) × (charge.number ≡ number) × P charge
wrong_among-holds P [] due number each e = absurd (none-some number e)
wrong_among-holds P (charge ∷ charges) due number each e =
    by_test (not (is_due due charge.cell)) e
    (wrong_among-holds P charges due number (All-tail P charge charges each))
  where
    by_test : (wrong : Bool)
        → option_map (λ (c : Charge). c.number)
        (cond wrong (Some charge) (find (λ (c : Charge). not (is_due due c.cell)) charges))
        ≡ Some number
        → (wrong_among charges due ≡ Some number → (c : Charge) × (c.number ≡ number) × P c)
        → (c : Charge) × (c.number ≡ number) × P c
    by_test true is later = (charge, cc, All-head P charge charges each)
    by_test false is later = later is
