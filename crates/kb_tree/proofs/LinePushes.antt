-- One line more of those of new items.
use Rattle.std.proofs.Common.{◌≡◌, ℕ, ◌+◌, ◌<◌, List, [], ◌∷◌, ◌++◌, length, drop, get_or, sym, ap, ◌∙◌}
use Rattle.std.proofs.Common.{Bool, Option, append_assoc}
use Rattle.kb_credit.specs.declared.line.Line.{Line}
use Rattle.kb_credit.proofs.PassSteps.{drop_one}
use Rattle.kb_due.specs.declared.cell.Cell.{Cell}
use Rattle.kb_tree.specs.declared.item.NewItem.{NewItem}
use Rattle.kb_tree.specs.Issues.{line_of, lines_of}

-- the line of an item behind some, and then those of the items that are left
pub lines-pushed : (sub : ℕ) (recurring : Bool) (cells : ℕ → Option Cell) (items : List NewItem)
    (item : NewItem)
    (index : ℕ) (before after : List Line) (line : Line) → index < length items
    → item ≡ get_or items index item
    → after ≡ before ++ line ∷ [] → line ≡ line_of sub recurring cells item
    → after ++ lines_of sub recurring cells (drop (index + 1) items)
    ≡ before ++ lines_of sub recurring cells (drop index items)
lines-pushed sub recurring cells items item index before after line low is pushed made =
    let later = lines_of sub recurring cells (drop (index + 1) items) in
    ap (λ (lines : List Line). lines ++ later) pushed
    ∙ append_assoc before (line ∷ []) later
    ∙ ap (λ (first : Line). before ++ first ∷ later) made
    ∙ ap (λ (rest : List NewItem). before ++ lines_of sub recurring cells rest)
    (sym (drop_one items index item low is))
