-- Rows that get each adjustment of a levelling in turn are the levelled rows.
use Rattle.std.proofs.Common.{◌≡◌, ℕ, zero, suc, ◌+◌, ◌-◌, List, [], ◌∷◌, ◌++◌, ℤ, pos, negsuc, neg_ℤ, ◌-ℤ◌}
use Rattle.std.proofs.Common.{◌≤ℤ◌, length, map, refl, ap, ◌∙◌, sym, arith, append_assoc, length-append}
use Rattle.kb_credit.specs.declared.row.Row.{Row}
use Rattle.kb_credit.specs.declared.adjustment.Adjustment.{Adjustment}
use Rattle.kb_credit.specs.InvoiceRows.{balance_of, credit}
use Rattle.kb_credit.specs.Levelling.{adjust, with_made, with_used, levelled_rows}
use Rattle.kb_credit.specs.Private.OpenInvoices.{opened}
use Rattle.kb_credit.specs.Private.Passes.{adjusting, made, taken, with_all_made, all_made, all_used}
use Rattle.kb_credit.specs.Private.Passes.{level_adjustments}
use Rattle.kb_credit.specs.Private.AdjustedRows.{adjust_at, adjusted}
use Rattle.kb_credit.proofs.RowBalances.{adjust_none, left-least}
use Rattle.kb_credit.proofs.LevelledRows.{all_made-opening, all_used-opening, used_on-with_made}
use Rattle.kb_credit.proofs.LevelledRows.{credit-with_made}
use Rattle.kb_credit.proofs.LevelledRows.{credit-with_made-least}

-- the row behind others
adjust_at-behind : (front : List Row) (row : Row) (rows : List Row) (amount : ℤ)
    → adjust_at (length front) amount (front ++ row ∷ rows) ≡ front ++ adjust row amount ∷ rows
adjust_at-behind [] row rows amount = refl
adjust_at-behind (first ∷ front) row rows amount =
    ap (λ later. first ∷ later) (adjust_at-behind front row rows amount)

-- the first of some adjustments, if it isn't 0
adjusted-adjusting : (number : ℕ) (amount : ℤ) (later : List Adjustment) (front : List Row) (row : Row)
    (rows : List Row) → number ≡ length front + 1
    → adjusted (adjusting number amount later) (front ++ row ∷ rows)
    ≡ adjusted later (front ++ adjust row amount ∷ rows)
adjusted-adjusting number (pos zero) later front row rows at =
    ap (λ same. adjusted later (front ++ same ∷ rows)) (sym (adjust_none row))
adjusted-adjusting number (pos (suc n)) later front row rows at =
    ap (λ place. adjusted later (adjust_at place (pos (suc n)) (front ++ row ∷ rows)))
    (let e : number - 1 ≡ length front = omega (arith, at) in e)
    ∙ ap (adjusted later) (adjust_at-behind front row rows (pos (suc n)))
adjusted-adjusting number (negsuc n) later front row rows at =
    ap (λ place. adjusted later (adjust_at place (negsuc n) (front ++ row ∷ rows)))
    (let e : number - 1 ≡ length front = omega (arith, at) in e)
    ∙ ap (adjusted later) (adjust_at-behind front row rows (negsuc n))

-- two parts of adjustments
adjusted-append : (front back : List Adjustment) (rows : List Row)
    → adjusted (front ++ back) rows ≡ adjusted back (adjusted front rows)
adjusted-append [] back rows = refl
adjusted-append (one ∷ front) back rows =
    adjusted-append front back (adjust_at (one.invoice - 1) one.amount rows)

-- the number of the next row
next_number : (number : ℕ) (front : List Row) (row : Row) → number ≡ length front + 1
    → number + 1 ≡ length (front ++ row ∷ []) + 1
next_number number front row at = rw (length-append front (row ∷ [])) (omega (arith, at))

-- the first pass
adjusted-all_made : (number : ℕ) (front rows : List Row) → number ≡ length front + 1
    → adjusted (all_made (opened number rows)) (front ++ rows) ≡ front ++ map with_made rows
adjusted-all_made number front [] at = refl
adjusted-all_made number front (row ∷ rows) at =
    ap (λ all. adjusted all (front ++ row ∷ rows))
    (all_made-opening number row.day (balance_of row) (opened (number + 1) rows))
    ∙ adjusted-adjusting number (made (balance_of row)) (all_made (opened (number + 1) rows)) front row
    rows at
    ∙ ap (adjusted (all_made (opened (number + 1) rows)))
    (sym (append_assoc front (with_made row ∷ []) rows))
    ∙ adjusted-all_made (number + 1) (front ++ with_made row ∷ []) rows
    (next_number number front (with_made row) at)
    ∙ append_assoc front (with_made row ∷ []) (map with_made rows)

-- the second pass
adjusted-all_used : (left : ℤ) (number : ℕ) (front rows : List Row) → pos 0 ≤ℤ left
    → number ≡ length front + 1
    → adjusted (all_used left (opened number rows)) (front ++ map with_made rows)
    ≡ front ++ with_used left (map with_made rows)
adjusted-all_used left number front [] whole at = refl
adjusted-all_used left number front (row ∷ rows) whole at =
    let less = taken left (balance_of row) in
    let changed = adjust (with_made row) (neg_ℤ less) in
    let later = all_used (left -ℤ less) (opened (number + 1) rows) in
    ap (λ all. adjusted all (front ++ with_made row ∷ map with_made rows))
    (all_used-opening left number row.day (balance_of row) (opened (number + 1) rows) whole)
    ∙ adjusted-adjusting number (neg_ℤ less) later front (with_made row) (map with_made rows) at
    ∙ ap (adjusted later) (sym (append_assoc front (changed ∷ []) (map with_made rows)))
    ∙ adjusted-all_used (left -ℤ less) (number + 1) (front ++ changed ∷ []) rows
    (left-least left (balance_of row))
    (next_number number front changed at)
    ∙ append_assoc front (changed ∷ []) (with_used (left -ℤ less) (map with_made rows))
    ∙ ap (λ used. front
    ++ adjust (with_made row) (neg_ℤ used) ∷ with_used (left -ℤ used) (map with_made rows))
    (sym (used_on-with_made left row))

-- both passes
pub adjusted-level : (rows : List Row) → pos 0 ≤ℤ credit rows
    → adjusted (level_adjustments (credit rows) (opened 1 rows)) rows ≡ levelled_rows rows
adjusted-level rows whole =
    let left = with_all_made (credit rows) (opened 1 rows) in
    adjusted-append (all_made (opened 1 rows)) (all_used left (opened 1 rows)) rows
    ∙ ap (adjusted (all_used left (opened 1 rows))) (adjusted-all_made 1 [] rows refl)
    ∙ ap (λ credit. adjusted (all_used credit (opened 1 rows)) (map with_made rows))
    (credit-with_made 1 rows)
    ∙ adjusted-all_used (credit (map with_made rows)) 1 [] rows (credit-with_made-least rows whole) refl
