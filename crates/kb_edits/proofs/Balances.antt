-- What is left to pay of an invoice, where none has a balance below 0.
use Rattle.std.proofs.Common.{ℕ, zero, suc, List, [], ◌∷◌, slice_get, Some, None, IfSome, option_map}
use Rattle.std.proofs.Common.{ℤ, pos, ◌≤ℤ◌, Option}
use Rattle.std.specs.List.{All}
use Rattle.std.proofs.lemmas.List.Elements.{All-head, All-tail}
use Rattle.kb_credit.specs.declared.row.Row.{Row}
use Rattle.kb_credit.specs.InvoiceRows.{numbered, balance_of}

-- the member at a place has what all have
slice_get-all : {A : Type 0} (P : A → Type 0) (members : List A) (place : ℕ) → All P members
    → IfSome (slice_get members place) P
slice_get-all P [] place all = tt
slice_get-all P (member ∷ later) zero all = All-head P member later all
slice_get-all P (member ∷ later) (suc place) all = slice_get-all P later place (All-tail P member later all)

-- the balance of an invoice isn't below 0
pub numbered_levelled : (rows : List Row) (invoice : ℕ) → All (λ (row : Row). pos 0 ≤ℤ balance_of row) rows
    → IfSome (option_map balance_of (numbered invoice rows)) (λ (balance : ℤ). pos 0 ≤ℤ balance)
numbered_levelled rows zero levelled = tt
numbered_levelled rows (suc place) levelled = by_row (slice_get rows place)
    (slice_get-all (λ (row : Row). pos 0 ≤ℤ balance_of row) rows place levelled)
  where
    by_row : (row : Option Row) → IfSome row (λ (row : Row). pos 0 ≤ℤ balance_of row)
        → IfSome (option_map balance_of row) (λ (balance : ℤ). pos 0 ≤ℤ balance)
    by_row None due = tt
    by_row (Some row) due = due
