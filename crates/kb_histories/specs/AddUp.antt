-- The items of each invoice add up to its total and to its credit adjustments, at every moment.
use Rattle.std.specs.Prelude.{ℕ, ◌+◌, ◌≡◌, ◌≤◌, ◌==◌, not, List, [], ◌∷◌, length, map, All, Some, ⊤, ℤ, pos}
use Rattle.std.specs.Prelude.{neg_ℤ, codes, Option, None, refl}
use Rattle.std.specs.List.{filter}
use Rattle.kb_days.specs.Dates.{march}
use Rattle.kb_sharing.specs.Sums.{sum_of}
use Rattle.kb_credit.specs.declared.line.Line.{Line}
use Rattle.kb_credit.specs.declared.line.Line.TheVariants.{Charge, Credit, Cba}
use Rattle.kb_credit.specs.declared.row.Row.{Row}
use Rattle.kb_credit.specs.Items.{amount_of, is_adjustment}
use Rattle.kb_credit.specs.InvoiceRows.{InvoicesValue}
use Rattle.kb_codec.specs.declared.command.Command.{Command}
use Rattle.kb_book.specs.Books.{BookValue}
use Rattle.kb_book.specs.Steps.{step}
use Rattle.kb_codec.specs.Entries.{History}
use Rattle.kb_machine.specs.Judged.{after_judged}
use Rattle.kb_machine.specs.Machines.{MachineValue, book_of, judged}
use Rattle.kb_machine.specs.Histories.{replay}
use Rattle.kb_histories.specs.EvenNow.{credited_late}

-- the lines of the invoice of a number
abbrev pub lines_on : ℕ → List (ℕ × Line) → List Line
lines_on number items = map (λ item. item.1) (filter (λ item. item.0 == number) items)

-- what they amount to without the credit adjustments, and what the credit adjustments amount to
abbrev pub total_on : ℕ → List (ℕ × Line) → ℤ
total_on number items =
    sum_of amount_of (filter (λ line. not (is_adjustment line)) (lines_on number items))

abbrev pub adjusted_on : ℕ → List (ℕ × Line) → ℤ
adjusted_on number items = sum_of amount_of (filter is_adjustment (lines_on number items))

-- 400 are granted, and then 100 of them given to the invoice before
abbrev granted : List (ℕ × Line)
granted =
    (1, Charge (pos 1000)) ∷ (2, Credit (neg_ℤ (pos 400))) ∷ (2, Cba (pos 400))
    ∷ (1, Cba (neg_ℤ (pos 100))) ∷ []

granted_total : total_on 2 granted ≡ neg_ℤ (pos 400)
granted_total = refl

granted_adjusted : adjusted_on 1 granted ≡ neg_ℤ (pos 100)
granted_adjusted = refl

-- the rows that are numbered from one on have the totals and the adjustments of their items
abbrev pub AddUpFrom : List (ℕ × Line) → ℕ → List Row → Type 0
AddUpFrom items number [] = ⊤
AddUpFrom items number (row ∷ rows) =
    (total_on number items ≡ row.total) × (adjusted_on number items ≡ row.adjusted)
    × AddUpFrom items (number + 1) rows

granted_adds_up : AddUpFrom granted 1
    (record { day = march 1; total = pos 1000; adjusted = neg_ℤ (pos 100); paid = pos 900 }
    ∷ record { day = march 3; total = neg_ℤ (pos 400); adjusted = pos 400; paid = pos 0 } ∷ [])
granted_adds_up = (refl, refl, (refl, refl, tt))

-- a number is that of one of so many invoices
abbrev pub IsNumber : ℕ → ℕ → Type 0
IsNumber count number = (1 ≤ number) × (number ≤ count)

-- each invoice's items add up to it, and no item stands beside the invoices
pub record InvoicesAddUp (invoices : InvoicesValue) : Type 0 where
  pub rows : AddUpFrom invoices.items 1 invoices.rows
  pub items : All (λ item. IsNumber (length invoices.rows) item.0) invoices.items

-- so do those of each account
pub record AllAddUp (machine : MachineValue) : Type 0 where
  pub added : (account : List ℕ) (book : BookValue) → book_of machine account ≡ Some book
      → InvoicesAddUp book.invoices

-- they do after each command
abbrev pub InvoicesStayAddedUp : Type 0
InvoicesStayAddedUp = (machine : MachineValue) (today : ℕ) (command : Command) → AllAddUp machine
    → AllAddUp (after_judged machine (judged machine today command))

-- so they do after each history
abbrev pub ReplaysAddUp : Type 0
ReplaysAddUp = (history : History) → AllAddUp (replay history)

-- what a1's invoices amount to once 400 are credited on the second, and what adjusts them
abbrev sums_on : Option BookValue → List ℤ
sums_on None = []
sums_on (Some book) =
    total_on 1 book.invoices.items ∷ total_on 2 book.invoices.items ∷ adjusted_on 2 book.invoices.items ∷ []

four_hundred_on_the_second : sums_on (book_of (replay credited_late) (codes "a1"))
    ≡ pos 1000 ∷ neg_ℤ (pos 400) ∷ pos 400 ∷ []
unfolding replay judged step
four_hundred_on_the_second = refl
