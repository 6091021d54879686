-- Nothing is issued for a book that is billed.
use Rattle.std.proofs.Common.{◌≡◌, ℕ, ◌+◌, List, [], ◌∷◌, ◌++◌, length, nat_eq, map, Option}
use Rattle.std.proofs.Common.{refl, ap, ap₂, ◌∙◌}
use Rattle.std.proofs.lemmas.List.{append-nil}
use Rattle.kb_base.specs.Runs.{Stretch}
use Rattle.kb_base.proofs.Windows.{runs-none}
use Rattle.kb_days.specs.Calendar.{first_day, charged_days}
use Rattle.kb_due.specs.declared.cell.Cell.{Cell}
use Rattle.kb_due.specs.CellStretches.{same_cell}
use Rattle.kb_due.specs.Facts.{FactsValue}
use Rattle.kb_due.specs.DueDays.{due_at, fee_at}
use Rattle.kb_tree.specs.declared.item.NewItem.{NewItem}
use Rattle.kb_tree.specs.Items.{Numbered, Charge, charges_on}
use Rattle.kb_tree.specs.Repairs.{wrong_among, missing_among, repair_of, bill_of, new_repairs, new_bills}
use Rattle.kb_tree.specs.Repairs.{new_items, IsSettled}
use Rattle.kb_tree.proofs.OneCharge.{wrong-same, missing-same}
use Rattle.kb_book.specs.Worlds.{WorldValue}
use Rattle.kb_book.specs.Books.{BookValue}
use Rattle.kb_tree.specs.Issues.{SubscriptionItems, Issue, subscription_issue, items_due, then_issue}
use Rattle.kb_tree.specs.Issues.{both_issues, issue_from}
use Rattle.kb_book.specs.Steps.{issue_over}
use Rattle.kb_book.specs.BilledBooks.{IsCharged, AreCharged, IsBilled}

-- no item is new where each day has just the charge that is due
no-new_items : (charges : ℕ → List Charge) (due : ℕ → Option Cell) (day count : ℕ)
    → IsSettled charges due day count → new_items charges due day count ≡ []
unfolding new_repairs new_bills
no-new_items charges due day count settled =
    ap₂ (λ (one other : List NewItem). one ++ other)
    (ap (λ (stretches : List (Stretch ℕ)). map repair_of stretches)
    (runs-none nat_eq (λ d. wrong_among (charges d) (due d)) day count
    (λ d low high. wrong-same (charges d) (due d) (settled d low high))))
    (ap (λ (stretches : List (Stretch Cell)). map bill_of stretches)
    (runs-none same_cell (λ d. missing_among (charges d) (due d)) day count
    (λ d low high. missing-same (charges d) (due d) (settled d low high))))

-- what is charged stays
abbrev pub unchanged : List SubscriptionItems → Issue
unchanged charges = record { lines = []; charges = charges }

-- nothing is issued for a subscription whose days are charged by what is due
none-due : (fee due : ℕ → Option Cell) (number sub : ℕ) (items : SubscriptionItems) → IsCharged fee due items
    → items_due fee due first_day charged_days number sub items ≡ unchanged (items ∷ [])
none-due fee due number sub items charged =
    ap₂ (λ (fees recurring : List NewItem). subscription_issue number sub items fees recurring)
    (no-new_items (charges_on items.fees) fee first_day charged_days charged.fees)
    (no-new_items (charges_on items.recurring) due first_day charged_days charged.recurring)
    ∙ ap₂ (λ (fees recurring : List Numbered). unchanged (record { fees = fees; recurring = recurring } ∷ []))
    (append-nil items.fees) (append-nil items.recurring)

-- nor for others behind it
pub none-issued : (facts : FactsValue) (billed : Option ℕ) (number sub : ℕ) (charges : List SubscriptionItems)
    → AreCharged facts billed sub charges
    → issue_from facts billed first_day charged_days number sub charges ≡ unchanged charges
none-issued facts billed number sub [] charged = refl
none-issued facts billed number sub (items ∷ later) charged =
    ap (λ (one : Issue). then_issue number one
    (λ next. issue_from facts billed first_day charged_days next (sub + 1) later))
    (none-due (fee_at facts sub billed) (due_at facts sub billed) number sub items charged.0)
    ∙ ap (λ (rest : Issue). both_issues (unchanged (items ∷ [])) rest)
    (none-issued facts billed (number + 0) (sub + 1) later charged.1)

pub nothing-due : (world : WorldValue) (book : BookValue) → IsBilled world book
    → issue_over world book first_day charged_days ≡ unchanged book.charges
nothing-due world book billed =
    none-issued _ book.billed (length book.invoices.items + 1) 0 book.charges billed.days
