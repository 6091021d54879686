-- What invoices show of subscriptions is what their days are charged by.
use Rattle.std.specs.Prelude.{ℕ, ◌+◌, ◌≡◌, ◌≤◌, ◌==◌, ◌⊎◌, Bool, true, false, List, [], ◌∷◌, All, Option}
use Rattle.std.specs.Prelude.{Some, IsSome, slice_get, option_map, unwrap_or, ⊤, pos, neg_ℤ, refl}
use Rattle.std.specs.List.{list_any}
use Rattle.kb_days.specs.Dates.{march, april}
use Rattle.kb_credit.specs.declared.line.Line.{Line}
use Rattle.kb_credit.specs.declared.line.Line.TheVariants as lines
use Rattle.kb_credit.specs.InvoiceRows.{numbered}
use Rattle.kb_tree.specs.declared.item.NewItem.{NewItem}
use Rattle.kb_tree.specs.declared.item.NewItem.TheVariants.{Bill, Repair}
use Rattle.kb_tree.specs.Items.{Numbered, cell_at, march_bill}
use Rattle.kb_tree.specs.Amounts.{days_cost}
use Rattle.kb_tree.specs.Issues.{SubscriptionItems, no_items, line_of}
use Rattle.kb_codec.specs.declared.command.Command.{Command}
use Rattle.kb_book.specs.Books.{BookValue}
use Rattle.kb_codec.specs.Entries.{History}
use Rattle.kb_machine.specs.Judged.{after_judged}
use Rattle.kb_machine.specs.Machines.{MachineValue, book_of, judged}
use Rattle.kb_machine.specs.Histories.{replay}
use Rattle.kb_histories.specs.BilledMachines.{AreBilled}

-- the line of the item of a number among those of all invoices
abbrev pub line_at : List (ℕ × Line) → ℕ → Option Line
line_at invoiced number = option_map (λ (item : ℕ × Line). item.1) (numbered number invoiced)

-- An item of a cover of the subscription at a place is shown: the line of its number is its own, with what it
-- amounts to by the cells of the cover's items.
abbrev pub IsShown : List (ℕ × Line) → ℕ → Bool → List Numbered → Numbered → Type 0
IsShown invoiced sub recurring items item =
    line_at invoiced item.0 ≡ Some (line_of sub recurring (cell_at items) item.1)

-- March from the 10th on, as the third item, and once it is cancelled on the 20th
abbrev march_lines : List (ℕ × Line)
march_lines =
    (1, lines.Charge (pos 5)) ∷ (1, lines.Cba (pos 5)) ∷ (2, lines.Bill 0 true (march 10) (april 1) (pos 710))
    ∷ (3, lines.Repair 0 3 (march 20) (april 1) (neg_ℤ (pos 387))) ∷ []

abbrev march_items : List Numbered
march_items = march_bill ∷ (4, Repair 3 (march 20) (april 1)) ∷ []

bill_of_march : line_at march_lines 3 ≡ Some (lines.Bill 0 true (march 10) (april 1) (pos 710))
bill_of_march = refl

bill_is_shown : IsShown march_lines 0 true march_items march_bill
unfolding days_cost
bill_is_shown = refl

repair_is_shown : IsShown march_lines 0 true march_items (4, Repair 3 (march 20) (april 1))
unfolding days_cost
repair_is_shown = refl

-- what a repair takes back is a bill of its own cover
abbrev pub IsOfBill : List Numbered → NewItem → Type 0
IsOfBill items (Bill from to cell) = ⊤
IsOfBill items (Repair of from to) = IsSome (cell_at items of)

repair_of_march : IsOfBill march_items (Repair 3 (march 20) (april 1))
repair_of_march = refl

-- the numbers of items rise from one on
abbrev pub AreRising : ℕ → List Numbered → Type 0
AreRising least [] = ⊤
AreRising least (item ∷ later) = (least ≤ item.0) × AreRising (item.0 + 1) later

-- all items of a cover are shown, in their order
pub record IsCoverShown (invoiced : List (ℕ × Line)) (sub : ℕ) (recurring : Bool)
    (items : List Numbered) : Type 0 where
  pub lines : All (IsShown invoiced sub recurring items) items
  pub of_bills : All (λ (item : Numbered). IsOfBill items item.1) items
  pub in_order : AreRising 1 items

-- so are the fees and the recurring charges of each subscription, from the one at a place on
abbrev pub AllShown : List (ℕ × Line) → ℕ → List SubscriptionItems → Type 0
AllShown invoiced sub [] = ⊤
AllShown invoiced sub (items ∷ later) =
    IsCoverShown invoiced sub false items.fees × IsCoverShown invoiced sub true items.recurring
    × AllShown invoiced (sub + 1) later

-- the items of the subscription at a place, of its recurring charges or else of its fees
abbrev pub cover_of : Bool → SubscriptionItems → List Numbered
cover_of false items = items.fees
cover_of true items = items.recurring

abbrev pub cover_at : List SubscriptionItems → ℕ → Bool → List Numbered
cover_at charges sub recurring = cover_of recurring (unwrap_or (slice_get charges sub) no_items)

second_has_fees : cover_at (no_items ∷ record { fees = march_items; recurring = [] } ∷ []) 1 false
    ≡ march_items
second_has_fees = refl

-- one of some items has a number
abbrev pub has_number : ℕ → List Numbered → Bool
has_number number items = list_any (λ (item : Numbered). item.0 == number) items

number_of_march : has_number 3 march_items ≡ true
number_of_march = refl

-- A line of a number is that of an item by which days are charged: a bill is that of one of its cover, a
-- repair that of one of its subscription, and other lines are of none.
abbrev pub IsOfItem : List SubscriptionItems → ℕ → Line → Type 0
IsOfItem charges number (lines.Bill sub recurring from to amount) =
    has_number number (cover_at charges sub recurring) ≡ true
IsOfItem charges number (lines.Repair sub of from to amount) =
    (has_number number (cover_at charges sub false) ≡ true)
    ⊎ (has_number number (cover_at charges sub true) ≡ true)
IsOfItem charges number (lines.Charge amount) = ⊤
IsOfItem charges number (lines.Credit amount) = ⊤
IsOfItem charges number (lines.Cba amount) = ⊤

line_of_march : IsOfItem (record { fees = []; recurring = march_items } ∷ []) 3
    (lines.Bill 0 true (march 10) (april 1) (pos 710))
line_of_march = refl

-- so is each line, of those that are numbered from one on
abbrev pub AreOfItems : List SubscriptionItems → ℕ → List (ℕ × Line) → Type 0
AreOfItems charges number [] = ⊤
AreOfItems charges number (item ∷ later) =
    IsOfItem charges number item.1 × AreOfItems charges (number + 1) later

lines_of_march : AreOfItems (record { fees = []; recurring = march_items } ∷ []) 2
    ((1, lines.Cba (pos 5)) ∷ (2, lines.Bill 0 true (march 10) (april 1) (pos 710)) ∷ [])
lines_of_march = (tt, (refl, tt))

-- the items by which the subscriptions of a book are charged are shown, and no others
pub record AreShown (book : BookValue) : Type 0 where
  pub shown : AllShown book.invoices.items 0 book.charges
  pub no_others : AreOfItems book.charges 1 book.invoices.items

-- so are those of each account
pub record AreShownIn (machine : MachineValue) : Type 0 where
  pub shown : (account : List ℕ) (book : BookValue) → book_of machine account ≡ Some book → AreShown book

-- they are after each command
abbrev pub ItemsStayShown : Type 0
ItemsStayShown = (machine : MachineValue) (today : ℕ) (command : Command) → AreBilled machine
    → AreShownIn machine → AreShownIn (after_judged machine (judged machine today command))

-- so they are after each history
abbrev pub ReplaysAreShown : Type 0
ReplaysAreShown = (history : History) → AreShownIn (replay history)
