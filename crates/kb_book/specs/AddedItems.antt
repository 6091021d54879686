-- Items are only added, and only on days whose due cell changes.
use Rattle.std.specs.Prelude.{ℕ, ◌+◌, ◌≡◌, ◌≤◌, ◌<◌, ◌++◌, false, List, [], ◌∷◌, Option, ⊤}
use Rattle.std.specs.List.{list_any}
use Rattle.kb_days.specs.Calendar.{first_day, charged_days}
use Rattle.kb_credit.specs.declared.line.Line.{Line}
use Rattle.kb_due.specs.declared.cell.Cell.{Cell}
use Rattle.kb_due.specs.Facts.{FactsValue}
use Rattle.kb_due.specs.DueDays.{due_at, fee_at}
use Rattle.kb_tree.specs.declared.item.NewItem.{NewItem}
use Rattle.kb_tree.specs.Items.{Numbered, numbered, item_has_day}
use Rattle.kb_book.specs.Worlds.{WorldValue}
use Rattle.kb_tree.specs.Issues.{SubscriptionItems, no_items}
use Rattle.kb_book.specs.Books.{BookValue}
use Rattle.kb_book.specs.Dues.{facts_of}

-- the items of a cover are the old ones with new ones behind them, none of which has a day that keeps its
-- cell
pub record AreAdded (before after : ℕ → Option Cell) (old new : List Numbered) : Type 0 where
  pub first : ℕ
  pub items : List NewItem
  pub added : new ≡ old ++ numbered first items
  pub untouched : (day : ℕ) → first_day ≤ day → day < first_day + charged_days → before day ≡ after day
      → list_any (item_has_day day) items ≡ false

-- the same of the subscription at a place, which other facts and another billed date have become due for
pub record IsAdded (before after : FactsValue) (was is : Option ℕ) (sub : ℕ)
    (old new : SubscriptionItems) : Type 0 where
  pub fees : AreAdded (fee_at before sub was) (fee_at after sub is) old.fees new.fees
  pub recurring : AreAdded (due_at before sub was) (due_at after sub is) old.recurring new.recurring

-- and of all subscriptions from a place on; one that wasn't there had no item
abbrev pub AllAdded : FactsValue → FactsValue → Option ℕ → Option ℕ → ℕ → List SubscriptionItems
    → List SubscriptionItems → Type 0
AllAdded before after was is sub old [] = ⊤
AllAdded before after was is sub [] (new ∷ later) =
    IsAdded before after was is sub no_items new × AllAdded before after was is (sub + 1) [] later
AllAdded before after was is sub (old ∷ olds) (new ∷ later) =
    IsAdded before after was is sub old new × AllAdded before after was is (sub + 1) olds later

-- what a command leaves of a book's items, where the book was billed by other texts
abbrev pub AddsFrom : WorldValue → WorldValue → BookValue → BookValue → Type 0
AddsFrom other world before after =
    AllAdded (facts_of other before) (facts_of world after) before.billed after.billed 0 before.charges
    after.charges

-- the items of its invoices go on behind the others
abbrev pub GoOn : BookValue → BookValue → Type 0
GoOn before after = (more : List (ℕ × Line)) × (after.invoices.items ≡ before.invoices.items ++ more)
