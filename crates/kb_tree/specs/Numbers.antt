-- The numbers of items.
use Rattle.std.specs.Prelude.{ℕ, All}
use Rattle.kb_tree.specs.Covers.{IsBelow}
use Rattle.kb_tree.specs.Issues.{SubscriptionItems}

-- the numbers of a subscription's items are below another
pub record AreBelow (first : ℕ) (items : SubscriptionItems) : Type 0 where
  pub fees : All (IsBelow first) items.fees
  pub recurring : All (IsBelow first) items.recurring
