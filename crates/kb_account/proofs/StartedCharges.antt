-- What is charged, where a subscription may be new.
use Rattle.std.proofs.Common.{◌≡◌, ℕ, Bool, true, false, List, [], ◌∷◌, ◌++◌, All, sym, subst}
use Rattle.kb_tree.specs.Numbers.{AreBelow}
use Rattle.kb_tree.specs.Issues.{SubscriptionItems, no_items}
use Rattle.kb_account.specs.Private.Begins.{with_started}

-- one that is new has no item, and stands behind the others
pub started_below : (started : Bool) (charges given : List SubscriptionItems) (first number : ℕ)
    → started ≡ true
    → given ≡ charges ++ no_items ∷ [] → number ≡ first → All (AreBelow first) (with_started started charges)
    → All (AreBelow number) given
started_below true charges given first number is made at below =
    subst (λ n. All (AreBelow n) given) (sym at) (subst
    (λ (all : List SubscriptionItems). All (AreBelow first) all) (sym made) below)
started_below false charges given first number is made at below = absurd (cc)

-- where none is, all stay
pub same_below : (started : Bool) (charges given : List SubscriptionItems) (first number : ℕ)
    → started ≡ false
    → given ≡ charges → number ≡ first → All (AreBelow first) (with_started started charges)
    → All (AreBelow number) given
same_below true charges given first number is made at below = absurd (cc)
same_below false charges given first number is made at below =
    subst (λ n. All (AreBelow n) given) (sym at) (subst
    (λ (all : List SubscriptionItems). All (AreBelow first) all) (sym made) below)
