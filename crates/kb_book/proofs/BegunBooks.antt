-- A command's own edit: it leaves the invoices and how many commands there were, moves what stands beside
-- subscriptions by its own line, and keeps the subscriptions or puts one behind them.
use Rattle.std.proofs.Common.{◌≡◌, ℕ, ◌+◌, ◌⊎◌, inl, inr, List, [], ◌∷◌, ◌++◌, length, Option, Some, None, ℤ}
use Rattle.std.proofs.Common.{pos, neg_ℤ, ◌+ℤ◌, refl, arith, length-append}
use Rattle.std.proofs.lemmas.Int.{ints}
use Rattle.kb_sharing.specs.Sums.{sum_of}
use Rattle.kb_credit.specs.declared.line.Line.{Line}
use Rattle.kb_credit.specs.Items.{amount_of}
use Rattle.kb_timeline.specs.declared.subscription.Subscription.{Subscription}
use Rattle.kb_timeline.specs.TimelineEdits.{TimelineValue, with_edit, uncancelled, subscription_named}
use Rattle.kb_timeline.specs.SubscriptionEdits.{uncancel_of}
use Rattle.kb_timeline.proofs.EditedMembers.{length-edited_at}
use Rattle.kb_codec.specs.declared.command.Command.{Command}
use Rattle.kb_codec.specs.declared.command.Command.TheVariants as kinds
use Rattle.kb_codec.specs.declared.action.Action.TheVariants as actions
use Rattle.kb_codec.specs.declared.action.Create.{Create}
use Rattle.kb_codec.specs.declared.action.Change.{Change}
use Rattle.kb_codec.specs.declared.action.Cancel.{Cancel}
use Rattle.kb_codec.specs.declared.action.Uncancel.{Uncancel}
use Rattle.kb_due.specs.Facts.{FactsValue}
use Rattle.kb_book.specs.SubscriptionCommands.{started, with_change, with_cancel, with_uncancel, at_place}
use Rattle.kb_book.specs.Worlds.{WorldValue}
use Rattle.kb_tree.specs.Issues.{no_items}
use Rattle.kb_book.specs.Books.{BookValue}
use Rattle.kb_book.specs.Dues.{facts_of}
use Rattle.kb_book.specs.Commands.{begun, own_lines}

-- how many subscriptions a timeline has
abbrev pub subscription_count : TimelineValue → ℕ
subscription_count timeline = length timeline.subscriptions

-- an edit of one keeps how many there are
count-with_edit : (timeline : TimelineValue) (place : ℕ) (edit : Subscription → Subscription)
    → subscription_count (with_edit timeline place edit) ≡ subscription_count timeline
count-with_edit timeline place edit = length-edited_at place edit timeline.subscriptions

-- so does one at the place of a name, if that is there
count-at_place : (timeline : TimelineValue) (edit : ℕ → TimelineValue)
    → ((sub : ℕ) → subscription_count (edit sub) ≡ subscription_count timeline) → (found : Option ℕ)
    → subscription_count (at_place timeline edit found) ≡ subscription_count timeline
count-at_place timeline edit kept None = refl
count-at_place timeline edit kept (Some sub) = kept sub

-- a change, a cancellation and its end
pub count-with_change : (facts : FactsValue) (billed : Option ℕ) (today : ℕ) (c : Change)
    → subscription_count (with_change facts billed today c) ≡ subscription_count facts.timeline
count-with_change facts billed today c =
    count-at_place facts.timeline _ (λ sub. count-with_edit facts.timeline sub _)
    (subscription_named facts.timeline c.subscription)

pub count-with_cancel : (facts : FactsValue) (billed : Option ℕ) (today : ℕ) (c : Cancel)
    → subscription_count (with_cancel facts billed today c) ≡ subscription_count facts.timeline
count-with_cancel facts billed today c =
    count-at_place facts.timeline _ (λ sub. count-with_edit facts.timeline sub _)
    (subscription_named facts.timeline c.subscription)

pub count-with_uncancel : (timeline : TimelineValue) (c : Uncancel)
    → subscription_count (with_uncancel timeline c) ≡ subscription_count timeline
count-with_uncancel timeline c =
    count-at_place timeline (uncancelled timeline) (λ sub. count-with_edit timeline sub uncancel_of)
    (subscription_named timeline c.subscription)

-- a start puts one behind them
pub count-started : (facts : FactsValue) (today : ℕ) (c : Create)
    → subscription_count (started facts today c) ≡ subscription_count facts.timeline + 1
count-started facts today c = length-append facts.timeline.subscriptions _

-- the subscriptions of an edited book stay, or have one without an item behind them
abbrev pub AreKept : BookValue → BookValue → Type 0
AreKept book edited =
    (edited.charges ≡ book.charges) × (subscription_count edited.timeline ≡ subscription_count book.timeline)

abbrev pub HaveOneMore : BookValue → BookValue → Type 0
HaveOneMore book edited =
    (edited.charges ≡ book.charges ++ no_items ∷ [])
    × (subscription_count edited.timeline ≡ subscription_count book.timeline + 1)

-- what every edit keeps
pub record IsEdited (book edited : BookValue) (own : List Line) : Type 0 where
  pub invoices : edited.invoices ≡ book.invoices
  pub commands : edited.commands ≡ book.commands
  pub beside : edited.beside ≡ book.beside +ℤ sum_of amount_of own
  pub subscriptions : AreKept book edited ⊎ HaveOneMore book edited

-- an edit of anything else
abbrev other_edit : (book edited : BookValue) → edited.invoices ≡ book.invoices
    → edited.commands ≡ book.commands → edited.beside ≡ book.beside
    → edited.charges ≡ book.charges → subscription_count edited.timeline ≡ subscription_count book.timeline
    → IsEdited book edited []
other_edit book edited invoices commands beside charges count = record {
  invoices = invoices;
  commands = commands;
  beside = omega (arith, ints, beside);
  subscriptions = inl (charges, count);
}

-- what stands beside subscriptions moves by the line of a charge or of a credit
own_line : (before amount : ℤ) → before +ℤ amount ≡ before +ℤ (amount +ℤ pos 0)
own_line before amount = omega (arith, ints)

-- each command's own edit
pub begun-edited : (world : WorldValue) (book : BookValue) (today : ℕ) (command : Command)
    → IsEdited book (begun world book today command) (own_lines command)
begun-edited world book today (kinds.Act account key (actions.Create c)) = record {
  invoices = refl;
  commands = refl;
  beside = omega (arith, ints);
  subscriptions = inr (refl, count-started (facts_of world book) today c);
}
begun-edited world book today (kinds.Act account key (actions.Change c)) =
    other_edit book _ refl refl refl refl (count-with_change (facts_of world book) book.billed today c)
begun-edited world book today (kinds.Act account key (actions.Cancel c)) =
    other_edit book _ refl refl refl refl (count-with_cancel (facts_of world book) book.billed today c)
begun-edited world book today (kinds.Act account key (actions.Uncancel c)) =
    other_edit book _ refl refl refl refl (count-with_uncancel book.timeline c)
begun-edited world book today (kinds.Act account key (actions.Charge c)) = record {
  invoices = refl;
  commands = refl;
  beside = own_line book.beside (pos c.amount);
  subscriptions = inl (refl, refl);
}
begun-edited world book today (kinds.Act account key (actions.Credit c)) = record {
  invoices = refl;
  commands = refl;
  beside = own_line book.beside (neg_ℤ (pos c.amount));
  subscriptions = inl (refl, refl);
}
begun-edited world book today command = other_edit book _ refl refl refl refl refl
