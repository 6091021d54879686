-- A catalog that has the plans of a book has them still once a command is accepted.
use Rattle.std.proofs.Common.{◌≡◌, ℕ, zero, suc, Bool, false, not, List, [], ◌∷◌, All, nat_lt, slice_get}
use Rattle.std.proofs.Common.{Option, Some, None, is_some, unwrap_or, refl, sym, ap, ◌∙◌}
use Rattle.std.proofs.lemmas.Option.{none-some}
use Rattle.std.proofs.lemmas.List.Elements.{All-nil, All-cons, All-head, All-tail, All-push, All-filter}
use Rattle.kb_catalog.specs.declared.version.Version.{Version}
use Rattle.kb_timeline.specs.declared.entry.Entry.{Entry}
use Rattle.kb_timeline.specs.declared.subscription.Subscription.{Subscription}
use Rattle.kb_timeline.specs.EntryDays.{kept_by_change}
use Rattle.kb_timeline.specs.SubscriptionEdits.{change_of, cancel_of, uncancel_of}
use Rattle.kb_timeline.specs.TimelineEdits.{TimelineValue, edited_at, subscription_named}
use Rattle.kb_codec.specs.declared.command.Command.{Command}
use Rattle.kb_codec.specs.declared.command.Command.TheVariants as kinds
use Rattle.kb_codec.specs.declared.action.Action.TheVariants as actions
use Rattle.kb_codec.specs.declared.action.Create.{Create}
use Rattle.kb_codec.specs.declared.action.Change.{Change}
use Rattle.kb_due.specs.Facts.{FactsValue, subscription_at}
use Rattle.kb_book.specs.Wishes.{asked_day, plan_asked}
use Rattle.kb_book.specs.Effects.{change_effect}
use Rattle.kb_book.specs.declared.refusal.Refusal.{Refusal}
use Rattle.kb_book.specs.declared.refusal.Refusal.TheVariants as refusal
use Rattle.kb_book.specs.Rows.{Rows, first_refusal, limit}
use Rattle.kb_book.specs.Worlds.{WorldValue}
use Rattle.kb_book.specs.Books.{BookValue}
use Rattle.kb_book.specs.Dues.{facts_of}
use Rattle.kb_book.specs.Commands.{own_rows, max_commands, begun}
use Rattle.kb_book.specs.SubscriptionCommands.{create_rows, change_rows_of, change_rows_by, of_place}
use Rattle.kb_book.specs.SubscriptionCommands.{of_subscription, wish_of, new_wish_of, start_entry, started}
use Rattle.kb_book.specs.SubscriptionCommands.{change_entry, changed_at, at_place}
use Rattle.kb_book.specs.Steps.{has_all_commands, rows_of}
use Rattle.kb_codec.specs.Senders.{key_of}
use Rattle.kb_book.proofs.AcceptedPayments.{first-none}
use Rattle.kb_histories.specs.HeldPlans.{HasPlanOf, HasEachOf, HasPlansOf}
use Rattle.kb_histories.proofs.AskedPlans.{some_plan-held}

-- where nothing is refused, the refusal at each place doesn't hold
row-none : (rows : Rows) (place : ℕ) (test : Bool) (refused : Refusal) → first_refusal rows ≡ None
    → slice_get rows place ≡ Some (test, refused) → test ≡ false
row-none [] place test refused none there = absurd (none-some (test, refused) there)
row-none ((first, why) ∷ later) zero test refused none there =
    let row : (first, why) ≡ (test, refused) = cc in
    ap (λ (one : Bool × Refusal). one.0) (sym row) ∙ (first-none first why later none).0
row-none ((first, why) ∷ later) (suc place) test refused none there =
    row-none later place test refused (first-none first why later none).1 there

-- an edit of the member at a place keeps what holds of all, if it keeps it of each
All-edited_at : {A : Type 0} (P : A → Type 0) (place : ℕ) (edit : A → A) (members : List A)
    → ((member : A) → P member → P (edit member)) → All P members → All P (edited_at place edit members)
All-edited_at P place edit [] keeps all = All-nil P
All-edited_at P zero edit (member ∷ later) keeps all =
    All-cons P (edit member) later (keeps member (All-head P member later all)) (All-tail P member later all)
All-edited_at P (suc place) edit (member ∷ later) keeps all =
    All-cons P member (edited_at place edit later) (All-head P member later all)
    (All-edited_at P place edit later keeps (All-tail P member later all))

module _ (catalog : List Version) where
  -- what a change leaves of entries
  held-kept : (day : ℕ) (entries : List Entry) → All (HasPlanOf catalog) entries
      → All (HasPlanOf catalog) (kept_by_change day entries)
  held-kept day [] held = All-nil (HasPlanOf catalog)
  held-kept day (start ∷ changes) held =
      All-cons (HasPlanOf catalog) start _ (All-head (HasPlanOf catalog) start changes held)
      (All-filter (λ (change : Entry). nat_lt change.day day) (HasPlanOf catalog) changes
      (All-tail (HasPlanOf catalog) start changes held))

  -- a change to a plan that the catalog has
  held-change : (change : Entry) (subscription : Subscription) → HasPlanOf catalog change
      → HasEachOf catalog subscription → HasEachOf catalog (change_of change subscription)
  held-change change subscription one held =
      All-push (HasPlanOf catalog) (kept_by_change change.day subscription.entries) change
      (held-kept change.day subscription.entries held) one

  -- an edit at the place of a name, if that is there
  held-at_place : (timeline : TimelineValue) (edit : ℕ → TimelineValue) (found : Option ℕ)
      → HasPlansOf catalog timeline → ((sub : ℕ) → HasPlansOf catalog (edit sub))
      → HasPlansOf catalog (at_place timeline edit found)
  held-at_place timeline edit None held edited = held
  held-at_place timeline edit (Some sub) held edited = edited sub

module _ (world : WorldValue) (book : BookValue) (today : ℕ)
    (held : HasPlansOf world.versions book.timeline) where
  abbrev facts : FactsValue
  facts = facts_of world book

  -- a start
  create-held : (c : Create) → first_refusal (create_rows facts today c) ≡ None
      → HasPlansOf world.versions (started facts today c)
  create-held c none =
      let day : ℕ = asked_day c.day today in
      let sold : not (is_some (plan_asked world.versions day (wish_of c))) ≡ false =
      row-none (create_rows facts today c) 1 (not (is_some (plan_asked world.versions day (wish_of c))))
      refusal.NoPlan none refl in
      All-push (HasEachOf world.versions) book.timeline.subscriptions _ held
      (All-cons (HasPlanOf world.versions) (start_entry facts day c) []
      (some_plan-held world.versions day (wish_of c) sold) (All-nil (HasPlanOf world.versions)))

  -- a change of the subscription at a place
  changed-held : (c : Change) (sub : ℕ) (subscription : Option Subscription)
      → first_refusal (of_subscription (change_rows_of facts book.billed today c) sub subscription) ≡ None
      → HasPlansOf world.versions (changed_at facts c (asked_day c.day today)
      (change_effect facts sub book.billed (asked_day c.day today) (new_wish_of c)) sub)
  changed-held c sub None none = absurd (cc)
  changed-held c sub (Some subscription) none =
      let day : ℕ = asked_day c.day today in
      let effect : Option ℕ = change_effect facts sub book.billed day (new_wish_of c) in
      let sold : not (is_some (plan_asked world.versions (unwrap_or effect day) (new_wish_of c))) ≡ false =
      row-none (change_rows_by facts c sub subscription day effect) 5
      (not (is_some (plan_asked world.versions (unwrap_or effect day) (new_wish_of c)))) refusal.NoPlan none
      refl in
      let change : Entry = change_entry facts c sub day (unwrap_or effect day) in
      All-edited_at (HasEachOf world.versions) sub (change_of change) book.timeline.subscriptions
      (λ one own. held-change world.versions change one
      (some_plan-held world.versions (unwrap_or effect day) (new_wish_of c) sold) own) held

  -- or of a name
  change-held : (c : Change) (found : Option ℕ)
      → first_refusal (of_place facts (change_rows_of facts book.billed today c) found) ≡ None
      → HasPlansOf world.versions (at_place facts.timeline (λ sub. changed_at facts c (asked_day c.day today)
      (change_effect facts sub book.billed (asked_day c.day today) (new_wish_of c)) sub) found)
  change-held c None none = held
  change-held c (Some sub) none = changed-held c sub (subscription_at facts sub) none

  -- each command's own edit
  own-held : (command : Command) → first_refusal (own_rows world book today command) ≡ None
      → HasPlansOf world.versions (begun world book today command).timeline
  own-held (kinds.Act account key (actions.Create c)) none = create-held c none
  own-held (kinds.Act account key (actions.Change c)) none =
      change-held c (subscription_named book.timeline c.subscription) none
  own-held (kinds.Act account key (actions.Cancel c)) none =
      held-at_place world.versions book.timeline _ (subscription_named book.timeline c.subscription) held
      (λ sub. All-edited_at (HasEachOf world.versions) sub (cancel_of _) book.timeline.subscriptions
      (λ one own. own) held)
  own-held (kinds.Act account key (actions.Uncancel c)) none =
      held-at_place world.versions book.timeline _ (subscription_named book.timeline c.subscription) held
      (λ sub. All-edited_at (HasEachOf world.versions) sub uncancel_of book.timeline.subscriptions
      (λ one own. own) held)
  own-held command none = held

  -- of a command that isn't refused
  pub begun-held : (command : Command) → first_refusal (rows_of world book today command) ≡ None
      → HasPlansOf world.versions (begun world book today command).timeline
  begun-held command none =
      own-held command
      (first-none (has_all_commands book (key_of command)) (limit 5 max_commands)
      (own_rows world book today command) none).1
