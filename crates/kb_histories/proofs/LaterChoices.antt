-- What entries chose, and what governs days by them, is the same with later versions of a catalog.
use Rattle.std.proofs.Common.{◌≡◌, ℕ, Bool, ◌&&◌, List, ◌++◌, All, slice_get, Option, Some, None}
use Rattle.std.proofs.Common.{IsSome, option_and_then, nat_le, refl, sym, ap, ◌∙◌, true≢false}
use Rattle.std.specs.List.{list_all}
use Rattle.std.proofs.lemmas.List.Elements.{All-filter}
use Rattle.std.proofs.Math.Path.{fun_ext}
use Rattle.kb_catalog.specs.declared.version.Version.{Version}
use Rattle.kb_timeline.specs.declared.entry.Entry.{Entry}
use Rattle.kb_timeline.specs.declared.entry.PlanRef.{PlanRef}
use Rattle.kb_timeline.specs.declared.subscription.Subscription.{Subscription}
use Rattle.kb_timeline.specs.EntryDays.{entry_on}
use Rattle.kb_due.specs.Governing.{Choice, choice_in, choice_of, governing_choice, governing_by, governing_on}
use Rattle.kb_due.specs.Life.{choice_on, is_running, is_offered, is_kept, is_kept_by, days_from_start}
use Rattle.kb_histories.specs.HeldPlans.{HasPlanOf, HasEachOf}
use Rattle.kb_histories.proofs.Members.{All-last, slice_get-longer}

-- two questions that agree on what may be asked have the same answer
pub option_and_then-agrees : {A B : Type 0} (one other : A → Option B) (asked : Option A)
    → ((a : A) → asked ≡ Some a → one a ≡ other a) → option_and_then one asked ≡ option_and_then other asked
option_and_then-agrees one other None agree = refl
option_and_then-agrees one other (Some a) agree = agree a refl

-- the entry that governs a day is one of the entries
pub entry_on-held : (P : Entry → Type 0) (entries : List Entry) (day : ℕ) (entry : Entry) → All P entries
    → entry_on entries day ≡ Some entry → P entry
entry_on-held P entries day entry all is =
    All-last P None _ entry tt (All-filter (λ (one : Entry). nat_le one.day day) P entries all) is

module _ (catalog later : List Version) where
  -- what a reference names
  pub choice_of-later : (place : PlanRef) → IsSome (choice_of catalog place)
      → choice_of (catalog ++ later) place ≡ choice_of catalog place
  choice_of-later place held = by_version (slice_get catalog place.version) refl held
    where
      by_version : (found : Option Version) → slice_get catalog place.version ≡ found
          → IsSome (option_and_then (choice_in place) found)
          → choice_of (catalog ++ later) place ≡ choice_of catalog place
      by_version None is none = absurd (true≢false (sym none))
      by_version (Some version) is some =
          rw (is, slice_get-longer catalog later place.version version is) refl

  -- what governs a day
  pub governing_on-later : (entries : List Entry) (day : ℕ) → All (HasPlanOf catalog) entries
      → governing_on (catalog ++ later) entries day ≡ governing_on catalog entries day
  governing_on-later entries day held =
      option_and_then-agrees (λ (entry : Entry). governing_by (catalog ++ later) entry day)
      (λ (entry : Entry). governing_by catalog entry day) (entry_on entries day)
      (λ entry is. ap (option_and_then (governing_choice entry day))
      (choice_of-later entry.plan (entry_on-held (HasPlanOf catalog) entries day entry held is)))

  -- what was chosen for a day
  choice_on-later : (entries : List Entry) (day : ℕ) → All (HasPlanOf catalog) entries
      → choice_on (catalog ++ later) entries day ≡ choice_on catalog entries day
  choice_on-later entries day held =
      option_and_then-agrees (λ (entry : Entry). choice_of (catalog ++ later) entry.plan)
      (λ (entry : Entry). choice_of catalog entry.plan) (entry_on entries day)
      (λ entry is. choice_of-later entry.plan (entry_on-held (HasPlanOf catalog) entries day entry held is))

  module _ (lead addon : Subscription) (led : HasEachOf catalog lead) (added : HasEachOf catalog addon) where
    -- whether an add-on is offered
    is_offered-later : (day : ℕ)
        → is_offered (catalog ++ later) lead addon day ≡ is_offered catalog lead addon day
    is_offered-later day =
        by_choices (choice_on catalog lead.entries day) (choice_on catalog addon.entries day) refl refl
      where
        by_choices : (one other : Option Choice) → choice_on catalog lead.entries day ≡ one
            → choice_on catalog addon.entries day ≡ other
            → is_offered (catalog ++ later) lead addon day ≡ is_offered catalog lead addon day
        by_choices None other of_lead of_addon =
            let later_lead : choice_on (catalog ++ later) lead.entries day ≡ None =
            choice_on-later lead.entries day led ∙ of_lead in
            rw (later_lead, of_lead) refl
        by_choices (Some one) None of_lead of_addon =
            let later_lead : choice_on (catalog ++ later) lead.entries day ≡ Some one =
            choice_on-later lead.entries day led ∙ of_lead in
            let later_addon : choice_on (catalog ++ later) addon.entries day ≡ None =
            choice_on-later addon.entries day added ∙ of_addon in
            rw (later_lead, later_addon, of_lead, of_addon) refl
        by_choices (Some one) (Some other) of_lead of_addon =
            let later_lead : choice_on (catalog ++ later) lead.entries day ≡ Some one =
            choice_on-later lead.entries day led ∙ of_lead in
            let later_addon : choice_on (catalog ++ later) addon.entries day ≡ Some other =
            choice_on-later addon.entries day added ∙ of_addon in
            rw (later_lead, later_addon, of_lead, of_addon) refl

    -- and whether it has been kept since its start
    is_kept-later : (day : ℕ) → is_kept (catalog ++ later) lead addon day ≡ is_kept catalog lead addon day
    unfolding is_kept
    is_kept-later day =
        ap (λ (test : ℕ → Bool). list_all test (days_from_start addon.entries day))
        (fun_ext (λ (d : ℕ). ap (λ (offers : Bool). is_running lead d && offers) (is_offered-later d)))

  pub is_kept_by-later : (lead : Option Subscription) (addon : Subscription) (day : ℕ)
      → ((one : Subscription) → lead ≡ Some one → HasEachOf catalog one) → HasEachOf catalog addon
      → is_kept_by (catalog ++ later) lead addon day ≡ is_kept_by catalog lead addon day
  is_kept_by-later None addon day led added = refl
  is_kept_by-later (Some lead) addon day led added = is_kept-later lead addon (led lead refl) added day
