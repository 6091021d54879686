-- Between two days on which no entry and no cancellation is dated, a subscription runs and is offered alike.
use Rattle.std.proofs.Common.{◌≡◌, ℕ, ◌≤◌, Bool, not, ◌&&◌, List, [], ◌∷◌, Option, Some, None}
use Rattle.std.proofs.Common.{option_and_then, refl, ap, ◌∙◌}
use Rattle.std.proofs.lemmas.List.Elements.{All-head}
use Rattle.kb_catalog.specs.declared.version.Version.{Version}
use Rattle.kb_timeline.specs.declared.entry.Entry.{Entry}
use Rattle.kb_timeline.specs.declared.subscription.Subscription.{Subscription}
use Rattle.kb_due.specs.Governing.{Choice, choice_of}
use Rattle.kb_due.specs.Life.{has_started, is_cancelled, is_running, choice_on, is_offered, is_kept_on}
use Rattle.kb_events.specs.Private.Quiet.{IsQuiet, AreEntriesQuiet, IsStartQuiet, IsCancelQuiet}
use Rattle.kb_events.proofs.SteadyEntries.{nat_le-steady, entry_on-steady}

-- where the start isn't dated there, it has come by both days or by neither
has_started-steady : (entries : List Entry) (d e : ℕ) → d ≤ e → IsStartQuiet d e entries
    → has_started entries e ≡ has_started entries d
has_started-steady [] d e h quiet = refl
has_started-steady (start ∷ changes) d e h quiet = nat_le-steady start.day d e h quiet

-- and so has a cancellation
is_cancelled-steady : (cancel : Option ℕ) (d e : ℕ) → d ≤ e → IsCancelQuiet d e cancel
    → is_cancelled cancel e ≡ is_cancelled cancel d
is_cancelled-steady None d e h quiet = refl
is_cancelled-steady (Some cancel) d e h quiet = nat_le-steady cancel d e h quiet

-- a subscription that neither starts nor is cancelled after a day and up to another runs on both or on
-- neither
pub is_running-steady : (subscription : Subscription) (d e : ℕ) → d ≤ e
    → IsStartQuiet d e subscription.entries → IsCancelQuiet d e subscription.cancel
    → is_running subscription e ≡ is_running subscription d
is_running-steady subscription d e h started cancelled =
    ap (λ (has : Bool). has && not (is_cancelled subscription.cancel e))
    (has_started-steady subscription.entries d e h started)
    ∙ ap (λ (is : Bool). has_started subscription.entries d && not is)
    (is_cancelled-steady subscription.cancel d e h cancelled)

-- where no entry is dated after a day and up to another, what was chosen is the same on both
pub choice_on-steady : (catalog : List Version) (entries : List Entry) (d e : ℕ) → d ≤ e
    → AreEntriesQuiet d e entries
    → choice_on catalog entries e ≡ choice_on catalog entries d
choice_on-steady catalog entries d e h quiet =
    ap (option_and_then (λ (entry : Entry). choice_of catalog entry.plan))
    (entry_on-steady entries d e h quiet)

-- where no entry of a lead or an add-on is dated there, the lead offers the add-on on both days or on neither
pub is_offered-steady : (catalog : List Version) (lead addon : Subscription) (d e : ℕ) → d ≤ e
    → AreEntriesQuiet d e lead.entries
    → AreEntriesQuiet d e addon.entries → is_offered catalog lead addon e ≡ is_offered catalog lead addon d
is_offered-steady catalog lead addon d e h led added =
    by_choices (choice_on catalog lead.entries d) (choice_on catalog addon.entries d) refl refl
    (choice_on-steady catalog lead.entries d e h led) (choice_on-steady catalog addon.entries d e h added)
  where
    by_choices : (one other : Option Choice) → choice_on catalog lead.entries d ≡ one
        → choice_on catalog addon.entries d ≡ other
        → choice_on catalog lead.entries e ≡ choice_on catalog lead.entries d
        → choice_on catalog addon.entries e ≡ choice_on catalog addon.entries d
        → is_offered catalog lead addon e ≡ is_offered catalog lead addon d
    by_choices None other of_lead of_addon led added =
        let later : choice_on catalog lead.entries e ≡ None = led ∙ of_lead in
        rw (later, of_lead) refl
    by_choices (Some one) None of_lead of_addon led added =
        let later : choice_on catalog lead.entries e ≡ Some one = led ∙ of_lead in
        let beside : choice_on catalog addon.entries e ≡ None = added ∙ of_addon in
        rw (later, beside, of_lead, of_addon) refl
    by_choices (Some one) (Some other) of_lead of_addon led added =
        let later : choice_on catalog lead.entries e ≡ Some one = led ∙ of_lead in
        let beside : choice_on catalog addon.entries e ≡ Some other = added ∙ of_addon in
        rw (later, beside, of_lead, of_addon) refl

-- where no entry is dated there, neither is the start
pub IsStartQuiet-entries : (entries : List Entry) (d e : ℕ) → AreEntriesQuiet d e entries
    → IsStartQuiet d e entries
IsStartQuiet-entries [] d e quiet = tt
IsStartQuiet-entries (start ∷ changes) d e quiet =
    All-head (λ (entry : Entry). IsQuiet d e entry.day) start changes quiet

-- where, beside, the lead isn't cancelled there, it keeps the add-on on both days or on neither
pub is_kept_on-steady : (catalog : List Version) (lead addon : Subscription) (d e : ℕ) → d ≤ e
    → AreEntriesQuiet d e lead.entries
    → IsCancelQuiet d e lead.cancel → AreEntriesQuiet d e addon.entries
    → is_kept_on catalog lead addon e ≡ is_kept_on catalog lead addon d
is_kept_on-steady catalog lead addon d e h led cancelled added =
    ap (λ (runs : Bool). runs && is_offered catalog lead addon e)
    (is_running-steady lead d e h (IsStartQuiet-entries lead.entries d e led) cancelled)
    ∙ ap (λ (offers : Bool). is_running lead d && offers)
    (is_offered-steady catalog lead addon d e h led added)
