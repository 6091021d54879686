-- The last event of a day, and whether a cell is due by it.
use Rattle.std.proofs.Common.{◌≡◌, ℕ, ◌<◌, ◌≤◌, ◌⊎◌, inl, inr, Bool, true, false, ◌||◌, nat_eq, nat_le}
use Rattle.std.proofs.Common.{Option, Some, None, refl, sym, subst, option_and_then, arith}
use Rattle.std.proofs.lemmas.Bool.{ne_eqb, eq-eqb, le-leb, lt-leb}
use Rattle.kb_align.proofs.Searches.{last_day_on-is}
use Rattle.kb_timeline.specs.declared.subscription.Subscription.{Subscription}
use Rattle.kb_blocking.specs.declared.state.Flag.TheVariants.{Billing}
use Rattle.kb_blocking.specs.Blocking.{turns}
use Rattle.kb_due.specs.declared.cell.Cell.{Cell}
use Rattle.kb_due.specs.Facts.{FactsValue, chain_of}
use Rattle.kb_due.specs.Governing.{Governing, IsBegun}
use Rattle.kb_due.specs.DueDays.{is_event, event_by, due_by}
use Rattle.kb_events.specs.Private.BegunCells.{begun_by}
use Rattle.kb_events.specs.Private.Standing.{IsStanding}

-- one of three truths holds
or-first : (one two three : Bool) → one ≡ true → (one || two || three) ≡ true
or-first true two three holds = refl
or-first false two three holds = absurd (cc)

or-second : (one two three : Bool) → two ≡ true → (one || two || three) ≡ true
or-second true two three holds = refl
or-second false true three holds = refl
or-second false false three holds = absurd (cc)

or-third : (one two three : Bool) → three ≡ true → (one || two || three) ≡ true
or-third true two three holds = refl
or-third false true three holds = refl
or-third false false three holds = holds

-- of what governs a day and the last turn of the billing flag, the latest is the last event
pub event_by-latest : (facts : FactsValue) (subscription : Subscription) (sub : ℕ) (governing : Governing)
    (from : ℕ) (blocked : Bool) (turn event : ℕ)
    → IsBegun governing from → IsStanding facts.blocks (chain_of subscription sub) from blocked turn
    → governing.entry.day ≤ event → governing.start ≤ event → turn ≤ event
    → ((event ≡ governing.entry.day) ⊎ (event ≡ governing.start)) ⊎ (event ≡ turn)
    → event_by facts subscription sub governing from ≡ event
event_by-latest facts subscription sub governing from blocked turn event begun stood entry phase turned some =
    last_day_on-is (is_event facts subscription sub governing) event from past here none
  where
    past : event ≤ from
    past =
        elim some [
          | inl governs ↦ elim governs [
            | inl same ↦ omega (arith, same, begun.2)
            | inr same ↦
                omega (arith, same, begun.1)
          ]
          | inr same ↦ omega (arith, same, stood.past)
        ]

    is_start : governing.start ≡ event → is_event facts subscription sub governing event ≡ true
    is_start same =
        or-second (nat_eq governing.entry.day event) (nat_eq governing.start event)
        (turns facts.blocks (chain_of subscription sub) Billing event)
        (eq-eqb governing.start event same)

    here : is_event facts subscription sub governing event ≡ true
    here =
        elim some [
          | inl governs ↦
              elim governs [
                | inl same ↦
                    or-first (nat_eq governing.entry.day event) (nat_eq governing.start event)
                    (turns facts.blocks (chain_of subscription sub) Billing event)
                    (eq-eqb governing.entry.day event (sym same))
                | inr same ↦ is_start (sym same)
              ]
          | inr same ↦
              elim stood.turned [
                | inl first ↦ is_start (omega (arith, first, same, begun.0, phase))
                | inr turns_then ↦
                    or-third (nat_eq governing.entry.day event) (nat_eq governing.start event)
                    (turns facts.blocks (chain_of subscription sub) Billing event)
                    (subst (λ (day : ℕ). turns facts.blocks (chain_of subscription sub) Billing day ≡ true)
                    (sym same) turns_then)
              ]
        ]

    none : (other : ℕ) → event < other → other ≤ from
        → is_event facts subscription sub governing other ≡ false
    none other after up_to =
        let not_entry : nat_eq governing.entry.day other
        ≡ false = ne_eqb governing.entry.day other (λ same. omega (arith, same, entry, after)) in
        let not_start : nat_eq governing.start other
        ≡ false = ne_eqb governing.start other (λ same. omega (arith, same, phase, after)) in
        let not_turned : turns facts.blocks (chain_of subscription sub) Billing other
        ≡ false = stood.quiet other (omega (arith, turned, after)) up_to in
        rw (not_entry, not_start, not_turned) refl

-- no cell is due before the last event
pub due_by-late : (billed event : ℕ) (found : Option Cell) → billed < event
    → option_and_then (due_by billed event) found ≡ None
due_by-late billed event None late = refl
due_by-late billed event (Some cell) late = by_start (nat_le cell.start billed) refl
  where
    by_start : (begun : Bool) → nat_le cell.start billed ≡ begun → due_by billed event cell ≡ None
    by_start true is = rw (is, lt-leb event billed late) refl
    by_start false is = rw is refl

-- from then on a cell is, once its period has begun
pub due_by-begun : (billed event : ℕ) (found : Option Cell) → event ≤ billed
    → option_and_then (due_by billed event) found ≡ option_and_then (begun_by billed) found
due_by-begun billed event None past = refl
due_by-begun billed event (Some cell) past = by_start (nat_le cell.start billed) refl
  where
    by_start : (begun : Bool) → nat_le cell.start billed ≡ begun
        → due_by billed event cell ≡ begun_by billed cell
    by_start true is = rw (is, le-leb event billed past) refl
    by_start false is = rw is refl
