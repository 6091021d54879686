-- What a look-up leaves: the other payments are as they were.
use Rattle.std.proofs.Common.{◌≡◌, ℕ, Bool, true, false, true≢false, not, List, [], ◌∷◌, ◌++◌, filter, map}
use Rattle.std.proofs.Common.{◌<◌, ◌≤◌, ◌+◌, zero, suc, drop, take, arith, flat_map, length, get_or, All}
use Rattle.std.proofs.Common.{Option, Some, None, Result, Ok, Err, refl, sym, ap, subst, ◌∙◌, inl, inr}
use Rattle.std.proofs.Common.{if◌then◌else◌}
use Rattle.std.specs.List.{list_any}
use Rattle.std.proofs.lemmas.Bool.{cases_Bool}
use Rattle.std.proofs.lemmas.Option.{none-some}
use Rattle.std.proofs.lemmas.List.{append-nil, append_assoc, take-append-drop}
use Rattle.std.proofs.lemmas.List.Elements.{filter-append, All-head, All-tail}
use Rattle.kb_base.specs.declared.fault.Failed.{Failed}
use Rattle.kb_payment.specs.Attempts.{is_open}
use Rattle.kb_payment.specs.declared.attempt.Attempt.{Attempt}
use Rattle.kb_payment.specs.declared.attempt.Status.{Status}
use Rattle.kb_gateway.specs.declared.order.Asked.{Asked}
use Rattle.kb_gateway.specs.declared.told.Seen.{Seen}
use Rattle.kb_gateway.specs.Told.{GatewayTold}
use Rattle.kb_codec.specs.declared.command.Command.{Command}
use Rattle.kb_codec.specs.declared.command.Command.TheVariants as kinds
use Rattle.kb_codec.specs.declared.command.Settle.{Settle}
use Rattle.kb_payment.specs.PaymentSums.{open_keys}
use Rattle.kb_book.specs.Books.{BookValue}
use Rattle.kb_book.specs.PaymentRows.{same_status}
use Rattle.kb_book.specs.declared.step.Step.{Step}
use Rattle.kb_book.specs.declared.step.Step.TheVariants as steps
use Rattle.kb_codec.specs.Entries.{Entry}
use Rattle.kb_machine.specs.Judged.{is_new}
use Rattle.kb_machine.specs.Machines.{MachineValue, judged, book_of}
use Rattle.kb_machine.specs.Histories.{replay}
use Rattle.kb_histories.proofs.SettledAttempts.{settlements_leave_others}
use Rattle.kb_lane.specs.Asking.{asked_for, asks_in, attempt_asked, AreApart}
use Rattle.kb_lane.specs.Lanes.{LaneValue, machine_of}
use Rattle.kb_lane.specs.Replies.{Takes}
use Rattle.kb_lane.specs.Draining.{Writes, Accepts}
use Rattle.kb_lane.specs.LookingUp.{open_in, is_ask, news, seen_status, resettled, LooksUp, Looked, EachDone}
use Rattle.kb_lane.proofs.Pairs.{pairs_back, pairs_head}
use Rattle.kb_lane.proofs.Rest.{next_item}
use Rattle.kb_machine.proofs.Replays.{replay_more}
use Rattle.kb_lane.specs.Private.Looking.{IsOpen, left_of, left_in, left_each}
use Rattle.kb_lane.proofs.Asking.{asks_append, settles_other}

-- a payment that is open is there
pub open_there : (found : Option Attempt) → IsOpen found → (attempt : Attempt) × (found ≡ Some attempt)
    × (is_open attempt.status ≡ true)
open_there None opened = absurd opened
open_there (Some attempt) opened = (attempt, refl, opened)

-- what a step that is done takes
pub done_takes : {D G : Type 0} (fault_count : D → ℕ) (old new : LaneValue D G) (entry : Entry) (step : Step)
    → Writes fault_count old new entry step → step ≡ steps.Done → Takes old new entry
done_takes fault_count old new entry steps.Idle writes done = elim writes [ ]
done_takes fault_count old new entry steps.Done writes done = writes
done_takes fault_count old new entry steps.DiskFault writes done = absurd (cc)
done_takes fault_count old new entry (steps.Stopped count) writes done = absurd (cc)
done_takes fault_count old new entry (steps.Full commands size) writes done = absurd (cc)
done_takes fault_count old new entry steps.NoMemory writes done = absurd (cc)

module _ {D G : Type 0} (old new : LaneValue D G) (today : ℕ) (payment : Asked) (status : Status) where
  abbrev the-settlement : Settle
  the-settlement = record { account = payment.account; payment = payment.key; status = status }

  -- a settlement leaves other payments as they were
  pub others_stay : Takes old new (
    today,
    kinds.Settle (record {
      account = payment.account;
      payment = payment.key;
      status = status;
    }),
  ) → is_new (judged (machine_of old) today (kinds.Settle (record {
    account = payment.account;
    payment = payment.key;
    status = status;
  }))) ≡ true → (one : Asked) → (payment ≡ one → ⊥)
      → attempt_asked (machine_of new) one ≡ attempt_asked (machine_of old) one
  others_stay takes is one other =
      ap (λ machine. attempt_asked machine one)
      (ap replay takes.history ∙ replay_more old.log.history (today, kinds.Settle the-settlement))
      ∙ settlements_leave_others (machine_of old) today the-settlement one.account one.key
      (settles_other payment.account payment.key status one other)

  -- and what is yet to be asked for
  pub asks_stay : Takes old new (
    today,
    kinds.Settle (record {
      account = payment.account;
      payment = payment.key;
      status = status;
    }),
  ) → asks_in new.outbox ≡ asks_in old.outbox
  asks_stay takes = ap asks_in takes.outbox ∙ asks_append old.outbox _ ∙ append-nil (asks_in old.outbox)

-- news are another status
pub news_differ : (present : Status) (answer : Result Seen Failed) (status : Status)
    → Some status ≡ news present answer → same_status present status ≡ false
news_differ present (Err failed) status is = absurd (none-some status (sym is))
news_differ present (Ok answer) status is =
    elim (cases_Bool (same_status present (seen_status answer))) [
      | inl same ↦ absurd (none-some status (sym (is ∙ told true same)))
      | inr other ↦ subst (λ it. same_status present it ≡ false) (sym (one (is ∙ told false other))) other
    ]
  where
    told : (same : Bool) → same_status present (seen_status answer) ≡ same
        → (if same_status present (seen_status answer) then None else Some (seen_status answer))
        ≡ (if same then None else Some (seen_status answer))
    told same is = ap (λ test. if test then None else Some (seen_status answer)) is

    one : Some status ≡ Some (seen_status answer) → status ≡ seen_status answer
    one same = cc

-- a lane that runs doesn't tell that it has stopped
module _ {D G : Type 0} (fault_count : D → ℕ) (gateways : GatewayTold G) (today : ℕ)
    (old new : LaneValue D G) (one : Asked) where
  accepts-running : (command : Option Command) (count : ℕ) → old.log.journal.stopped ≡ false
      → Accepts fault_count old new today command (steps.Stopped count) → ⊥
  accepts-running None count running accepts = absurd (let no = accepts.0 in cc)
  accepts-running (Some command) count running accepts = true≢false (sym accepts.0 ∙ running)

  pub looks_looked : (step : Step) → LooksUp fault_count gateways old new today one step
      → Looked fault_count gateways today old new one step
  looks_looked steps.Idle looks = looks
  looks_looked steps.Done looks = looks
  looks_looked steps.DiskFault looks = looks
  looks_looked (steps.Stopped count) looks =
      absurd (accepts-running (resettled one.account one.key looks.attempt.status looks.answer) count
      looks.running looks.settled)
  looks_looked (steps.Full commands size) looks = looks
  looks_looked steps.NoMemory looks = looks

pub all_taken : {A : Type 0} (items : List A) (place : ℕ) → length items ≤ place → take place items ≡ items
all_taken [] zero done = refl
all_taken [] (suc place) done = refl
all_taken (first ∷ later) zero done = absurd (omega (arith, done))
all_taken (first ∷ later) (suc place) done = ap (λ more. first ∷ more)
    (all_taken later place (omega (arith, done)))

-- what is done with an item goes before what is done with those behind it
module _ {L A : Type 0} (Handles : L → L → A → Step → Type 0) where
  pub each_then : (old between : L) (items : List A) (place : ℕ) (item : A) → place < length items
      → item ≡ get_or items place item → Handles old between item steps.Done → (new : L) (step : Step)
      → EachDone Handles between new (drop (place + 1) items) step
      → EachDone Handles old new (drop place items) step
  each_then old between items place item inside is done new step later =
      let further : place + 1 ≡ suc place = omega arith in
      subst (λ left. EachDone Handles old new left step) (sym (next_item items place item inside is))
      (inr (between, done, subst (λ from. EachDone Handles between new (drop from items) step) further later))

  -- and where it isn't done, it is the last
  pub each_ends : (old new : L) (items : List A) (place : ℕ) (item : A) → place < length items
      → item ≡ get_or items place item → (step : Step) → (step ≡ steps.Done → ⊥) → Handles old new item step
      → EachDone Handles old new (drop place items) step
  each_ends old new items place item inside is step ended done =
      subst (λ left. EachDone Handles old new left step) (sym (next_item items place item inside is))
      (inl (ended, done))

module _ (payments : List Asked) (place : ℕ) (item : Asked) (inside : place < length payments)
    (is : item ≡ get_or payments place item) (before : MachineValue)
    (opened : All (λ (one : Asked). IsOpen (attempt_asked before one)) (drop place payments)) where
  here : All (λ (one : Asked). IsOpen (attempt_asked before one)) (item ∷ drop (suc place) payments)
  here = subst (All (λ (one : Asked). IsOpen (attempt_asked before one)))
      (next_item payments place item inside is)
      opened

  -- the next payment is open
  pub front_open : IsOpen (attempt_asked before item)
  front_open = All-head (λ (one : Asked). IsOpen (attempt_asked before one)) item
      (drop (suc place) payments) here

  -- and those behind it stay so, if it is none of them
  pub later_open : (after : MachineValue) → AreApart payments
      → ((one : Asked) → (item ≡ one → ⊥) → attempt_asked after one ≡ attempt_asked before one)
      → All (λ (one : Asked). IsOpen (attempt_asked after one)) (drop (place + 1) payments)
  later_open after apart others =
      let further : suc place ≡ place + 1 = omega arith in
      let back : AreApart (drop place payments) =
      pairs_back (λ (one other : Asked). one ≡ other → ⊥) (take place payments) (drop place payments)
      (subst AreApart (sym (take-append-drop place payments)) apart) in
      let next : AreApart (item ∷ drop (suc place) payments) =
      subst AreApart (next_item payments place item inside is) back in
      subst (λ from. All (λ (one : Asked). IsOpen (attempt_asked after one)) (drop from payments)) further
      (λ k d within. subst IsOpen (sym (others (get_or (drop (suc place) payments) k d)
      (pairs_head (λ (one other : Asked). one ≡ other → ⊥) item (drop (suc place) payments) next k d within)))
      (All-tail (λ (one : Asked). IsOpen (attempt_asked before one)) item (drop (suc place) payments)
      here k d within))

-- what each item of a list adds, one after another
module _ {A B : Type 0} (one : A → List B) (each : List A → List B)
    (joins : (item : A) (later : List A) → each (item ∷ later) ≡ one item ++ each later) where
  pub each_on : (items : List A) (place : ℕ) (item : A) (before after all : List B) → place < length items
      → item ≡ get_or items place item → after ≡ before ++ one item → before ++ each (drop place items) ≡ all
      → after ++ each (drop (place + 1) items) ≡ all
  each_on items place item before after all inside is added kept =
      let next = next_item items place item inside is in
      let further : place + 1 ≡ suc place = omega arith in
      rw (further, added) (append_assoc before (one item) (each (drop (suc place) items))
      ∙ ap (λ more. before ++ more) (sym (joins item (drop (suc place) items)))
      ∙ ap (λ left. before ++ each left) (sym next) ∙ kept)

-- the payments that are left of each account are those that are to be looked up
module _ {D G : Type 0} (lane : LaneValue D G) where
  abbrev test : Asked → Bool
  test one = not (list_any (is_ask one) lane.outbox)

  abbrev found : List ℕ → List Asked
  found account = open_in account (book_of (machine_of lane) account)

  left-of : (account : List ℕ) (keys : List (List ℕ))
      → left_of lane account keys ≡ filter test (map (λ key. asked_for (account, key)) keys)
  left-of account [] = refl
  left-of account (key ∷ later) =
      elim (cases_Bool (list_any (is_ask (asked_for (account, key))) lane.outbox)) [
        | inl waits ↦ rw waits (left-of account later)
        | inr left ↦ rw left (ap (λ more. asked_for (account, key) ∷ more) (left-of account later))
      ]

  pub left_found : (account : List ℕ) (book : BookValue) → book_of (machine_of lane) account ≡ Some book
      → left_of lane account (open_keys book.payments) ≡ left_in lane account
  left_found account book there = rw there (left-of account (open_keys book.payments))

  pub left_none : (account : List ℕ) → book_of (machine_of lane) account ≡ None → [] ≡ left_in lane account
  left_none account none = rw none refl

  pub left_all : (names : List (List ℕ)) → left_each lane names ≡ filter test (flat_map found names)
  left_all [] = refl
  left_all (account ∷ later) =
      ap (λ more. left_in lane account ++ more) (left_all later)
      ∙ sym (filter-append test (found account) (flat_map found later))
