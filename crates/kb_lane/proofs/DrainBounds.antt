-- The entries of an outbox that are handled are bounded by the invoices that there are at the end.
use Rattle.std.proofs.Common.{◌≡◌, ℕ, zero, suc, ◌+◌, ◌*◌, ◌≤◌, ◌<◌, ◌^◌, arith, Bool, true, List, [], ◌∷◌}
use Rattle.std.proofs.Common.{length, sum_by, Option, None, Some, refl, sym, ap, subst, ◌∙◌, length-append}
use Rattle.std.proofs.lemmas.List.Sums.{sum_by-append}
use Rattle.std.proofs.lemmas.Slice.Eq.{bytes_eq-Decides}
use Rattle.kb_days.specs.Calendar.{last_day}
use Rattle.kb_gateway.specs.Told.{GatewayTold}
use Rattle.kb_codec.specs.declared.command.Command.{Command}
use Rattle.kb_codec.specs.declared.command.Command.TheVariants as kinds
use Rattle.kb_codec.specs.Entries.{Entry}
use Rattle.kb_codec.specs.Senders.{account_of}
use Rattle.kb_book.specs.Books.{BookValue}
use Rattle.kb_book.specs.NextDues.{next_due}
use Rattle.kb_book.specs.declared.step.Step.{Step}
use Rattle.kb_book.specs.declared.step.Step.TheVariants as steps
use Rattle.kb_machine.specs.Machines.{book_of}
use Rattle.kb_machine.specs.Histories.{replay, entry_after}
use Rattle.kb_machine.proofs.Replays.{replay_more}
use Rattle.kb_histories.specs.Names.{AreNamed}
use Rattle.kb_histories.specs.OwnWork.{work_left}
use Rattle.kb_histories.specs.NamedWork.{named_invoices}
use Rattle.kb_histories.specs.WorkAtHand.{all_at_hand}
use Rattle.kb_histories.proofs.BilledBooks.{replays_are_billed}
use Rattle.kb_histories.proofs.DueNews.{due_commands_are_named}
use Rattle.kb_histories.proofs.KeyedBooks.{replays_are_keyed}
use Rattle.kb_histories.proofs.NamedBooks.{replays_are_named}
use Rattle.kb_histories.proofs.WorkAtHand.{due_commands_take_at_hand, settlements_add_invoices}
use Rattle.kb_histories.proofs.WorkAtHand.{at_hand_is_bounded}
use Rattle.kb_lane.specs.declared.work.Work.{Work}
use Rattle.kb_lane.specs.declared.work.Work.TheVariants.{Ask, Check}
use Rattle.kb_lane.specs.Outbox.{work_of}
use Rattle.kb_lane.specs.Lanes.{LaneValue, machine_of}
use Rattle.kb_lane.specs.Replies.{Takes}
use Rattle.kb_lane.specs.Orders.{settled_by}
use Rattle.kb_lane.specs.Draining.{due_in, due_of, with_outbox, works_after, Writes, Looks, Orders, Asks}
use Rattle.kb_lane.specs.Draining.{Accepts}
use Rattle.kb_lane.specs.LaneWork.{entry_work, account_in, is_named}
use Rattle.kb_lane.specs.Drains.{Handles, HandlesFront, EndsAfter}
use Rattle.kb_lane.specs.DrainBounds.{DrainsAreBounded}
use Rattle.kb_lane.proofs.LaneWork.{left-work, later-named, after-named, front-work, settled-is}
use Rattle.kb_lane.proofs.WorkBounds.{entries-few}

-- a step that isn't done leaves the history as it is
module _ {D G : Type 0} (fault_count : D → ℕ) (new : LaneValue D G) where
  writes-left : (old : LaneValue D G) (entry : Entry) (step : Step) → (step ≡ steps.Done → ⊥)
      → Writes fault_count old new entry step → new.log.history ≡ old.log.history
  writes-left old entry steps.Idle undone writes = elim writes [ ]
  writes-left old entry steps.Done undone writes = absurd (undone refl)
  writes-left old entry steps.DiskFault undone writes = writes.history
  writes-left old entry (steps.Stopped count) undone writes = ap (λ log. log.history) writes.2.0
  writes-left old entry (steps.Full commands size) undone writes = ap (λ log. log.history) writes.4.0
  writes-left old entry steps.NoMemory undone writes = ap (λ log. log.history) writes.0

  module _ (gateways : GatewayTold G) (today : ℕ) (old : LaneValue D G) where
    looks-left : (front : Work) (later : List Work) (due : Option Command) (step : Step)
        → (step ≡ steps.Done → ⊥) → Looks fault_count old new today front later due step
        → new.log.history ≡ old.log.history
    looks-left front later None step undone looks = absurd (undone looks.0)
    looks-left front later (Some command) step undone looks =
        writes-left (with_outbox old (works_after step front later)) (today, command) step undone looks.0

    accepts-left : (later : List Work) (command : Option Command) (step : Step) → (step ≡ steps.Done → ⊥)
        → Accepts fault_count (with_outbox old later) new today command step
        → new.log.history ≡ old.log.history
    accepts-left later None step undone accepts = absurd (undone accepts.0)
    accepts-left later (Some command) step undone accepts =
        writes-left (with_outbox old later) (today, command) step undone accepts

    module _ (account key : List ℕ) (later : List Work) where
      asks-left : (step : Step) → (step ≡ steps.Done → ⊥)
          → Asks fault_count gateways old new today account key later step
          → new.log.history ≡ old.log.history
      asks-left step undone asks =
          accepts-left later (settled_by account key asks.answer) step undone asks.settled

      orders-left : (step : Step) → (step ≡ steps.Done → ⊥)
          → Orders fault_count gateways old new today account key later step
          → new.log.history ≡ old.log.history
      orders-left (steps.Stopped count) undone orders = ap (λ lane. lane.log.history) orders.2
      orders-left steps.NoMemory undone orders = ap (λ lane. lane.log.history) orders
      orders-left steps.Idle undone orders = asks-left steps.Idle undone orders
      orders-left steps.Done undone orders = absurd (undone refl)
      orders-left steps.DiskFault undone orders = asks-left steps.DiskFault undone orders
      orders-left (steps.Full commands size) undone orders =
          asks-left (steps.Full commands size) undone orders

    front-left : (outbox : List Work) (step : Step) → (step ≡ steps.Done → ⊥)
        → HandlesFront fault_count gateways today outbox old new step
        → new.log.history ≡ old.log.history
    front-left [] step undone handles = ap (λ lane. lane.log.history) handles.1
    front-left (Check account ∷ later) step undone handles =
        looks-left (Check account) later (due_of (machine_of old) today account) step undone handles
    front-left (Ask account key ∷ later) step undone handles =
        orders-left account key later step undone handles

module _ {D G : Type 0} (today : ℕ) (named : List ℕ → Bool) where
  -- the work of a lane that is at hand, and the invoices, of the accounts that are counted
  abbrev work : LaneValue D G → ℕ
  work lane = sum_by entry_work lane.outbox + all_at_hand named today (machine_of lane)

  abbrev invoices : LaneValue D G → ℕ
  invoices lane = named_invoices named (machine_of lane)

  -- its outbox names no others
  abbrev AreCounted : LaneValue D G → Type 0
  AreCounted lane = (account : List ℕ) → is_named lane.outbox account ≡ true → named account ≡ true

  -- a step that is done takes work off, except 3 for an invoice that is issued
  record Pays (old new : LaneValue D G) : Type 0 where
    pub counted : AreCounted new
    pub longer : length old.log.history ≤ length new.log.history
    pub less : length old.log.history < 2 ^ 64 → work new + 1 + 3 * invoices old ≤ work old + 3 * invoices new

  module _ (old new : LaneValue D G) (front : Work) (later : List Work) (first : old.outbox ≡ front ∷ later)
      (counted : AreCounted old) where
    front-counted : (account : List ℕ) → is_named (front ∷ later) account ≡ true → named account ≡ true
    front-counted account is = counted account (ap (λ outbox. is_named outbox account) first ∙ is)

    -- the front is off, and nothing is written down
    dropped-pays : 1 ≤ entry_work front → new.log.history ≡ old.log.history → new.outbox ≡ later
        → Pays old new
    dropped-pays some same rest = record {
      counted =
          λ account is. front-counted account
          (later-named front later account (ap (λ outbox. is_named outbox account) (sym rest) ∙ is));
      longer = omega (arith, ap length same);
      less =
          λ few. dropped-sum _ _ _ _ _ _ _ _ (front-work old new today front later first)
          (ap (λ outbox. sum_by entry_work outbox) rest)
          (ap (λ history. all_at_hand named today (replay history)) same)
          (ap (λ history. named_invoices named (replay history)) same) some;
    }
      where
        dropped-sum : (before front rest now hand_new hand_old rows_new rows_old : ℕ)
            → before ≡ front + rest → now ≡ rest → hand_new ≡ hand_old → rows_new ≡ rows_old → 1 ≤ front
            → now + hand_new + 1 + 3 * rows_old ≤ before + hand_old + 3 * rows_new
        dropped-sum before front rest now hand_new hand_old rows_new rows_old a b c d some =
            omega (arith, a, b, c, d, some)

    -- the front is off, and a command for its account is written down
    taken-pays : (command : Command) → account_of command ≡ account_in front
        → Takes (with_outbox old later) new (today, command)
        → (length old.log.history < 2 ^ 64
        → all_at_hand named today (entry_after (machine_of old) (today, command)) + work_left command + 1
        + 3 * named_invoices named (machine_of old)
        ≤ all_at_hand named today (machine_of old) + entry_work front
        + 3 * named_invoices named (entry_after (machine_of old) (today, command)))
        → Pays old new
    taken-pays command same takes less =
        let after : machine_of new ≡ entry_after (machine_of old) (today, command)
        = ap replay takes.history ∙ replay_more old.log.history (today, command) in
        let entries : sum_by entry_work new.outbox ≡ sum_by entry_work later + work_left command
        = ap (λ outbox. sum_by entry_work outbox) takes.outbox
        ∙ sum_by-append entry_work later (work_of (today, command))
        ∙ ap (λ steps. sum_by entry_work later + steps) (left-work today command) in
        record {
          counted =
              λ account is. front-counted account
              (after-named front later account today command same
              (ap (λ outbox. is_named outbox account) (sym takes.outbox) ∙ is));
          longer = more-entries _ _ _ (ap length takes.history ∙ length-append old.log.history _);
          less =
              λ few. taken-sum _ _ _ _ _ _ _ _ _ _ _ (front-work old new today front later first) entries
              (ap (all_at_hand named today) after) (ap (named_invoices named) after) (less few);
        }
      where
        more-entries : (now before more : ℕ) → now ≡ before + more → before ≤ now
        more-entries now before more is = omega (arith, is)

        taken-sum : (before front rest now left hand_now hand_after hand_before rows_now rows_after : ℕ)
            (rows_before : ℕ) → before ≡ front + rest → now ≡ rest + left → hand_now ≡ hand_after
            → rows_now ≡ rows_after
            → hand_after + left + 1 + 3 * rows_before ≤ hand_before + front + 3 * rows_after
            → now + hand_now + 1 + 3 * rows_before ≤ before + hand_before + 3 * rows_now
        taken-sum before front rest now left hand_now hand_after hand_before rows_now rows_after rows_before
            a b c d less =
            omega (arith, a, b, c, d, less)

  module _ (fault_count : D → ℕ) (gateways : GatewayTold G) (last : today ≤ last_day) where
    module _ (old new : LaneValue D G) (counted : AreCounted old) where
      looks-pay : (account : List ℕ) (later : List Work) → old.outbox ≡ Check account ∷ later
          → Looks fault_count old new today (Check account) later (due_of (machine_of old) today account)
          steps.Done
          → Pays old new
      looks-pay account later first looks = by_book (book_of (machine_of old) account) refl looks
        where
          dropped : new ≡ with_outbox old later → Pays old new
          dropped same =
              dropped-pays old new (Check account) later first counted (omega arith)
              (ap (λ lane. lane.log.history) same) (ap (λ lane. lane.outbox) same)

          by_due : (book : BookValue) (due : Option Command) → book_of (machine_of old) account ≡ Some book
              → next_due (machine_of old).texts.world book today ≡ due
              → Looks fault_count old new today (Check account) later due steps.Done
              → Pays old new
          by_due book None there next looks = dropped looks.1
          by_due book (Some command) there next looks =
              let machine = machine_of old in
              let own : AreNamed machine = replays_are_named old.log.history in
              let named_here : is_named old.outbox account ≡ true =
              rw (first, (bytes_eq-Decides account account).1 refl) refl in
              taken-pays old new (Check account) later first counted command
              (due_commands_are_named machine today account book command own there next) looks.0
              (λ few. look-sum _ _ _ _ _
              (due_commands_take_at_hand machine today named account book command own
              (replays_are_keyed old.log.history few) (replays_are_billed old.log.history) last
              (counted account named_here) there next))
            where
              look-sum : (after left before rows rows_after : ℕ)
                  → after + left + 3 * rows ≤ before + 3 * rows_after
                  → after + left + 1 + 3 * rows ≤ before + 1 + 3 * rows_after
              look-sum after left before rows rows_after less = omega (arith, less)

          by_book : (found : Option BookValue) → book_of (machine_of old) account ≡ found
              → Looks fault_count old new today (Check account) later
              (due_in (machine_of old) today found) steps.Done
              → Pays old new
          by_book None there looks = dropped looks.1
          by_book (Some book) there looks =
              by_due book (next_due (machine_of old).texts.world book today) there refl looks

      asks-pay : (account key : List ℕ) (later : List Work) → old.outbox ≡ Ask account key ∷ later
          → Asks fault_count gateways old new today account key later steps.Done → Pays old new
      asks-pay account key later first asks =
          by_answer (settled_by account key asks.answer) refl asks.settled
        where
          by_answer : (command : Option Command) → settled_by account key asks.answer ≡ command
              → Accepts fault_count (with_outbox old later) new today command steps.Done
              → Pays old new
          by_answer None is settles =
              dropped-pays old new (Ask account key) later first counted (omega arith)
              (ap (λ log. log.history) settles.1.0) settles.1.1
          by_answer (Some command) is settles =
              let settled = settled-is account key asks.answer command is in
              let P : Command → Type 0 = λ it. Takes (with_outbox old later) new (today, it) in
              taken-pays old new (Ask account key) later first counted
              (kinds.Settle (record { account = account; payment = key; status = settled.0 })) refl
              (subst P (sym settled.1) settles)
              (λ few. ask-sum _ _ _ _
              (settlements_add_invoices (machine_of old) today named _ (replays_are_billed old.log.history)))
            where
              ask-sum : (after before rows rows_after : ℕ) → after + 3 * rows ≤ before + 3 * rows_after
                  → after + 1 + 1 + 3 * rows ≤ before + 2 + 3 * rows_after
              ask-sum after before rows rows_after less = omega (arith, less)

      -- what stands at the front of the outbox is handled
      front-pays : (outbox : List Work) → old.outbox ≡ outbox
          → HandlesFront fault_count gateways today outbox old new steps.Done → Pays old new
      front-pays [] is handles = absurd (let no = handles.0 in cc)
      front-pays (Check account ∷ later) is handles = looks-pay account later is handles
      front-pays (Ask account key ∷ later) is handles = asks-pay account key later is handles

    -- to the end
    ends-paid : (count : ℕ) (old new : LaneValue D G) (step : Step) → AreCounted old
        → length new.log.history < 2 ^ 64 → EndsAfter (Handles fault_count gateways today) count old new step
        → (length old.log.history ≤ length new.log.history)
        × (count + 3 * invoices old ≤ work old + 3 * invoices new)
    ends-paid zero old new step counted few ends =
        let same = front-left fault_count new gateways today old old.outbox step ends.0 ends.1 in (
          omega (arith, ap length same),
          none-sum _ _ (work old) (ap (λ history. named_invoices named (replay history)) same),
        )
      where
        none-sum : (new old work : ℕ) → new ≡ old → 0 + 3 * old ≤ work + 3 * new
        none-sum new old work same = omega (arith, same)
    ends-paid (suc count) old new step counted few ends =
        let pays = front-pays old ends.0 counted old.outbox refl ends.1 in
        let later = ends-paid count ends.0 new step pays.counted few ends.2 in (
          omega (arith, pays.longer, later.0),
          one-more _ _ _ _ _ _ (pays.less (fewer _ _ _ _ pays.longer later.0 few)) later.1,
        )
      where
        fewer : (old between new limit : ℕ) → old ≤ between → between ≤ new → new < limit → old < limit
        fewer old between new limit one other few = omega (arith, one, other, few)

        one-more : (count old between new work_old work_between : ℕ)
            → work_between + 1 + 3 * old ≤ work_old + 3 * between
            → count + 3 * between ≤ work_between + 3 * new → suc count + 3 * old ≤ work_old + 3 * new
        one-more count old between new work_old work_between one later = omega (arith, one, later)

pub drains_are_bounded : {D G : Type 0} (fault_count : D → ℕ) (gateways : GatewayTold G)
    → DrainsAreBounded fault_count gateways
drains_are_bounded fault_count gateways today count old new step last few ends =
    all-sum _ _ _ _ _ _ _
    (ends-paid today (is_named old.outbox) fault_count gateways last count old new step (λ account is. is) few
    ends).1
    (entries-few old.outbox) (at_hand_is_bounded (machine_of old) today (is_named old.outbox))
  where
    all-sum : (count entries hand waiting accounts old new : ℕ)
        → count + 3 * old ≤ entries + hand + 3 * new → entries ≤ 2 * waiting → hand ≤ accounts + 3 * old
        → count ≤ 2 * waiting + accounts + 3 * new
    all-sum count entries hand waiting accounts old new all few bounded = omega (arith, all, few, bounded)
