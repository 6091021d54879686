-- A step that is done takes work off a lane.
use Rattle.std.proofs.Common.{◌≡◌, ℕ, ◌+◌, ◌≤◌, ◌<◌, ◌^◌, arith, Bool, true, false, true≢false, ◌||◌}
use Rattle.std.proofs.Common.{bytes_eq, List, ◌∷◌, ◌++◌}
use Rattle.std.proofs.Common.{length, sum_by, Option, None, Some, Result, Ok, Err, refl, sym, ap, subst, ◌∙◌}
use Rattle.std.proofs.lemmas.Option.{none-some}
use Rattle.std.proofs.lemmas.List.Folds.{list_any-append}
use Rattle.std.proofs.lemmas.List.Sums.{sum_by-append, sum_by-cons}
use Rattle.std.proofs.lemmas.Slice.Eq.{bytes_eq-Decides}
use Rattle.kb_base.specs.declared.fault.Failed.{Failed}
use Rattle.kb_days.specs.Calendar.{last_day}
use Rattle.kb_gateway.specs.declared.told.Told.{Told}
use Rattle.kb_gateway.specs.declared.told.Told.TheVariants as told
use Rattle.kb_gateway.specs.Told.{GatewayTold}
use Rattle.kb_codec.specs.declared.command.Command.{Command}
use Rattle.kb_codec.specs.declared.command.Command.TheVariants as kinds
use Rattle.kb_codec.specs.declared.action.Action.TheVariants as actions
use Rattle.kb_payment.specs.declared.attempt.Status.{Status}
use Rattle.kb_payment.specs.declared.attempt.Status.TheVariants as status
use Rattle.kb_book.specs.Books.{BookValue}
use Rattle.kb_book.specs.NextDues.{next_due}
use Rattle.kb_book.specs.declared.step.Step.{Step}
use Rattle.kb_book.specs.declared.step.Step.TheVariants as steps
use Rattle.kb_machine.specs.Machines.{book_of}
use Rattle.kb_codec.specs.Senders.{account_of}
use Rattle.kb_machine.specs.Histories.{replay, entry_after}
use Rattle.kb_histories.specs.Names.{AreNamed}
use Rattle.kb_histories.proofs.DueNews.{due_commands_are_named}
use Rattle.kb_histories.proofs.KeyedBooks.{replays_are_keyed}
use Rattle.kb_histories.proofs.NamedBooks.{replays_are_named}
use Rattle.kb_histories.specs.OwnWork.{all_work, work_left}
use Rattle.kb_histories.proofs.BilledBooks.{replays_are_billed}
use Rattle.kb_histories.proofs.NamedSums.{fewer_names_have_no_more}
use Rattle.kb_histories.proofs.SettlementWork.{settlements_add_no_work}
use Rattle.kb_histories.proofs.TakenWork.{due_commands_take_work}
use Rattle.kb_machine.proofs.Replays.{replay_more}
use Rattle.kb_lane.specs.declared.work.Work.{Work}
use Rattle.kb_lane.specs.declared.work.Work.TheVariants.{Ask, Check}
use Rattle.kb_lane.specs.Outbox.{work_of}
use Rattle.kb_lane.specs.Lanes.{LaneValue, machine_of}
use Rattle.kb_lane.specs.Replies.{Takes}
use Rattle.kb_lane.specs.Orders.{settled_by}
use Rattle.kb_lane.specs.Draining.{due_in, due_of, with_outbox, Looks, Orders, Asks, Accepts}
use Rattle.kb_lane.specs.LaneWork.{entry_work, account_in, is_named, lane_work}

-- what a command leaves to do takes as many steps
pub left-work : (today : ℕ) (command : Command)
    → sum_by entry_work (work_of (today, command)) ≡ work_left command
left-work today (kinds.Catalog c) = refl
left-work today (kinds.OverdueRules c) = refl
left-work today (kinds.Act account key (actions.Pay c)) = refl
left-work today (kinds.Act account key (actions.Refund c)) = refl
left-work today (kinds.Auto c) = refl
left-work today command = refl

-- it is for the account of the command
left-named : (today : ℕ) (command : Command) (account : List ℕ)
    → is_named (work_of (today, command)) account ≡ true
    → bytes_eq account (account_of command) ≡ true
left-named today (kinds.Catalog c) account is = absurd (true≢false (sym is))
left-named today (kinds.OverdueRules c) account is = absurd (true≢false (sym is))
left-named today (kinds.Act whose key (actions.Pay c)) account is = either (bytes_eq account whose) is
  where
    either : (b : Bool) → (b || (b || false)) ≡ true → b ≡ true
    either true is = refl
    either false is = is
left-named today (kinds.Act whose key (actions.Refund c)) account is = either (bytes_eq account whose) is
  where
    either : (b : Bool) → (b || (b || false)) ≡ true → b ≡ true
    either true is = refl
    either false is = is
left-named today (kinds.Auto c) account is = either (bytes_eq account c.account) is
  where
    either : (b : Bool) → (b || (b || false)) ≡ true → b ≡ true
    either true is = refl
    either false is = is
left-named today command account is = either (bytes_eq account (account_of command)) is
  where
    either : (b : Bool) → (b || false) ≡ true → b ≡ true
    either true is = refl
    either false is = is

-- what an outbox names: the accounts of its front, of what is behind it, and of what a command left
or-right : (one other : Bool) → other ≡ true → (one || other) ≡ true
or-right true other is = refl
or-right false other is = is

or-cases : (one other : Bool) (P : Type 0) → (one ≡ true → P) → (other ≡ true → P) → (one || other) ≡ true → P
or-cases true other P first second is = first refl
or-cases false other P first second is = second is

module _ (front : Work) (later : List Work) (account : List ℕ) where
  pub later-named : is_named later account ≡ true → is_named (front ∷ later) account ≡ true
  later-named is = or-right (bytes_eq account (account_in front)) (is_named later account) is

  pub after-named : (today : ℕ) (command : Command) → account_of command ≡ account_in front
      → is_named (later ++ work_of (today, command)) account ≡ true → is_named (front ∷ later) account ≡ true
  after-named today command same is =
      or-cases (is_named later account) (is_named (work_of (today, command)) account)
      (is_named (front ∷ later) account ≡ true) later-named at-front
      (sym (list_any-append (λ entry. bytes_eq account (account_in entry)) later (work_of (today, command)))
      ∙ is)
    where
      at-front : is_named (work_of (today, command)) account ≡ true → is_named (front ∷ later) account ≡ true
      at-front left =
          let own : bytes_eq account (account_in front) ≡ true
          = subst (λ name. bytes_eq account name ≡ true) same (left-named today command account left) in
          rw own refl

module _ {D G : Type 0} (old new : LaneValue D G) (today : ℕ) (front : Work) (later : List Work)
    (first : old.outbox ≡ front ∷ later) where
  pub front-work : sum_by entry_work old.outbox ≡ entry_work front + sum_by entry_work later
  front-work = ap (λ outbox. sum_by entry_work outbox) first ∙ sum_by-cons entry_work front later

  -- the front is off, and nothing is written down
  dropped-less : 1 ≤ entry_work front → new.log ≡ old.log → new.outbox ≡ later
      → lane_work today new < lane_work today old
  dropped-less some log rest =
      let fewer : all_work (is_named later) today (machine_of old)
      ≤ all_work (is_named old.outbox) today (machine_of old)
      = subst (λ outbox. all_work (is_named later) today (machine_of old)
      ≤ all_work (is_named outbox) today (machine_of old))
      (sym first)
      (fewer_names_have_no_more (machine_of old) today (is_named later) (is_named (front ∷ later))
      (λ account is. later-named front later account is)) in
      rw (log, rest) (less _ _ _ _ _ front-work some fewer)
    where
      less : (entries front rest work left : ℕ) → entries ≡ front + rest → 1 ≤ front → left ≤ work
          → rest + left < entries + work
      less entries front rest work left parts some fewer = omega (arith, parts, some, fewer)

  -- the front is off, and a command for its account is written down, which takes work off
  taken-less : (command : Command) → account_of command ≡ account_in front
      → Takes (with_outbox old later) new (today, command)
      → all_work (is_named old.outbox) today (entry_after (machine_of old) (today, command)) +
      work_left command
      < all_work (is_named old.outbox) today (machine_of old) + entry_work front
      → lane_work today new < lane_work today old
  taken-less command same takes less =
      let after : machine_of new ≡ entry_after (machine_of old) (today, command)
      = ap replay takes.history ∙ replay_more old.log.history (today, command) in
      let entries : sum_by entry_work new.outbox ≡ sum_by entry_work later + work_left command
      = ap (λ outbox. sum_by entry_work outbox) takes.outbox
      ∙ sum_by-append entry_work later (work_of (today, command))
      ∙ ap (λ steps. sum_by entry_work later + steps) (left-work today command) in
      let fewer : all_work (is_named new.outbox) today (machine_of new)
      ≤ all_work (is_named old.outbox) today (entry_after (machine_of old) (today, command))
      = rw (after, takes.outbox, first) (fewer_names_have_no_more
      (entry_after (machine_of old) (today, command)) today
      (is_named (later ++ work_of (today, command))) (is_named (front ∷ later))
      (λ account is. after-named front later account today command same is)) in
      lower _ _ _ _ _ _ _ _ front-work entries fewer less
    where
      lower : (entries front rest now left names_now names_after names_before : ℕ) → entries ≡ front + rest
          → now ≡ rest + left → names_now ≤ names_after → names_after + left < names_before + front
          → now + names_now < entries + names_before
      lower entries front rest now left names_now names_after names_before parts grown fewer less =
          omega (arith, parts, grown, fewer, less)

-- the command that settles a payment by an answer is its settlement to a status
pub settled-is : (account key : List ℕ) (answer : Result Told Failed) (command : Command)
    → settled_by account key answer ≡ Some command
    → (to : Status) × (kinds.Settle (record { account = account; payment = key; status = to }) ≡ command)
settled-is account key (Ok told.Processed) command is = (status.Success, cc)
settled-is account key (Ok told.Pending) command is = (status.Pending, cc)
settled-is account key (Ok told.Error) command is = (status.PaymentFailure, cc)
settled-is account key (Ok told.Canceled) command is = (status.PluginFailure, cc)
settled-is account key (Ok told.Undefined) command is = absurd (none-some command is)
settled-is account key (Err failed) command is = absurd (none-some command is)

module _ {D G : Type 0} (fault_count : D → ℕ) (gateways : GatewayTold G) (old new : LaneValue D G)
    (today : ℕ) (last : today ≤ last_day)
    (few : length old.log.history < 2 ^ 64) where
  looks-take : (account : List ℕ) (later : List Work) → old.outbox ≡ Check account ∷ later
      → Looks fault_count old new today (Check account) later
      (due_of (machine_of old) today account) steps.Done
      → lane_work today new < lane_work today old
  looks-take account later first looks = by_book (book_of (machine_of old) account) refl looks
    where
      by_due : (book : BookValue) (due : Option Command) → book_of (machine_of old) account ≡ Some book
          → next_due (machine_of old).texts.world book today ≡ due
          → Looks fault_count old new today (Check account) later due steps.Done
          → lane_work today new < lane_work today old
      by_due book None there next looks =
          dropped-less old new today (Check account) later first (omega arith) (ap (λ lane. lane.log) looks.1)
          (ap (λ lane. lane.outbox) looks.1)
      by_due book (Some command) there next looks =
          let machine = machine_of old in
          let own : AreNamed machine = replays_are_named old.log.history in
          let named : is_named old.outbox account ≡ true =
          rw (first, (bytes_eq-Decides account account).1 refl) refl in
          taken-less old new today (Check account) later first command
          (due_commands_are_named machine today account book command own there next) looks.0
          (taken _ _ _ (due_commands_take_work machine today (is_named old.outbox) account book command own
          (replays_are_keyed old.log.history few) (replays_are_billed old.log.history) last named there next))
        where
          taken : (after left before : ℕ) → after + left ≤ before → after + left < before + 1
          taken after left before less = omega (arith, less)

      by_book : (found : Option BookValue) → book_of (machine_of old) account ≡ found
          → Looks fault_count old new today (Check account) later
          (due_in (machine_of old) today found) steps.Done
          → lane_work today new < lane_work today old
      by_book None there looks =
          dropped-less old new today (Check account) later first (omega arith) (ap (λ lane. lane.log) looks.1)
          (ap (λ lane. lane.outbox) looks.1)
      by_book (Some book) there looks =
          by_due book (next_due (machine_of old).texts.world book today) there refl looks

  asks-take : (account key : List ℕ) (later : List Work) → old.outbox ≡ Ask account key ∷ later
      → Asks fault_count gateways old new today account key later steps.Done
      → lane_work today new < lane_work today old
  asks-take account key later first asks = by_answer (settled_by account key asks.answer) refl asks.settled
    where
      by_answer : (command : Option Command) → settled_by account key asks.answer ≡ command
          → Accepts fault_count (with_outbox old later) new today command steps.Done
          → lane_work today new < lane_work today old
      by_answer None is settles =
          dropped-less old new today (Ask account key) later first (omega arith) settles.1.0 settles.1.1
      by_answer (Some command) is settles =
          let settled = settled-is account key asks.answer command is in
          let P : Command → Type 0 = λ it. Takes (with_outbox old later) new (today, it) in
          taken-less old new today (Ask account key) later first
          (kinds.Settle (record { account = account; payment = key; status = settled.0 })) refl
          (subst P (sym settled.1) settles)
          (taken _ _ (settlements_add_no_work (machine_of old) today (is_named old.outbox) _
          (replays_are_billed old.log.history)))
        where
          taken : (after before : ℕ) → after ≤ before → after + 1 < before + 2
          taken after before less = omega (arith, less)

  -- what stands at the front of the outbox is handled, and the step is done
  pub front_takes_work : (work : Work) (later : List Work) (step : Step) → old.outbox ≡ work ∷ later
      → ((account : List ℕ) (later : List Work) → old.outbox ≡ Check account ∷ later
      → Looks fault_count old new today (Check account) later (due_of (machine_of old) today account) step)
      → ((account key : List ℕ) (later : List Work) → old.outbox ≡ Ask account key ∷ later
      → Orders fault_count gateways old new today account key later step)
      → step ≡ steps.Done → lane_work today new < lane_work today old
  front_takes_work (Check account) later step first looks orders done =
      let P : Step → Type 0
      = λ it. Looks fault_count old new today (Check account) later
      (due_of (machine_of old) today account) it in
      looks-take account later first (subst P done (looks account later first))
  front_takes_work (Ask account key) later step first looks orders done =
      let P : Step → Type 0 = λ it. Orders fault_count gateways old new today account key later it in
      asks-take account key later first (subst P done (orders account key later first))
