-- What always holds of a lane, after a command.
use Rattle.std.proofs.Common.{◌≡◌, ℕ, ◌≤◌, ◌<◌, ◌^◌, arith, List, [], ◌∷◌, ◌++◌, length, take, map, Option}
use Rattle.std.proofs.Common.{IsSome, refl, sym, ap, subst, ◌∙◌}
use Rattle.std.proofs.lemmas.List.{length-append, map-append}
use Rattle.std.proofs.lemmas.Grind.{common_steps}
use Rattle.std.proofs.lemmas.List.Elements.{All-head}
use Rattle.kb_days.specs.Calendar.{last_day}
use Rattle.kb_gateway.specs.declared.order.Asked.{Asked}
use Rattle.kb_ports.specs.Notes.{Notes}
use Rattle.kb_payment.specs.declared.attempt.Status.{Status}
use Rattle.kb_codec.specs.declared.command.Command.{Command}
use Rattle.kb_codec.specs.declared.command.Command.TheVariants as kinds
use Rattle.kb_book.specs.declared.reply.LaneReply.{LaneReply}
use Rattle.kb_codec.specs.Entries.{History}
use Rattle.kb_lane.specs.Logs.{LogValue}
use Rattle.kb_machine.specs.Judged.{New}
use Rattle.kb_machine.specs.Machines.{MachineValue, no_machine, judged}
use Rattle.kb_machine.specs.Histories.{replay, entry_after, AreNewFrom}
use Rattle.kb_machine.proofs.Replays.{replay_new, fresh_new}
use Rattle.kb_histories.proofs.KeyedBooks.{replays_are_keyed}
use Rattle.kb_lane.specs.declared.work.Work.{Work}
use Rattle.kb_lane.specs.Outbox.{work_of}
use Rattle.kb_lane.specs.declared.work.Work.TheVariants.{Ask, Check}
use Rattle.kb_lane.specs.Asking.{asked_for, asks_in, attempt_asked, IsBegun}
use Rattle.kb_lane.specs.Lanes.{LaneValue, IsLane, machine_of, opened_of}
use Rattle.kb_lane.specs.Orders.{order_of}
use Rattle.kb_lane.specs.Private.Runs.{SettlesNone}
use Rattle.kb_lane.proofs.Settling.{order_there}
use Rattle.kb_lane.proofs.Asking.{asks_grow, asks_append, none_asked, ends_anyhow, asked_once, ends_note}
use Rattle.kb_lane.proofs.Asking.{settles_apart, first_apart, begun_there}

-- the first commands are the same with one more at the end
take-more : (count : ℕ) (history : History) (more : History) → count ≤ length history
    → take count (history ++ more) ≡ take count history
take-more count history more early = grind (arith, common_steps)

take-whole : (count : ℕ) (history : History) → count ≡ length history → take count history ≡ history
take-whole count history whole = grind (arith, common_steps)

-- a lane that is new, or was just opened
module _ {D G : Type 0} (told : G → Option (List Asked)) (machine : MachineValue) (log : LogValue D)
    (outbox : List Work) (gateway : G) (own : List Asked) where
  pub lane_opened : machine ≡ replay log.history → AreNewFrom no_machine log.history
      → log.opened ≡ length log.history → outbox ≡ [] → own ≡ []
      → IsLane told machine (record { log = log; outbox = outbox; gateway = gateway; own = own })
  lane_opened led fresh opened none nothing =
      let all : replay (take log.opened log.history) ≡ replay log.history =
      ap replay (take-whole log.opened log.history opened) in
      record {
        replayed = led;
        fresh = fresh;
        early = omega (arith, opened);
        once = rw (none, nothing, all) (none_asked (replay log.history));
        told = rw nothing (ends_anyhow (told gateway));
      }

module _ {D G : Type 0} (told : G → Option (List Asked)) (machine : MachineValue) (old : LaneValue D G)
    (log : LogValue D)
    (kept : IsLane told machine old) (opened : log.opened ≡ old.log.opened) where
  -- the history is as it was
  pub lane_stays : log.history ≡ old.log.history → IsLane told machine (record old { log = log })
  lane_stays same = record {
    replayed = kept.replayed ∙ ap replay (sym same);
    fresh = subst (AreNewFrom no_machine) (sym same) kept.fresh;
    early = rw (opened, same) kept.early;
    once = rw (opened, same) kept.once;
    told = kept.told;
  }

  -- a new command is taken
  pub lane_grows : (today : ℕ) (command : Command) (reply : LaneReply) (after : MachineValue)
      (now : MachineValue) (outbox : List Work)
      → judged (machine_of old) today command ≡ New reply after → now ≡ after → today ≤ last_day
      → length old.log.history < 2 ^ 32 → SettlesNone command old.outbox
      → log.history ≡ old.log.history ++ (today, command) ∷ []
      → outbox ≡ old.outbox ++ work_of (today, command)
      → IsLane told now (record old { log = log; outbox = outbox })
  lane_grows today command reply after now outbox new is last few free grown works =
      let led : replay log.history ≡ after
      = ap replay grown ∙ replay_new old.log.history today command reply after new in
      let same : entry_after (machine_of old) (today, command) ≡ after = rw new refl in
      let first : replay (take log.opened log.history) ≡ opened_of old
      = rw (opened, grown) (ap replay (take-more old.log.opened old.log.history ((today, command) ∷ [])
      kept.early)) in
      record {
        replayed = is ∙ sym led;
        fresh = subst (AreNewFrom no_machine) (sym grown)
            (fresh_new old.log.history today command reply after kept.fresh new);
        early = rw (opened, grown) (omega (
          arith,
          kept.early,
          length-append old.log.history
              ((today, command) ∷ []),
        ));
        once = rw (first, led, works, asks_append old.outbox (work_of (today, command)), sym same)
            (asks_grow (machine_of old) today command (replays_are_keyed old.log.history (omega (arith, few)))
            last
            (rw new refl) (opened_of old) old.own (asks_in old.outbox) kept.once free);
        told = kept.told;
      }

-- one more payment was asked for
pub own_noted : (own next : List (List ℕ × List ℕ)) (account key : List ℕ) → next ≡ own ++ (account, key) ∷ []
    → map asked_for next ≡ map asked_for own ++ asked_for (account, key) ∷ []
own_noted own next account key grown = ap (map asked_for) grown
    ∙ map-append asked_for own ((account, key) ∷ [])

-- the gateway is asked for what stands at the front of the outbox
module _ {D G : Type 0} (told : G → Option (List Asked)) (machine : MachineValue) (old : LaneValue D G)
    (kept : IsLane told machine old) where
  pub lane_asked : (account key : List ℕ) (later outbox : List Work) (gateway : G) (own : List Asked)
      → old.outbox ≡ Ask account key ∷ later → outbox ≡ later → own ≡ old.own ++ asked_for (account, key) ∷ []
      → Notes (told old.gateway) (asked_for (account, key)) (told gateway)
      → IsLane told machine (record { log = old.log; outbox = outbox; gateway = gateway; own = own })
  lane_asked account key later outbox gateway own front rest owned noted = record {
    replayed = kept.replayed;
    fresh = kept.fresh;
    early = kept.early;
    once = rw (rest, owned) (asked_once (opened_of old) (machine_of old) old.own (asks_in later)
        (asked_for (account, key)) (rw front at kept.once));
    told = rw owned (ends_note (told old.gateway) (told gateway) old.own (asked_for (account, key))
        kept.told noted);
  }

  -- and its settlement settles none that is left
  pub lane_frees : (account key : List ℕ) (later : List Work) (status : Status)
      → old.outbox ≡ Ask account key ∷ later
      → SettlesNone (kinds.Settle (record { account = account; payment = key; status = status })) later
  lane_frees account key later status front =
      settles_apart account key (asks_in later) status
      (first_apart (opened_of old) (machine_of old) old.own (asks_in later) (asked_for (account, key))
      (rw front at kept.once))

  -- what stands at the front of the outbox is off, and asks for nothing
  pub lane_looked : (account : List ℕ) (later outbox : List Work) → old.outbox ≡ Check account ∷ later
      → outbox ≡ later → IsLane told machine (record old { outbox = outbox })
  lane_looked account later outbox front rest = record {
    replayed = kept.replayed;
    fresh = kept.fresh;
    early = kept.early;
    once = rw rest (rw front at kept.once);
    told = kept.told;
  }

  -- what waits at the front of the outbox has an order
  pub lane_orders : (account key : List ℕ) (later : List Work) → old.outbox ≡ Ask account key ∷ later
      → IsSome (order_of (machine_of old) account key)
  lane_orders account key later front =
      order_there (machine_of old) account key
      (begun_there (attempt_asked (machine_of old) (asked_for (account, key)))
      (All-head (λ (one : Asked). IsBegun (attempt_asked (machine_of old) one)) (asked_for (account, key))
      (asks_in later) (rw front at kept.once).waiting))
