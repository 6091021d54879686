-- A payment is asked for once: what a new command, and an order that is taken off, do to that.
use Rattle.std.proofs.Common.{◌≡◌, ℕ, ◌≤◌, ◌<◌, arith, true, false, true≢false, ◌&&◌, bytes_eq, List, [], ◌∷◌}
use Rattle.std.proofs.Common.{◌++◌, length, get_or, All, IsSome, is_some, Option, Some, None, refl, sym, ap}
use Rattle.std.proofs.Common.{subst, ◌∙◌, inl, inr}
use Rattle.std.proofs.lemmas.Bool.{cases_Bool, and_parts}
use Rattle.std.proofs.lemmas.List.{append_assoc, append-nil, get_or_append_left, length-append}
use Rattle.std.proofs.lemmas.List.Elements.{All-append, All-push, All-head, All-tail, All-weaker, All-nil}
use Rattle.std.proofs.lemmas.List.Quantifiers.{all_pairs_push}
use Rattle.std.proofs.lemmas.Slice.Eq.{bytes_eq-Decides}
use Rattle.kb_days.specs.Calendar.{last_day}
use Rattle.kb_payment.specs.declared.attempt.Attempt.{Attempt}
use Rattle.kb_payment.specs.declared.attempt.Status.{Status}
use Rattle.kb_gateway.specs.declared.order.Asked.{Asked}
use Rattle.kb_ports.specs.Notes.{Notes}
use Rattle.kb_codec.specs.declared.command.Command.{Command}
use Rattle.kb_codec.specs.declared.command.Command.TheVariants as kinds
use Rattle.kb_codec.specs.declared.action.Action.TheVariants as actions
use Rattle.kb_machine.specs.Judged.{is_new}
use Rattle.kb_machine.specs.Machines.{MachineValue, judged}
use Rattle.kb_codec.specs.Senders.{account_of}
use Rattle.kb_machine.specs.Histories.{entry_after}
use Rattle.kb_histories.specs.Attempts.{begun_key, settles}
use Rattle.kb_histories.specs.PaymentKeys.{AreKeyed}
use Rattle.kb_histories.proofs.StayingAttempts.{attempts_stay}
use Rattle.kb_histories.proofs.SettledAttempts.{settlements_settle}
use Rattle.kb_histories.proofs.BegunAttempts.{attempts_begin, begun_keys_are_free}
use Rattle.kb_lane.proofs.Pairs.{pairs_append, pairs_head, pairs_back}
use Rattle.kb_lane.specs.declared.work.Work.{Work}
use Rattle.kb_lane.specs.declared.work.Work.TheVariants.{Ask, Check}
use Rattle.kb_lane.specs.Outbox.{work_of}
use Rattle.kb_lane.specs.Asking.{asked_for, asks_in, attempt_asked, AreApart, HaveAttempts, IsBegun, AsksOnce}
use Rattle.kb_lane.specs.Asking.{WasAskedOnce, EndsWith}

-- the payment that a command begins, if it begins one
abbrev begun_of : List ℕ → Option (List ℕ) → List Asked
begun_of account None = []
begun_of account (Some key) = record { account = account; key = key } ∷ []

-- it is the one that the command leaves to ask for
asks-begun : (today : ℕ) (command : Command)
    → asks_in (work_of (today, command)) ≡ begun_of (account_of command) (begun_key today command)
asks-begun today (kinds.Catalog c) = refl
asks-begun today (kinds.OverdueRules c) = refl
asks-begun today (kinds.Act account key (actions.Pay c)) = refl
asks-begun today (kinds.Act account key (actions.Refund c)) = refl
asks-begun today (kinds.Auto c) = refl
asks-begun today command = refl

pub asks_append : (one other : List Work) → asks_in (one ++ other) ≡ asks_in one ++ asks_in other
asks_append [] other = refl
asks_append (Ask account key ∷ later) other =
    ap (λ asked. record { account = account; key = key } ∷ asked) (asks_append later other)
asks_append (Check account ∷ later) other = asks_append later other

-- what is absent is none
none-there : {X : Type 0} (found : Option X) → is_some found ≡ false → found ≡ None
none-there None gone = refl
none-there (Some one) gone = absurd (true≢false gone)

-- what is there is no more absent
some-there : {X : Type 0} (found : Option X) → IsSome found → found ≡ None → ⊥
some-there None there none = true≢false (sym there)
some-there (Some one) there none = cc

pub begun_there : (found : Option Attempt) → IsBegun found → IsSome found
begun_there None begun = absurd begun
begun_there (Some attempt) begun = refl

-- an attempt that isn't there before is none of those that are
module _ (machine : MachineValue) (asked : Asked) (none : attempt_asked machine asked ≡ None) where
  other-there : (one : Asked) → IsSome (attempt_asked machine one) → one ≡ asked → ⊥
  other-there one there same =
      some-there (attempt_asked machine one) there (ap (attempt_asked machine) same ∙ none)

-- the attempt that is there
attempt-there : (found : Option Attempt) → IsSome found → (attempt : Attempt) × (found ≡ Some attempt)
attempt-there None there = absurd (true≢false (sym there))
attempt-there (Some attempt) there = (attempt, refl)

-- an attempt that a new command settles is there afterwards
settled-stays : (machine : MachineValue) (today : ℕ) (command : Command) (one : Asked) (attempt : Attempt)
    → is_new (judged machine today command) ≡ true → attempt_asked machine one ≡ Some attempt
    → settles command one.account one.key ≡ true
    → IsSome (attempt_asked (entry_after machine (today, command)) one)
settled-stays machine today (kinds.Settle c) one attempt new is settled =
    let parts = and_parts (bytes_eq one.account c.account) (bytes_eq one.key c.payment) settled in
    let account : one.account ≡ c.account = (bytes_eq-Decides one.account c.account).0 parts.0 in
    let key : one.key ≡ c.payment = (bytes_eq-Decides one.key c.payment).0 parts.1 in
    let same : kinds.Settle (record { account = one.account; payment = one.key; status = c.status })
    ≡ kinds.Settle c = rw (account, key) refl in
    subst (λ it. IsSome (attempt_asked (entry_after machine (today, it)) one)) same
    (ap is_some (settlements_settle machine today one.account one.key c.status attempt is (rw same new)))
settled-stays machine today command one attempt new is settled = absurd (true≢false (sym settled))

module _ (machine : MachineValue) (today : ℕ) (command : Command) (keyed : AreKeyed machine)
    (last : today ≤ last_day) (new : is_new (judged machine today command) ≡ true) where
  -- each attempt is there after a new command
  some-stays : (one : Asked) → IsSome (attempt_asked machine one)
      → IsSome (attempt_asked (entry_after machine (today, command)) one)
  some-stays one there =
      let found = attempt-there (attempt_asked machine one) there in
      elim (cases_Bool (settles command one.account one.key)) [
        | inl settled ↦ settled-stays machine today command one found.0 new found.1 settled
        | inr free ↦ ap is_some (attempts_stay machine today command one.account one.key found.0 keyed
            last found.1 free)
      ]

  -- and nothing is known of it yet, if the command doesn't settle it
  begun-stays : (one : Asked) → IsBegun (attempt_asked machine one)
      → settles command one.account one.key ≡ false
      → IsBegun (attempt_asked (entry_after machine (today, command)) one)
  begun-stays one begun free =
      let found = attempt-there (attempt_asked machine one) (begun_there (attempt_asked machine one) begun) in
      let here : IsBegun (Some found.0) = subst IsBegun found.1 begun in
      subst IsBegun
      (sym (attempts_stay machine today command one.account one.key found.0 keyed last found.1 free)) here

  module _ (first : MachineValue) (own waiting : List Asked) (once : AsksOnce first machine own waiting)
      (free : All (λ (one : Asked). settles command one.account one.key ≡ false) waiting) where
    -- what a new command leaves of it
    kept-once : AsksOnce first (entry_after machine (today, command)) own waiting
    kept-once = record {
      apart = once.apart;
      asked = All-weaker (λ (one : Asked). IsSome (attempt_asked machine one))
          (λ (one : Asked). IsSome (attempt_asked (entry_after machine (today, command)) one)) some-stays
          own once.asked;
      waiting = λ k d inside. begun-stays (get_or waiting k d) (once.waiting k d inside) (free k d inside);
      since = once.since;
      stay = λ one there. some-stays one (once.stay one there);
    }

    -- one more that waits: it wasn't there
    more-once : (asked : Asked) → attempt_asked machine asked ≡ None
        → IsBegun (attempt_asked (entry_after machine (today, command)) asked)
        → AsksOnce first (entry_after machine (today, command)) own (waiting ++ asked ∷ [])
    more-once asked none begun =
        let there : HaveAttempts machine (own ++ waiting) =
        All-append (λ (one : Asked). IsSome (attempt_asked machine one)) own waiting once.asked
        (All-weaker (λ (one : Asked). IsBegun (attempt_asked machine one))
        (λ (one : Asked). IsSome (attempt_asked machine one))
        (λ one held. begun_there (attempt_asked machine one) held) waiting once.waiting) in
        let same : own ++ (waiting ++ asked ∷ []) ≡ (own ++ waiting) ++ asked ∷ [] =
        sym (append_assoc own waiting (asked ∷ [])) in
        record {
          apart = rw same (all_pairs_push (λ (one other : Asked). one ≡ other → ⊥) (own ++ waiting)
              asked once.apart
              (λ k d inside. other-there machine asked none (get_or (own ++ waiting) k d)
              (there k d inside)));
          asked = kept-once.asked;
          waiting = All-push (λ (one : Asked). IsBegun (attempt_asked
              (entry_after machine (today, command)) one)) waiting
              asked kept-once.waiting begun;
          since = rw same (All-push (λ (one : Asked). attempt_asked first one ≡ None) (own ++ waiting)
              asked once.since
              absent);
          stay = kept-once.stay;
        }
      where
        absent : attempt_asked first asked ≡ None
        absent = elim (cases_Bool (is_some (attempt_asked first asked))) [
          | inl there ↦ absurd (some-there (attempt_asked machine asked) (once.stay asked there) none)
          | inr gone ↦ none-there (attempt_asked first asked) gone
        ]

    -- what a new command leaves
    pub asks_grow : AsksOnce first (entry_after machine (today, command)) own
        (waiting ++ asks_in (work_of (today, command)))
    asks_grow = rw (asks-begun today command) (by_key (begun_key today command) refl)
      where
        by_key : (key : Option (List ℕ)) → begun_key today command ≡ key
            → AsksOnce first (entry_after machine (today, command)) own
            (waiting ++ begun_of (account_of command) key)
        by_key None none = rw (append-nil waiting) kept-once
        by_key (Some key) begins =
            let begun = attempts_begin machine today command key new begins in
            more-once (record { account = account_of command; key = key })
            (begun_keys_are_free machine today command key keyed last new begins)
            (subst IsBegun (sym begun.1) begun.2)

-- the payment at the front is asked for
pub asked_once : (first later : MachineValue) (own waiting : List Asked) (asked : Asked)
    → AsksOnce first later own (asked ∷ waiting) → AsksOnce first later (own ++ asked ∷ []) waiting
asked_once first later own waiting asked once =
    let same : (own ++ asked ∷ []) ++ waiting ≡ own ++ (asked ∷ waiting) =
    append_assoc own (asked ∷ []) waiting in
    record {
      apart = rw same once.apart;
      asked = All-push (λ (one : Asked). IsSome (attempt_asked later one)) own asked once.asked
          (begun_there (attempt_asked later asked) (All-head
          (λ (one : Asked). IsBegun (attempt_asked later one)) asked waiting once.waiting));
      waiting = All-tail (λ (one : Asked). IsBegun (attempt_asked later one)) asked waiting once.waiting;
      since = rw same once.since;
      stay = once.stay;
    }

-- payments that were asked for before, once each and for attempts of the first machine, are none of these
pub was_asked_once : (first later : MachineValue) (own waiting : List Asked) (asked : Option (List Asked))
    → AsksOnce first later own waiting → WasAskedOnce first asked own
was_asked_once first later own waiting asked once all before told is apart there =
    rw is (pairs_append Other before own apart own-apart
    (λ k d inside i e within same. some-there (attempt_asked first (get_or before k d)) (there k d inside)
    (ap (attempt_asked first) same ∙ later-own i e within)))
  where
    Other : Asked → Asked → Type 0
    Other one other = one ≡ other → ⊥

    later-own : (k : ℕ) (d : Asked) → k < length own → attempt_asked first (get_or own k d) ≡ None
    later-own k d inside = rw (sym (get_or_append_left own waiting d k inside))
        (once.since k d (omega (arith, inside, length-append own waiting)))

    own-apart : AreApart own
    own-apart i j d below inside =
        rw (
          sym (get_or_append_left own waiting d i (omega (arith, below, inside))),
          sym (get_or_append_left own waiting d j inside),
        )
        (once.apart i j d below (omega (arith, inside, length-append own waiting)))

-- what a gateway was asked ends with one more
pub ends_note : (old new : Option (List Asked)) (own : List Asked) (note : Asked) → EndsWith old own
    → Notes old note new → EndsWith new (own ++ note ∷ [])
ends_note old None own note ends notes all is = absurd (cc)
ends_note None (Some after) own note ends notes all is = absurd notes
ends_note (Some prior) (Some after) own note ends notes all is =
    let parts = ends prior refl in
    let same : after ≡ all = cc in (
      parts.0,
      sym same ∙ notes ∙ ap (λ asked. asked ++ note ∷ []) parts.1
          ∙ append_assoc parts.0 own (note ∷ []),
    )

-- nothing was asked since a lane was opened
pub none_asked : (machine : MachineValue) → AsksOnce machine machine [] []
none_asked machine = record {
  apart = λ i j d below inside. absurd (omega (arith, below, inside));
  asked = All-nil (λ (one : Asked). IsSome (attempt_asked machine one));
  waiting = All-nil (λ (one : Asked). IsBegun (attempt_asked machine one));
  since = All-nil (λ (one : Asked). attempt_asked machine one ≡ None);
  stay = λ one there. there;
}

pub ends_anyhow : (asked : Option (List Asked)) → EndsWith asked []
ends_anyhow asked all is = (all, sym (append-nil all))

-- a settlement of one payment settles no other one
pub settles_other : (account key : List ℕ) (status : Status) (one : Asked)
    → (asked_for (account, key) ≡ one → ⊥)
    → settles (kinds.Settle (record { account = account; payment = key; status = status }))
    one.account one.key
    ≡ false
settles_other account key status one other =
    elim (cases_Bool (bytes_eq one.account account && bytes_eq one.key key)) [
      | inl both ↦ absurd (other (same both))
      | inr differ ↦ differ
    ]
  where
    same : (bytes_eq one.account account && bytes_eq one.key key) ≡ true → asked_for (account, key) ≡ one
    same both =
        let parts = and_parts (bytes_eq one.account account) (bytes_eq one.key key) both in
        rw (
          sym ((bytes_eq-Decides one.account account).0 parts.0),
          sym ((bytes_eq-Decides one.key key).0 parts.1),
        ) refl

pub settles_apart : (account key : List ℕ) (waiting : List Asked) (status : Status)
    → All (λ (one : Asked). asked_for (account, key) ≡ one → ⊥) waiting
    → All (λ (one : Asked). settles (kinds.Settle (record {
      account = account;
      payment = key;
      status = status;
    })) one.account one.key ≡ false) waiting
settles_apart account key waiting status apart k d inside =
    settles_other account key status (get_or waiting k d) (apart k d inside)

-- of the payments that are yet to be asked for, the first is none of the others
pub first_apart : (first later : MachineValue) (own waiting : List Asked) (asked : Asked)
    → AsksOnce first later own (asked ∷ waiting) → All (λ (one : Asked). asked ≡ one → ⊥) waiting
first_apart first later own waiting asked once =
    pairs_head (λ (one other : Asked). one ≡ other → ⊥) asked waiting
    (pairs_back (λ (one other : Asked). one ≡ other → ⊥) own (asked ∷ waiting) once.apart)
