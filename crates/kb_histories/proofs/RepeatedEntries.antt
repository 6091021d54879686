-- A command that comes again in a history.
use Rattle.std.proofs.Common.{◌≡◌, ℕ, true, List, [], ◌∷◌, ◌++◌, Some}
use Rattle.std.proofs.Common.{refl, sym, ap, subst, ◌∙◌, true≢false, append_assoc}
use Rattle.std.specs.List.{fold}
use Rattle.std.proofs.lemmas.List.Sums.{fold-append}
use Rattle.kb_codec.specs.declared.command.Command.{Command}
use Rattle.kb_codec.specs.declared.command.Command.TheVariants as kinds
use Rattle.kb_codec.specs.CommandBytes.{spelling}
use Rattle.kb_codec.specs.Entries.{Entry, History}
use Rattle.kb_book.specs.declared.reply.LaneReply.{LaneReply}
use Rattle.kb_machine.specs.Judged.{Judged, New, Again, Refused, after_judged, is_new}
use Rattle.kb_machine.specs.Machines.{MachineValue, no_machine, judged}
use Rattle.kb_codec.specs.Senders.{is_callers, key_of}
use Rattle.kb_machine.specs.Histories.{entry_after, replay, IsNewOn, AreNewFrom}
use Rattle.kb_histories.specs.RequestKeys.{Scope, scope_of}
use Rattle.kb_histories.specs.Repeats.{RepeatsActOnce, KeysStandOnce}
use Rattle.kb_histories.proofs.ToldReplies.{Told, told_at}
use Rattle.kb_histories.proofs.MachineSteps.{stays, told_new, told_again, not_new}

-- a command of a caller has a key
callers-key : (command : Command) → is_callers command ≡ true
    → (key : List ℕ) × (key_of command ≡ Some key)
callers-key (kinds.Catalog c) is = (c.key, refl)
callers-key (kinds.OverdueRules c) is = (c.key, refl)
callers-key (kinds.Act account key action) is = (key, refl)
callers-key (kinds.Auto c) is = absurd (true≢false (sym is))
callers-key (kinds.Settle c) is = absurd (true≢false (sym is))
callers-key (kinds.Overdue c) is = absurd (true≢false (sym is))

-- what is kept stays, whatever comes after
stays-after : (later : History) (machine : MachineValue) (scope : Scope) (key : List ℕ) (told : Told)
    → told_at scope key machine ≡ Some told → told_at scope key (fold entry_after machine later) ≡ Some told
stays-after [] machine scope key told is = is
stays-after (entry ∷ later) machine scope key told is =
    stays-after later (entry_after machine entry) scope key told
    (stays machine entry.0 entry.1 scope key told is)

pub repeats_act_once : RepeatsActOnce
unfolding replay
repeats_act_once front back entry reply after callers new tomorrow =
    let named = callers-key entry.1 callers in
    let first : MachineValue = fold entry_after no_machine front in
    let next : entry_after first entry ≡ after = ap (after_judged first) new in
    let kept : told_at (scope_of entry.1) named.0 (entry_after first entry) ≡ Some (spelling entry.1, reply) =
    rw next (told_new first entry.0 entry.1 named.0 reply after named.1 new) in
    let last : told_at (scope_of entry.1) named.0 (replay (front ++ entry ∷ back))
    ≡ Some (spelling entry.1, reply) =
    rw (fold-append entry_after no_machine front (entry ∷ back))
    (stays-after back (entry_after first entry) (scope_of entry.1) named.0 (spelling entry.1, reply) kept) in
    told_again (replay (front ++ entry ∷ back)) tomorrow entry.1 named.0 reply named.1 last

-- the later commands of a new history are new to what the others lead to
pub new-later : (front later : History) (machine : MachineValue) → AreNewFrom machine (front ++ later)
    → AreNewFrom (fold entry_after machine front) later
unfolding AreNewFrom
new-later [] later machine fresh = fresh
new-later (entry ∷ front) later machine fresh = new-later front later (entry_after machine entry) fresh.1

-- so are the earlier ones
pub new-earlier : (front later : History) (machine : MachineValue) → AreNewFrom machine (front ++ later)
    → AreNewFrom machine front
unfolding AreNewFrom
new-earlier [] later machine fresh = tt
new-earlier (entry ∷ front) later machine fresh =
    (fresh.0, new-earlier front later (entry_after machine entry) fresh.1)

-- a new command leaves its spelling and its reply
kept-new : (machine : MachineValue) (entry : Entry) (key : List ℕ) → key_of entry.1 ≡ Some key
    → IsNewOn machine entry
    → (told : Told) × (told_at (scope_of entry.1) key (entry_after machine entry) ≡ Some told)
kept-new machine entry key named new = by_judged (judged machine entry.0 entry.1) refl new
  where
    by_judged : (comes : Judged LaneReply MachineValue) → judged machine entry.0 entry.1 ≡ comes
        → is_new comes ≡ true
        → (told : Told) × (told_at (scope_of entry.1) key (entry_after machine entry) ≡ Some told)
    by_judged (New reply after) is new = (
      (spelling entry.1, reply),
      rw is (told_new machine entry.0 entry.1 key reply after named is),
    )
    by_judged (Again reply) is new = absurd (true≢false (sym new))
    by_judged (Refused refused) is new = absurd (true≢false (sym new))

pub keys_stand_once : KeysStandOnce
unfolding AreNewFrom
keys_stand_once front middle back first second fresh callers one =
    let named = callers-key first.1 callers in
    let machine : MachineValue = fold entry_after no_machine front in
    let from_first : AreNewFrom machine (first ∷ middle ++ second ∷ back) =
    new-later front (first ∷ middle ++ second ∷ back) no_machine
    (subst (AreNewFrom no_machine) (append_assoc front (first ∷ middle) (second ∷ back)) fresh) in
    let from_second : AreNewFrom (fold entry_after (entry_after machine first) middle) (second ∷ back) =
    new-later middle (second ∷ back) (entry_after machine first) from_first.1 in
    let kept = kept-new machine first named.0 named.1 from_first.0 in
    let last : MachineValue = fold entry_after (entry_after machine first) middle in
    let there : told_at (scope_of second.1) named.0 last ≡ Some kept.0 =
    rw (← one.0)
    (stays-after middle (entry_after machine first) (scope_of first.1) named.0 kept.0 kept.1) in
    true≢false (sym from_second.0
    ∙ not_new last second.0 second.1 named.0 kept.0 (sym one.1 ∙ named.1) there)
