-- A command that comes again, in a history of commands.
use Rattle.std.specs.Prelude.{ℕ, ◌≡◌, true, [], ◌∷◌, ◌++◌, codes, refl}
use Rattle.kb_days.specs.Dates.{march, april}
use Rattle.kb_codec.specs.Members.{name_bytes, currency_bytes, bcd_bytes, truth_bytes}
use Rattle.kb_book.specs.Steps.{step}
use Rattle.kb_book.specs.declared.reply.LaneReply.{LaneReply}
use Rattle.kb_codec.specs.Entries.{Entry, History}
use Rattle.kb_machine.specs.Judged.{New, Again}
use Rattle.kb_machine.specs.Machines.{MachineValue, no_machine, judged, reply_of}
use Rattle.kb_codec.specs.Senders.{is_callers}
use Rattle.kb_machine.specs.Histories.{replay, AreNewFrom}
use Rattle.kb_histories.specs.RequestKeys.{HaveOneKey}
use Rattle.kb_histories.specs.Openings.{opening_of}

-- a command of a caller that was new gets its reply again, whatever came before it and after it, and on
-- whatever day it comes again
abbrev pub RepeatsActOnce : Type 0
RepeatsActOnce = (front back : History) (entry : Entry) (reply : LaneReply) (after : MachineValue)
    → is_callers entry.1 ≡ true → judged (replay front) entry.0 entry.1 ≡ New reply after → (tomorrow : ℕ)
    → judged (replay (front ++ entry ∷ back)) tomorrow entry.1 ≡ Again reply

opens_once : judged (replay (opening_of (codes "a1") ∷ [])) (april 1) (opening_of (codes "a1")).1
    ≡ Again (reply_of (judged no_machine (march 10) (opening_of (codes "a1")).1))
unfolding replay judged step name_bytes currency_bytes bcd_bytes truth_bytes
opens_once = refl

-- no history whose commands were new has two commands of callers with one key
abbrev pub KeysStandOnce : Type 0
KeysStandOnce = (front middle back : History) (first second : Entry)
    → AreNewFrom no_machine (front ++ first ∷ middle ++ second ∷ back) → is_callers first.1 ≡ true
    → HaveOneKey first.1 second.1 → ⊥
