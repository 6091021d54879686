-- Records that stand for no new command.
use Rattle.std.specs.Prelude.{ℕ, ◌≡◌, ◌+◌, false, List, [], ◌∷◌, ◌++◌, length, refl}
use Rattle.kb_codec.specs.Members.{day_bytes, four_bytes}
use Rattle.kb_journal.specs.Format.{blocks}
use Rattle.kb_codec.specs.Entries.{Entry, History, payload, payloads, IsEntry}
use Rattle.kb_machine.specs.Judged.{is_new}
use Rattle.kb_machine.specs.Machines.{MachineValue, no_machine, judged}
use Rattle.kb_machine.specs.Histories.{replay, AreNewFrom}

-- a record that stands for no command which is new here: it is no payload, or is refused, or came before
abbrev pub IsStuck : MachineValue → List ℕ → Type 0
IsStuck machine bytes = (entry : Entry) → IsEntry entry → payload entry ≡ bytes
    → is_new (judged machine entry.0 entry.1) ≡ false

-- The first record that stands for no new command: those before it are a history, and behind the header of 16
-- bytes and their blocks stands its gate.
pub record IsStuckAt (records : List (List ℕ)) (at : ℕ) : Type 0 where
  pub history : History
  pub bytes : List ℕ
  pub later : List (List ℕ)
  pub fresh : AreNewFrom no_machine history
  pub parts : records ≡ payloads history ++ (bytes ∷ later)
  pub stuck : IsStuck (replay history) bytes
  pub place : at ≡ 16 + length (blocks (payloads history))

-- a record of one byte is no command
one_byte : IsStuckAt ((7 ∷ []) ∷ []) 16
unfolding blocks AreNewFrom day_bytes four_bytes
one_byte = record {
  history = [];
  bytes = 7 ∷ [];
  later = [];
  fresh = tt;
  parts = refl;
  stuck = λ entry sound is. absurd (cc);
  place = refl;
}
