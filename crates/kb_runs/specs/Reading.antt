-- A run of a machine over the lines of a source, whose answers go to a sink.
use Rattle.std.specs.Prelude.{ℕ, ◌≡◌, ◌≤◌, ◌<◌, ◌^◌, List, length, Option, IfSome}
use Rattle.std.specs.Io.KnownBytes.{Appends, IsAtEnd}
use Rattle.kb_base.specs.Machine.{Machine, IsRun}
use Rattle.kb_base.specs.Stream.{lines, Reads, Writes, IsDone, IsBroken, IsOverlong, IsGivenUp, IsCutOff}
use Rattle.kb_runs.specs.declared.run_stop.RunStop.{RunStop}
use Rattle.kb_runs.specs.declared.run_stop.RunStop.TheVariants.{Input, Output, Memory, LineTooLong}
use Rattle.kb_runs.specs.declared.run_stop.RunStop.TheVariants.{InputTooLong}

-- the bytes that an object has, where it tells them
abbrev pub Known : Type 0
Known = Option (List ℕ)

-- a run reads fewer bytes than this, or is stopped by them
abbrev pub max_input : ℕ
max_input = 2 ^ 40

-- known bytes are read and known bytes are written, of which this holds
abbrev pub Transfers : Known → Known → Known → Known → (List ℕ → List ℕ → Type 0) → Type 0
Transfers left left_after written written_after P =
    Reads left left_after (λ bytes. Writes written written_after (λ text. P bytes text))

-- the input was read to its end, and each of its lines is answered
abbrev pub Ends : {S : Type 0} → Machine S (List ℕ) → S → Known → Known → Known → Known → S → Type 0
Ends machine first left left_after written written_after last =
    IsAtEnd left_after × Transfers left left_after written written_after
    (λ bytes text. (length bytes < max_input) × IsDone machine first bytes text last)

-- no other text than the one that was written answers the lines of a known input, and no other state is
-- reached
abbrev pub IsOnlyRun : {S : Type 0} → Machine S (List ℕ) → S → Known → Known → Known → S → Type 0
IsOnlyRun {S} machine first left written written_after last =
    IfSome left (λ bytes. (text : List ℕ) (other : S) → IsRun machine first (lines bytes) text other
    → Appends written written_after text × (last ≡ other))

-- what was read and what was answered when a run was stopped
abbrev pub IsStopped : {S : Type 0} → Machine S (List ℕ) → S → RunStop → List ℕ → List ℕ → S → Type 0
IsStopped machine first Input bytes text last =
    (length bytes < max_input) × IsBroken machine first bytes text last
IsStopped machine first Output bytes text last = IsCutOff machine first bytes text last
IsStopped machine first Memory bytes text last = IsGivenUp machine first bytes text last
IsStopped machine first LineTooLong bytes text last = IsOverlong machine first bytes text last
IsStopped machine first InputTooLong bytes text last =
    (max_input ≤ length bytes) × IsBroken machine first bytes text last

-- the same, of a source and a sink
abbrev pub StopsBy : {S : Type 0} → Machine S (List ℕ) → S → RunStop → Known → Known → Known → Known → S → Type 0
StopsBy machine first stop left left_after written written_after last =
    Transfers left left_after written written_after
    (λ bytes text. IsStopped machine first stop bytes text last)
