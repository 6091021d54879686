-- What a determined machine has written is the one text that answers its input.
use Rattle.std.proofs.Common.{◌≡◌, ℕ, Option, Some, None, Result, Ok, Err, IsOk, OnOk, List, ◌++◌, sym, ap}
use Rattle.std.proofs.Common.{◌∙◌, subst, append-nil}
use Rattle.std.specs.Io.KnownBytes.{Appends}
use Rattle.kb_base.specs.Machine.{Machine, IsDetermined}
use Rattle.kb_base.specs.Stream.{IsDone}
use Rattle.kb_base.proofs.Determined.{done-only}
use Rattle.kb_runs.specs.declared.run_stop.RunStop.{RunStop}
use Rattle.kb_runs.specs.Reading.{Ends, IsOnlyRun}

-- a run that read its input to the end
pub ends-only : {S : Type 0} (machine : Machine S (List ℕ)) → IsDetermined machine
    → (first : S) (left left_after written written_after : Option (List ℕ)) (last : S)
    → Ends machine first left left_after written written_after last
    → IsOnlyRun machine first left written written_after last
ends-only machine only first None left_after written written_after last ends = tt
ends-only machine only first (Some known) None written written_after last (end, (bytes, read, said)) =
    absurd read
ends-only machine only first (Some known) (Some rest) written written_after last (end, (bytes, read, said)) =
    λ text other ran.
    let all : bytes ≡ known = sym (read ∙ ap (λ l. bytes ++ l) end ∙ append-nil bytes) in
    let done = subst (λ bs. IsDone machine first bs said.0 last) all said.2.1 in
    let same = done-only machine only first last other known said.0 text done ran in
    (subst (λ t. Appends written written_after t) same.0 said.1, same.1)

-- the same of a run that wasn't stopped
pub run-only-ends : {S : Type 0} (machine : Machine S (List ℕ)) → IsDetermined machine
    → (run : Result (Unit {0}) RunStop) (first : S) (left left_after written written_after : Option (List ℕ))
    (last : S)
    → OnOk run (Ends machine first left left_after written written_after last) → IsOk run
    → IsOnlyRun machine first left written written_after last
run-only-ends machine only (Ok done) first left left_after written written_after last ends ok =
    ends-only machine only first left left_after written written_after last ends
run-only-ends machine only (Err stop) first left left_after written written_after last ends ok = absurd (cc)
