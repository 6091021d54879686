-- What an exit status tells of a run.
use Rattle.std.specs.Prelude.{ℕ, ◌≡◌, ◌⊎◌, Result, Err, IsOk, IsErr}
use Rattle.kb_catalog_text.specs.declared.fault.TextFault.{TextFault}
use Rattle.kb_runs.specs.declared.run_stop.RunStop.TheVariants.{Input, Memory, LineTooLong, InputTooLong}
use Rattle.kb_runs.specs.declared.stop.Stop.{Stop}
use Rattle.kb_runs.specs.declared.stop.Stop.TheVariants.{Words, Run, Disk, Journal, Text, Market}
use Rattle.kb_runs.specs.declared.stop.Stop.TheVariants.{NotEmpty, Full}
use Rattle.kb_runs.specs.Endings.{NeedsMemory, stop_status, text_status}

-- the status of a run, however it ended
abbrev pub IsStatus : ℕ → Type 0
IsStatus status = (status ≡ 0) ⊎ ((stop : Stop) × (status ≡ stop_status stop))

-- What stopped a run, as far as its exit status tells it. Behind a 4 any run may stand, since the output may
-- have failed in the last line.
pub record Tells (status : ℕ) (run : Result (Unit {0}) Stop) : Type 0 where
  pub done : status ≡ 0 → IsOk run
  pub words : status ≡ 2 → run ≡ Err Words
  pub input : status ≡ 3 → run ≡ Err (Run Input)
  pub output : status ≡ 4 → IsErr run
  pub disk : status ≡ 5 → run ≡ Err Disk
  pub journal : status ≡ 6 → (lane at : ℕ) × (run ≡ Err (Journal lane at))
  pub memory : status ≡ 7 → (run ≡ Err (Run Memory)) ⊎ ((stop : Stop) × (run ≡ Err stop) × NeedsMemory stop)
  pub text : status ≡ 8 → (fault : TextFault) × (run ≡ Err (Text fault)) × (text_status fault ≡ 8)
  pub market : status ≡ 10 → run ≡ Err Market
  pub not_empty : status ≡ 11 → (lane : ℕ) × (run ≡ Err (NotEmpty lane))
  pub line_too_long : status ≡ 12 → run ≡ Err (Run LineTooLong)
  pub input_too_long : status ≡ 13 → run ≡ Err (Run InputTooLong)
  pub full : status ≡ 14 → run ≡ Err Full
