-- What the making of accounts prints.
use Rattle.std.specs.Prelude.{◌≡◌, ◌++◌, List, ℕ, Result, Ok, Err}
use Rattle.std.specs.Io.KnownBytes.{Appends, Keeps}
use Rattle.kb_base.specs.Stream.{Writes}
use Rattle.kb_runs.specs.Reading.{Known}
use Rattle.kb_runs.specs.declared.run_stop.RunStop.TheVariants as runs
use Rattle.kb_words.specs.declared.words.Make.{Make}
use Rattle.kb_make.specs.Summaries.{IsSummary}
use Rattle.kb_runs.specs.declared.stop.Stop.{Stop}
use Rattle.kb_runs.specs.declared.stop.Stop.TheVariants as stops

-- The summary of what a seed makes is printed; or a first part of it, where the output failed; or nothing,
-- where memory ran out.
abbrev pub MakesBy : Make → Known → Known → Result (Unit {0}) Stop → Type 0
MakesBy make written written_after (Ok done) = (text : List ℕ)
    × IsSummary make.seed make.accounts make.months text × Appends written written_after text
MakesBy make written written_after (Err (stops.Run runs.Output)) = (text : List ℕ)
    × IsSummary make.seed make.accounts make.months text
    × Writes written written_after (λ part. (rest : List ℕ) × (part ++ rest ≡ text))
MakesBy make written written_after (Err (stops.Run runs.Memory)) = Keeps written written_after
MakesBy make written written_after (Err other) = ⊥
