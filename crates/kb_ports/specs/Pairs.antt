-- A link in memory.
use Rattle.std.specs.Prelude.{ℕ, List, []}
use Rattle.kb_ports.specs.Memory.{Memory, uncalled}

-- The bytes to read and those that were written, each with the calls that fail.
pub record PairValue : Type 0 where
  pub input : Memory
  pub output : Memory

-- these bytes to read, before any call
abbrev pub new_pair : List ℕ → List ℕ → List ℕ → PairValue
new_pair bytes failing_reads failing_writes =
    record { input = uncalled bytes failing_reads; output = uncalled [] failing_writes }
