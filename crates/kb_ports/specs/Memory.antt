-- Bytes in memory, as a source or a sink for tests holds them, with the calls that are to fail.
use Rattle.std.specs.Prelude.{◌≡◌, ◌==◌, ℕ, Bool, true, List, [], ◌∷◌, refl}
use Rattle.std.specs.List.{list_any}
use Rattle.kb_base.specs.Faults.{next_count}

-- whether the call after so many, counted from 1, is among those that are to fail
abbrev pub fails_next : List ℕ → ℕ → Bool
fails_next failing calls = list_any (λ number. number == next_count calls) failing

second_fails : fails_next (2 ∷ 4 ∷ []) 1 ≡ true
second_fails = refl

-- The bytes that are left or written, the numbers of the calls that fail, the calls so far, and how many
-- failed.
pub record Memory : Type 0 where
  pub bytes : List ℕ
  pub failing : List ℕ
  pub calls : ℕ
  pub faults : ℕ

-- these bytes before any call
abbrev pub uncalled : List ℕ → List ℕ → Memory
uncalled bytes failing = record { bytes = bytes; failing = failing; calls = 0; faults = 0 }

-- after a call that failed: the bytes are as before
abbrev pub after_fault : Memory → Memory
after_fault memory = record memory { calls = next_count memory.calls; faults = next_count memory.faults }

one_fault : after_fault (uncalled (7 ∷ []) (1 ∷ []))
    ≡ record { bytes = 7 ∷ []; failing = 1 ∷ []; calls = 1; faults = 1 }
one_fault = refl

-- after a call that left these bytes
abbrev pub after_call : Memory → List ℕ → Memory
after_call memory bytes = record memory { bytes = bytes; calls = next_count memory.calls }

one_read : after_call (uncalled (7 ∷ 8 ∷ []) []) (8 ∷ [])
    ≡ record { bytes = 8 ∷ []; failing = []; calls = 1; faults = 0 }
one_read = refl
