-- First parts of a text.
use Rattle.std.specs.Prelude.{ℕ, ◌≡◌, List, ◌++◌, Option}
use Rattle.kb_base.specs.Stream.{Writes}

-- a first part of a text is written, or all of it
abbrev pub WritesPart : Option (List ℕ) → Option (List ℕ) → List ℕ → Type 0
WritesPart written written_after text =
    Writes written written_after (λ part. (rest : List ℕ) × (part ++ rest ≡ text))
