-- The chunks in which the members of a list lie, and its tail.
use Rattle.std.specs.Prelude.{ℕ, ◌≡◌, ◌<◌, List, [], ◌++◌, Option, Some, None, length, All}
use Rattle.std.specs.List.{flat_map}
use Rattle.std.specs.Global.{Global}
use Rattle.std.specs.declared.sync.Arc.{Arc}
use Rattle.std.specs.Arc.{arc_value}

-- how many members a chunk has
abbrev pub chunk_size : ℕ
chunk_size = 16

-- the members of some chunks, in their order
abbrev pub chunk_members : {T : Type 0} → List (List T) → List T
chunk_members chunks = flat_map (λ chunk. chunk) chunks

-- each chunk has so many members
abbrev pub AreChunks : {T : Type 0} → ℕ → List (List T) → Type 0
AreChunks size chunks = All (λ chunk. length chunk ≡ size) chunks

-- the members of a tail
abbrev pub tail_members : {T : Type 0} → Option (Arc (List T) Global) → List T
tail_members None = []
tail_members (Some chunk) = arc_value chunk

-- full chunks and a shorter tail have so many members in all
pub record IsChunked {T : Type 0} (size : ℕ) (chunks : List (List T)) (tail : List T) (len : ℕ) : Type 0 where
  pub full : AreChunks size chunks
  pub short : length tail < size
  pub counted : len ≡ length (chunk_members chunks ++ tail)
