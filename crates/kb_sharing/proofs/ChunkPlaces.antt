-- Where a member of a list lies, if its chunks have one size.
use Rattle.std.proofs.Common.{ℕ, zero, suc, ◌≡◌, ◌+◌, ◌-◌, ◌*◌, ◌<◌, ◌≤◌, List, [], ◌∷◌, ◌++◌, length}
use Rattle.std.proofs.Common.{slice_get, set, Some, arith, length-append, append-nil, append_assoc}
use Rattle.std.proofs.Common.{◌∙◌, sym, ap, subst}
use Rattle.std.proofs.lemmas.List.{set-append_left, set-append_right}
use Rattle.std.proofs.lemmas.List.Concat.{flat_map-append}
use Rattle.std.proofs.lemmas.List.Elements.{All-head, All-tail, All-get_or}
use Rattle.std.proofs.lemmas.Option.{slice_get_within, get_or_from_slice_get}
use Rattle.kb_sharing.specs.Private.Chunks.{chunk_members, AreChunks}
use Rattle.kb_sharing.proofs.Places.{slice_get-append_left, slice_get-append_right}

-- another chunk behind the last one
pub chunk_members-push : {T : Type 0} (chunks : List (List T)) (chunk : List T)
    → chunk_members (chunks ++ chunk ∷ []) ≡ chunk_members chunks ++ chunk
chunk_members-push chunks chunk =
    flat_map-append (λ xs. xs) chunks (chunk ∷ []) ∙ ap (λ xs. chunk_members chunks ++ xs) (append-nil chunk)

module _ {T : Type 0} (size : ℕ) where
  -- the first chunk has the size of all
  length-first : (chunk : List T) (chunks : List (List T)) → AreChunks size (chunk ∷ chunks)
      → length chunk ≡ size
  length-first chunk chunks full = All-head (λ xs. length xs ≡ size) chunk chunks full

  -- and so have those behind it
  later : (chunk : List T) (chunks : List (List T)) → AreChunks size (chunk ∷ chunks) → AreChunks size chunks
  later chunk chunks full = All-tail (λ xs. length xs ≡ size) chunk chunks full

  -- chunks have as many members as there are chunks, times their size
  pub length-chunk_members : (chunks : List (List T)) → AreChunks size chunks
      → length (chunk_members chunks) ≡ size * length chunks
  length-chunk_members [] full = omega arith
  length-chunk_members (chunk ∷ chunks) full =
      let here = length-first chunk chunks full in
      let behind = length-chunk_members chunks (later chunk chunks full) in
      simp length-append (omega arith)

  -- each chunk has the size of all
  pub length-chunk : (chunks : List (List T)) (number : ℕ) (chunk : List T)
      → AreChunks size chunks → slice_get chunks number ≡ Some chunk → length chunk ≡ size
  length-chunk chunks number chunk full there =
      let within = slice_get_within chunks number chunk there in
      subst (λ xs. length xs ≡ size) (get_or_from_slice_get chunks number chunk chunk there)
      (All-get_or (λ xs. length xs ≡ size) chunks number chunk within full)

  -- a member of a chunk, among the members of all and what is behind them
  pub slice_get-chunk_members : (chunks : List (List T)) (rest : List T) (number place : ℕ) (chunk : List T)
      → AreChunks size chunks → slice_get chunks number ≡ Some chunk → place < size
      → slice_get (chunk_members chunks ++ rest) (size * number + place) ≡ slice_get chunk place
  slice_get-chunk_members [] rest number place chunk full there before = absurd (cc)
  slice_get-chunk_members (first ∷ chunks) rest zero place chunk full there before =
      let here = length-first first chunks full in
      let same : first ≡ chunk = cc in
      let within : place < length first = omega arith in
      ap (slice_get (first ++ chunk_members chunks ++ rest))
      (let e : size * zero + place ≡ place = omega arith in e)
      ∙ ap (λ xs. slice_get xs place) (append_assoc first (chunk_members chunks) rest)
      ∙ slice_get-append_left first (chunk_members chunks ++ rest) place within
      ∙ ap (λ xs. slice_get xs place) same
  slice_get-chunk_members (first ∷ chunks) rest (suc number) place chunk full there before =
      let here = length-first first chunks full in
      let behind : length first ≤ size * suc number + place = omega arith in
      ap (λ xs. slice_get xs (size * suc number + place)) (append_assoc first (chunk_members chunks) rest)
      ∙ slice_get-append_right first (chunk_members chunks ++ rest) (size * suc number + place) behind
      ∙ ap (slice_get (chunk_members chunks ++ rest))
      (let e : size * suc number + place - length first ≡ size * number + place = omega arith in e)
      ∙ slice_get-chunk_members chunks rest number place chunk (later first chunks full) there before

  -- another member in a chunk
  pub set-chunk_members : (chunks : List (List T)) (rest : List T) (number place : ℕ) (chunk : List T)
      (member : T) → AreChunks size chunks → slice_get chunks number ≡ Some chunk → place < size
      → set (chunk_members chunks ++ rest) (size * number + place) member
      ≡ chunk_members (set chunks number (set chunk place member)) ++ rest
  set-chunk_members [] rest number place chunk member full there before = absurd (cc)
  set-chunk_members (first ∷ chunks) rest zero place chunk member full there before =
      let here = length-first first chunks full in
      let same : first ≡ chunk = cc in
      let within : place < length first = omega arith in
      ap (λ n. set (first ++ chunk_members chunks ++ rest) n member)
      (let e : size * zero + place ≡ place = omega arith in e)
      ∙ ap (λ xs. set xs place member) (append_assoc first (chunk_members chunks) rest)
      ∙ set-append_left first (chunk_members chunks ++ rest) place member within
      ∙ sym (append_assoc (set first place member) (chunk_members chunks) rest)
      ∙ ap (λ xs. set xs place member ++ chunk_members chunks ++ rest) same
  set-chunk_members (first ∷ chunks) rest (suc number) place chunk member full there before =
      let here = length-first first chunks full in
      let behind : size ≤ size * suc number + place = omega arith in
      ap (λ xs. set xs (size * suc number + place) member) (append_assoc first (chunk_members chunks) rest)
      ∙ set-append_right first (chunk_members chunks ++ rest) size (size * suc number + place) member here
      behind
      ∙ ap (λ n. first ++ set (chunk_members chunks ++ rest) n member)
      (let e : size * suc number + place - size ≡ size * number + place = omega arith in e)
      ∙ ap (λ xs. first ++ xs) (set-chunk_members chunks rest number place chunk member
      (later first chunks full) there before)
      ∙ sym (append_assoc first (chunk_members (set chunks number (set chunk place member))) rest)
