-- Lists of full chunks and a shorter tail: where their members are, and that edits leave them so.
use Rattle.std.proofs.Common.{ℕ, ◌≡◌, ◌+◌, ◌-◌, ◌*◌, ◌/◌, ◌%◌, ◌<◌, ◌≤◌, List, [], ◌∷◌, ◌++◌, length}
use Rattle.std.proofs.Common.{slice_get, set, Some, None, arith, length-append, append-nil, append_assoc}
use Rattle.std.proofs.Common.{◌∙◌, sym, ap, subst}
use Rattle.std.proofs.lemmas.List.{set-append_right, length-set, length_push}
use Rattle.std.proofs.lemmas.List.Elements.{All-nil, All-cons, All-append, All-set}
use Rattle.std.proofs.lemmas.Nat.{div-add-mod', mod_below, div-mul-add, mod-mul-add, div_below}
use Rattle.std.proofs.lemmas.Option.{slice_get-get_or}
use Rattle.kb_sharing.specs.Private.Chunks.{chunk_members, IsChunked}
use Rattle.kb_sharing.proofs.Places.{slice_get-append_right}
use Rattle.kb_sharing.proofs.ChunkPlaces.{chunk_members-push, length-chunk_members, length-chunk}
use Rattle.kb_sharing.proofs.ChunkPlaces.{slice_get-chunk_members, set-chunk_members}

module _ {T : Type 0} (size : ℕ) (chunks : List (List T)) (tail : List T) (len : ℕ)
    (chunked : IsChunked size chunks tail len) where
  -- the members are those of so many chunks, and the tail
  pub len-is : len ≡ size * length chunks + length tail
  len-is = chunked.counted ∙ length-append (chunk_members chunks) tail
      ∙ ap (λ n. n + length tail) (length-chunk_members size chunks chunked.full)

  some : 0 < size
  some = let short = chunked.short in omega arith

  -- how many chunks there are
  pub count-is : len / size ≡ length chunks
  count-is =
      ap (λ n. n / size) (len-is ∙ (let e : size * length chunks + length tail
      ≡ length chunks * size + length tail = omega arith in e))
      ∙ div-mul-add (length chunks) size (length tail) chunked.short

  -- how many members stand before the tail
  pub full-is : len - len % size ≡ size * length chunks
  full-is =
      let all = len-is in
      let rest : len % size ≡ length tail = ap (λ n. n % size) (len-is ∙ (let e :
      size * length chunks + length tail ≡ length chunks * size + length tail = omega arith in e))
      ∙ mod-mul-add (length chunks) size (length tail) chunked.short in
      omega arith

  -- a place before the tail is in a chunk
  pub is_there : (place : ℕ) → place < len - len % size → slice_get chunks (place / size) ≡ None → ⊥
  is_there place before gone =
      let within : place < length chunks * size = let full = full-is in omega arith in
      let below = div_below place size (length chunks) some within in
      let there = slice_get-get_or chunks (place / size) [] below in
      absurd (cc)

  split : (place : ℕ) → place ≡ size * (place / size) + place % size
  split place = let parts = div-add-mod' place size in omega arith

  -- a member of a chunk
  pub slice_get-in_chunk : (place : ℕ) (chunk : List T) → slice_get chunks (place / size) ≡ Some chunk
      → slice_get (chunk_members chunks ++ tail) place ≡ slice_get chunk (place % size)
  slice_get-in_chunk place chunk there =
      ap (slice_get (chunk_members chunks ++ tail)) (split place)
      ∙ slice_get-chunk_members size chunks tail (place / size) (place % size) chunk chunked.full there
      (mod_below place size some)

  -- a member of the tail
  pub slice_get-in_tail : (place : ℕ) → len - len % size ≤ place
      → slice_get (chunk_members chunks ++ tail) place ≡ slice_get tail (place - (len - len % size))
  slice_get-in_tail place behind =
      let all = length-chunk_members size chunks chunked.full ∙ sym full-is in
      slice_get-append_right (chunk_members chunks) tail place
      (subst (λ n. n ≤ place) (sym all) behind)
      ∙ ap (λ n. slice_get tail (place - n)) all

  -- the place in the tail is one
  pub lt-tail : (place : ℕ) → place < length (chunk_members chunks ++ tail) → len - len % size ≤ place
      → place - (len - len % size) < length tail
  lt-tail place there behind =
      let full = full-is in
      let all = len-is in
      let same = chunked.counted in
      omega arith

  -- another member in a chunk
  pub set-in_chunk : (place : ℕ) (chunk : List T) (member : T) → slice_get chunks (place / size) ≡ Some chunk
      → set (chunk_members chunks ++ tail) place member
      ≡ chunk_members (set chunks (place / size) (set chunk (place % size) member)) ++ tail
  set-in_chunk place chunk member there =
      ap (λ n. set (chunk_members chunks ++ tail) n member) (split place)
      ∙ set-chunk_members size chunks tail (place / size) (place % size) chunk member chunked.full there
      (mod_below place size some)

  -- another member in the tail
  pub set-in_tail : (place : ℕ) (member : T) → len - len % size ≤ place
      → set (chunk_members chunks ++ tail) place member
      ≡ chunk_members chunks ++ set tail (place - (len - len % size)) member
  set-in_tail place member behind =
      let all = length-chunk_members size chunks chunked.full ∙ sym full-is in
      set-append_right (chunk_members chunks) tail (len - len % size) place member all behind

  -- a list stays in chunks if a chunk has another member
  pub IsChunked-chunk : (place : ℕ) (chunk : List T) (member : T)
      → slice_get chunks (place / size) ≡ Some chunk
      → IsChunked size (set chunks (place / size) (set chunk (place % size) member)) tail len
  IsChunked-chunk place chunk member there = record {
    full = All-set (λ xs. length xs ≡ size) chunks (place / size) (set chunk (place % size) member)
        (length-set chunk (place % size) member
        ∙ length-chunk size chunks (place / size) chunk chunked.full there)
        chunked.full;
    short = chunked.short;
    counted = chunked.counted ∙ sym (length-set (chunk_members chunks ++ tail) place member)
        ∙ ap length (set-in_chunk place chunk member there);
  }

  longer : (member : T) → len + 1 ≡ length (chunk_members chunks ++ tail ++ member ∷ [])
  longer member = ap (λ n. n + 1) chunked.counted ∙ sym (length_push (chunk_members chunks ++ tail) member)

  -- and if its tail grows and is still short
  pub IsChunked-push : (member : T) → length (tail ++ member ∷ []) < size
      → IsChunked size chunks (tail ++ member ∷ []) (len + 1)
  IsChunked-push member short = record {
    full = chunked.full;
    short = short;
    counted = longer member ∙ ap length (append_assoc (chunk_members chunks) tail (member ∷ []));
  }

  -- the members if the tail becomes a chunk
  pub chunk_members-full : (member : T)
      → chunk_members (chunks ++ (tail ++ member ∷ []) ∷ []) ++ []
      ≡ chunk_members chunks ++ tail ++ member ∷ []
  chunk_members-full member =
      append-nil (chunk_members (chunks ++ (tail ++ member ∷ []) ∷ []))
      ∙ chunk_members-push chunks (tail ++ member ∷ [])
      ∙ sym (append_assoc (chunk_members chunks) tail (member ∷ []))

  -- and if its tail is full and becomes a chunk
  pub IsChunked-full : (member : T) → length (tail ++ member ∷ []) ≡ size
      → IsChunked size (chunks ++ (tail ++ member ∷ []) ∷ []) [] (len + 1)
  IsChunked-full member fits = record {
    full = All-append (λ xs. length xs ≡ size) chunks ((tail ++ member ∷ []) ∷ []) chunked.full
        (All-cons (λ xs. length xs ≡ size) (tail ++ member ∷ []) [] fits (All-nil (λ xs. length xs ≡ size)));
    short = some;
    counted = longer member ∙ ap length (sym (chunk_members-full member));
  }
