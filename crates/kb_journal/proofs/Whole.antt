-- The bytes of a journal, put together from its header and what was read behind it.
use Rattle.std.proofs.Common.{ℕ, ◌≡◌, ◌+◌, ◌≤◌, List, ◌++◌, length, drop, get_or, sym, ◌∙◌, ap, subst, inr}
use Rattle.std.proofs.Common.{arith, append_assoc, length-append}
use Rattle.std.proofs.lemmas.List.{drop_more}
use Rattle.kb_journal.specs.Format.{header, blocks, body, IsClosed, StandsFor}
use Rattle.kb_journal.specs.Reading.{number_at, IsCutAt, IsNoJournal}
use Rattle.kb_journal.specs.Private.Parts.{AreRead, IsCutBehind}

module _ (bytes : List ℕ) (lanes lane : ℕ) (begins : bytes ≡ header lanes lane ++ drop 16 bytes) where
  -- the bytes, parted at the next gate
  parted : (records : List (List ℕ)) (place : ℕ) → AreRead records place (drop 16 bytes)
      → bytes ≡ body lanes lane records ++ drop place (drop 16 bytes)
  parted records place read = begins ∙ ap (λ (l : List ℕ). header lanes lane ++ l) read.parts
      ∙ sym (append_assoc (header lanes lane) (blocks records) (drop place (drop 16 bytes)))

  -- behind a closed gate nothing counts
  pub stands_read : (records : List (List ℕ)) (place : ℕ) → AreRead records place (drop 16 bytes)
      → IsClosed (get_or (drop 16 bytes) place 0) → StandsFor lanes lane records bytes
  stands_read records place read closed = record {
    gate = get_or (drop 16 bytes) place 0;
    free = drop (place + 1) (drop 16 bytes);
    closed = closed;
    sized = read.sized;
    parts = parted records place read
        ∙ ap (λ (l : List ℕ). body lanes lane records ++ l) (drop_more (drop 16 bytes) place 0 read.more);
  }

  -- where the next gate stands
  pub placed_read : (records : List (List ℕ)) (place : ℕ) → AreRead records place (drop 16 bytes)
      → place + 16 ≡ length (body lanes lane records)
  placed_read records place read = omega (
    arith,
    read.placed,
    length-append (header lanes lane)
        (blocks records),
  )

  -- where they show that they are no journal
  pub misread : (place : ℕ) → 1 ≤ lanes → lanes ≤ 64 → lanes ≡ number_at 8 bytes
      → IsCutBehind (drop 16 bytes) place → IsNoJournal lane bytes (place + 16)
  misread place some few told cut =
      let P : ℕ → Type 0 = λ n. IsCutAt n lane bytes (place + 16) in
      inr (subst P told (record {
        some_lanes = some;
        few_lanes = few;
        records = cut.records;
        rest = cut.rest;
        sized = cut.read.sized;
        cut = cut.cut;
        parts = parted cut.records place cut.read
            ∙ ap (λ (l : List ℕ). body lanes lane cut.records ++ l) cut.open_gate;
        place = placed_read cut.records place cut.read;
      }))
