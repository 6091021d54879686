-- Where the gate behind the records of a history stands.
use Rattle.std.proofs.Common.{◌≡◌, ℕ, ◌+◌, List, [], ◌∷◌, ◌++◌, length, refl, ap, ◌∙◌, arith, length-append}
use Rattle.std.specs.Int.{w32, to_be_bytes}
use Rattle.std.proofs.lemmas.List.{map-append}
use Rattle.kb_journal.specs.Format.{blocks, framed}
use Rattle.kb_journal.proofs.Bodies.{blocks-push}
use Rattle.kb_codec.specs.Entries.{Entry, History, payload, payloads}
use Rattle.kb_lane.specs.Private.Replays.{place_of}

pub no_place : 16 ≡ place_of []
unfolding blocks
no_place = refl

length-framed : (bytes : List ℕ) → length (framed bytes) ≡ 4 + length bytes
length-framed bytes = length-append (to_be_bytes w32 (length bytes)) bytes

pub next_place : (history : History) (entry : Entry) (bytes : List ℕ) (place next : ℕ)
    → place ≡ place_of history → payload entry ≡ bytes → next ≡ place + (length bytes + 5)
    → next ≡ place_of (history ++ entry ∷ [])
next_place history entry bytes place next placed is goes =
    let more : payloads (history ++ entry ∷ []) ≡ payloads history ++ payload entry ∷ [] =
    map-append payload history (entry ∷ []) in
    let longer = ap length (ap blocks more ∙ blocks-push (payloads history) (payload entry)) in
    omega (
      arith,
      placed,
      goes,
      longer,
      ap length is,
      length-framed (payload entry),
      length-append (blocks (payloads history)) (1 ∷ framed (payload entry)),
    )
