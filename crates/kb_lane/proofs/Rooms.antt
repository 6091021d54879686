-- The room of a log is its journal's, as long as no append has failed.
use Rattle.std.proofs.Common.{ℕ, ◌≡◌, ◌+◌, List, [], ◌∷◌, ◌++◌, length, sym, ap, ◌∙◌, arith}
use Rattle.std.proofs.lemmas.List.{map-append}
use Rattle.kb_journal.specs.Format.{body}
use Rattle.kb_journal.specs.Keeping.{IsFull}
use Rattle.kb_journal.proofs.Bodies.{length-body-push}
use Rattle.kb_codec.specs.Entries.{Entry, History, payload, payloads}
use Rattle.kb_lane.specs.Logs.{LogValue, HasNoRoom, written_size}

module _ {D : Type 0} (log : LogValue D) (size : ℕ) (counted : log.journal.count ≡ length log.history)
    (measured : log.journal.gate ≡ written_size log) where
  pub full_journal : HasNoRoom log size → IsFull log.journal size
  full_journal none = rw (counted, measured) none

  pub no_room : IsFull log.journal size → HasNoRoom log size
  no_room full = rw (← counted, ← measured) full

-- one command more, as the journal has it
pub payloads_more : (history : History) (entry : Entry) (bytes : List ℕ) → bytes ≡ payload entry
    → payloads (history ++ entry ∷ []) ≡ payloads history ++ bytes ∷ []
payloads_more history entry bytes is = map-append payload history (entry ∷ [])
    ∙ ap (λ (one : List ℕ). payloads history ++ one ∷ []) (sym is)

-- it takes its bytes and five
pub measured_more : (lanes lane gate : ℕ) (history : History) (entry : Entry) (bytes : List ℕ)
    → bytes ≡ payload entry → gate ≡ length (body lanes lane (payloads history))
    → gate + length bytes + 5 ≡ length (body lanes lane (payloads (history ++ entry ∷ [])))
measured_more lanes lane gate history entry bytes is before = omega (
  arith,
  before,
  ap (λ (l : List (List ℕ)). length (body lanes lane l)) (payloads_more history entry bytes is),
  length-body-push lanes lane (payloads history) bytes,
)
