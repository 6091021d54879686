-- Reading ahead from a link.
use Rattle.std.specs.Prelude.{ℕ, ◌≡◌, ◌≤◌, ⊤, List, [], ◌++◌, Option, Ok, ◌+◌, length, take}
use Rattle.std.specs.Io.KnownBytes.{prepend_known, Keeps, IsAtEnd}
use Rattle.httparse.specs.Grammar.{RequestHead, HasNoRequest, MayBecomeRequest}
use Rattle.kb_base.specs.Faults.{Rose}
use Rattle.kb_http.specs.declared.head.Head.{Head}
use Rattle.kb_http.specs.declared.head.Seen.{Seen}
use Rattle.kb_http.specs.declared.head.Seen.TheVariants.{Whole, Part, Refused}
use Rattle.kb_http.specs.declared.stop.Stop.{Stop}
use Rattle.kb_http.specs.declared.stop.Stop.TheVariants.{Refuse, Closed, Cut, InputFault, NoMemory}
use Rattle.kb_http.specs.Heads.{max_head, max_body}
use Rattle.kb_http.specs.Requests.{IsRefused, IsCutShort}
use Rattle.kb_http.specs.Private.Parts.{IsWhole}

-- Bytes were read ahead: what is unread stays the same, where it is known, the bytes that were read grow at
-- their end, and the output is as it was.
pub record ReadsAhead {L : Type 0} (left written : L → Option (List ℕ)) (output_faults : L → ℕ) (old new : L)
    (old_pending new_pending : List ℕ) : Type 0 where
  pub kept : Keeps (prepend_known old_pending (left old)) (prepend_known new_pending (left new))
  pub grown : (more : List ℕ) × (new_pending ≡ old_pending ++ more)
  pub output : written new ≡ written old
  pub output_calm : output_faults new ≡ output_faults old

-- reading stops by a fault that was counted, or for want of memory
abbrev pub IsReadFault : ℕ → ℕ → Stop → Type 0
IsReadFault old new (Refuse status) = ⊥
IsReadFault old new Closed = ⊥
IsReadFault old new Cut = ⊥
IsReadFault old new InputFault = Rose old new
IsReadFault old new NoMemory = ⊤

-- the count of faults stands still, unless reading stops by a fault
abbrev pub StandsStill : ℕ → ℕ → Stop → Type 0
StandsStill old new (Refuse status) = new ≡ old
StandsStill old new Closed = new ≡ old
StandsStill old new Cut = new ≡ old
StandsStill old new InputFault = ⊤
StandsStill old new NoMemory = new ≡ old

-- why no request is given: of the counts of faults, of what is left in the link, and of the bytes read
abbrev pub Stops : ℕ → ℕ → Option (List ℕ) → List ℕ → Stop → Type 0
Stops old new left pending (Refuse status) = IsRefused status pending
Stops old new left pending Closed = (pending ≡ []) × IsAtEnd left
Stops old new left pending Cut = IsCutShort pending × IsAtEnd left
Stops old new left pending InputFault = Rose old new
Stops old new left pending NoMemory = ⊤

-- the bytes begin with this head, which is short enough
abbrev pub HasHead : List ℕ → Head → Type 0
HasHead bytes found = (head : RequestHead) × IsWhole bytes found head × (found.len ≤ max_head)

-- what is seen of bytes, of which only as many are looked at as a head may have
abbrev pub Looks : List ℕ → Seen → Type 0
Looks bytes (Whole found) = HasHead bytes found
Looks bytes Part = HasNoRequest (take max_head bytes) × MayBecomeRequest (take max_head bytes)
Looks bytes (Refused status) = IsRefused status bytes

-- the bytes begin with this head and a body of so many bytes
abbrev pub HasWhole : List ℕ → Head → ℕ → Type 0
HasWhole bytes found count =
    HasHead bytes found × (found.body ≡ Ok count) × (count ≤ max_body) × (found.len + count ≤ length bytes)
