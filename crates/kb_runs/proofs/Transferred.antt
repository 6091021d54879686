-- What was read and written so far, as a run goes on and is ended.
use Rattle.std.proofs.Common.{◌≡◌, inl, inr, ℕ, ◌+◌, ◌<◌, ◌≤◌, Option, List, [], ◌++◌, length, sym, subst}
use Rattle.std.proofs.Common.{append-nil, append_assoc, length-append, arith}
use Rattle.std.specs.Io.KnownBytes.{Consumes, Keeps, IsAtEnd}
use Rattle.std.proofs.KnownBytes.{Consumes-nil, Consumes-trans, Consumes-kept, Appends-nil, Appends-trans}
use Rattle.std.proofs.KnownBytes.{Keeps-refl}
use Rattle.kb_base.specs.Machine.{Machine}
use Rattle.kb_base.specs.Private.Midstream.{IsAt, Moves, EndsPiece}
use Rattle.kb_base.specs.Stream.{Writes, IsDone, IsBroken, IsGivenUp}
use Rattle.kb_base.proofs.Sessions.{start, broken, given_up-last, given_up-cut, given_up-done, overlong-moved}
use Rattle.kb_base.proofs.Sessions.{done-piece}
use Rattle.kb_runs.specs.declared.run_stop.RunStop.{RunStop}
use Rattle.kb_runs.specs.declared.run_stop.RunStop.TheVariants.{Input, Output, Memory, LineTooLong}
use Rattle.kb_runs.specs.declared.run_stop.RunStop.TheVariants.{InputTooLong}
use Rattle.kb_runs.specs.Reading.{Transfers, Ends, StopsBy, max_input}
use Rattle.kb_runs.specs.Private.Stopping.{BreaksAmong, StopsAtLast, TriesPiece}

-- a run in mid-stream: so many bytes were read, and the lines that have ended are answered
abbrev pub IsUnderWay : {S : Type 0} → Machine S (List ℕ) → S → Option (List ℕ) → Option (List ℕ)
    → Option (List ℕ) → Option (List ℕ) → ℕ → S → List ℕ → Type 0
IsUnderWay machine first left left_after written written_after seen state pending =
    Transfers left left_after written written_after
    (λ bytes text. (length bytes ≡ seen) × IsAt machine first bytes state pending text)

-- a run begins under way
pub under_way-start : {S : Type 0} (machine : Machine S (List ℕ)) (first : S) (left written : Option (List ℕ))
    (pending : List ℕ) (seen : ℕ)
    → pending ≡ [] → seen ≡ 0 → IsUnderWay machine first left left written written seen first pending
under_way-start machine first left written pending seen none zero = (
  [],
  Consumes-nil
      left,
  (
    [],
    Appends-nil
        written,
    (sym zero, subst (λ p. IsAt machine first [] first p []) (sym none) (start machine first)),
  ),
)

-- some bytes more are read, and what they move is written
pub under_way-more : {S : Type 0} (machine : Machine S (List ℕ)) (first state next : S)
    (left mid right written before after : Option (List ℕ)) (seen count : ℕ)
    (pending next_pending front : List ℕ)
    → IsUnderWay machine first left mid written before seen state pending
    → Consumes mid right front → length front ≡ count
    → Writes before after (λ text. Moves machine state pending front next next_pending text)
    → IsUnderWay machine first left right written after (seen + count) next next_pending
under_way-more machine first state next left mid right written before after seen count pending next_pending
    front (bytes, read, said) more long moved = (
      bytes ++ front,
      Consumes-trans left mid right bytes front read more,
      (
        said.0 ++ moved.0,
        Appends-trans written before after said.0 moved.0 said.1 moved.1,
        (omega (arith, length-append bytes front), moved.2 first bytes said.0 said.2.1),
      ),
    )

-- the input breaks off
pub under_way-broken : {S : Type 0} (machine : Machine S (List ℕ)) (first state : S)
    (left mid right written after : Option (List ℕ)) (seen : ℕ) (pending : List ℕ)
    → IsUnderWay machine first left mid written after seen state pending → Keeps mid right
    → Transfers left right written after
    (λ bytes text. (length bytes ≡ seen) × IsBroken machine first bytes text state)
under_way-broken machine first state left mid right written after seen pending (bytes, read, said) kept = (
  bytes,
  Consumes-kept left mid right bytes read kept,
  (said.0, said.1, (said.2.0, broken machine first state bytes pending said.0 said.2.1)),
)

-- the input ends
pub under_way-done : {S : Type 0} (machine : Machine S (List ℕ)) (first state next : S)
    (left mid right written before after : Option (List ℕ)) (seen : ℕ) (pending none : List ℕ)
    → IsUnderWay machine first left mid written before seen state pending
    → Consumes mid right none → none ≡ []
    → Writes before after (λ text. EndsPiece machine state pending next text)
    → Transfers left right written after
    (λ bytes text. (length bytes ≡ seen) × IsDone machine first bytes text next)
under_way-done machine first state next left mid right written before after seen pending none
    (bytes, read, said) more empty ended = (
      bytes,
      subst (λ bs. Consumes left right bs) (append-nil bytes)
          (Consumes-trans left mid right bytes [] read (subst (λ bs. Consumes mid right bs) empty more)),
      (
        said.0 ++ ended.0,
        Appends-trans written before after said.0 ended.0 said.1 ended.1,
        (said.2.0, done-piece machine first state next bytes pending said.0 ended.0 said.2.1 ended.2),
      ),
    )

-- the run is stopped among the bytes that were read last
pub under_way-stopped : {S : Type 0} (machine : Machine S (List ℕ)) (first state next : S)
    (left mid right written before after : Option (List ℕ)) (seen : ℕ) (pending next_pending front : List ℕ)
    (stop : RunStop)
    → IsUnderWay machine first left mid written before seen state pending → Consumes mid right front
    → Writes before after (λ text. BreaksAmong machine state pending front stop next next_pending text)
    → StopsBy machine first stop left right written after next
under_way-stopped machine first state next left mid right written before after seen pending next_pending front
    Memory (bytes, read, said) more broke = (
      bytes ++ front,
      Consumes-trans left mid right bytes front read more,
      (
        said.0 ++ broke.0,
        Appends-trans written before after said.0 broke.0 said.1 broke.1,
        given_up-cut machine first state next bytes pending said.0 front next_pending broke.0 said.2.1
            broke.2,
      ),
    )
under_way-stopped machine first state next left mid right written before after seen pending next_pending front
    LineTooLong (bytes, read, said) more broke = (
      bytes ++ front,
      Consumes-trans left mid right bytes front read more,
      (
        said.0 ++ broke.0,
        Appends-trans written before after said.0 broke.0 said.1 broke.1,
        overlong-moved machine first state next bytes pending said.0 front next_pending broke.0 said.2.1
            broke.2,
      ),
    )
under_way-stopped machine first state next left mid right written before after seen pending next_pending front
    Output (bytes, read, said) more (text, sent, cut) = (
      bytes ++ front,
      Consumes-trans left mid right bytes front read more,
      (
        said.0 ++ text,
        Appends-trans written before after said.0 text said.1 sent,
        record {
          unwritten = cut.0;
          answers = subst (λ t. IsGivenUp machine first (bytes ++ front) t next)
              (sym (append_assoc said.0 text cut.0))
              (given_up-cut machine first state next bytes pending said.0 front next_pending
              (text ++ cut.0) said.2.1 cut.1);
        },
      ),
    )
under_way-stopped machine first state next left mid right written before after seen pending next_pending front
    Input under_way more broke = absurd broke.2
under_way-stopped machine first state next left mid right written before after seen pending next_pending front
    InputTooLong under_way more broke = absurd broke.2

-- the last piece was tried
given_up-tried : {S : Type 0} (machine : Machine S (List ℕ)) (first state next : S)
    (bytes pending text said : List ℕ)
    → IsAt machine first bytes state pending text → TriesPiece machine state pending next said
    → IsGivenUp machine first bytes (text ++ said) next
given_up-tried machine first state next bytes pending text said at (inl ended) =
    given_up-done machine first next bytes (text ++ said)
    (done-piece machine first state next bytes pending text said at ended)
given_up-tried machine first state next bytes pending text said at (inr cut) =
    given_up-last machine first state next bytes pending text said at cut

-- the run is stopped at the last piece, when the input has ended
pub under_way-last : {S : Type 0} (machine : Machine S (List ℕ)) (first state next : S)
    (left mid right written before after : Option (List ℕ)) (seen : ℕ) (pending none : List ℕ) (stop : RunStop)
    → IsUnderWay machine first left mid written before seen state pending → Consumes mid right none
    → none ≡ []
    → Writes before after (λ text. StopsAtLast machine state pending stop next text)
    → StopsBy machine first stop left right written after next
under_way-last machine first state next left mid right written before after seen pending none Memory
    (bytes, read, said) more empty (text, sent, cut) = (
      bytes,
      subst (λ bs. Consumes left right bs) (append-nil bytes)
          (Consumes-trans left mid right bytes [] read (subst (λ bs. Consumes mid right bs) empty more)),
      (
        said.0 ++ text,
        Appends-trans written before after said.0 text said.1 sent,
        given_up-last machine first state next bytes pending said.0 text said.2.1 cut,
      ),
    )
under_way-last machine first state next left mid right written before after seen pending none Output
    (bytes, read, said) more empty (text, sent, cut) = (
      bytes,
      subst (λ bs. Consumes left right bs) (append-nil bytes)
          (Consumes-trans left mid right bytes [] read (subst (λ bs. Consumes mid right bs) empty more)),
      (
        said.0 ++ text,
        Appends-trans written before after said.0 text said.1 sent,
        record {
          unwritten = cut.0;
          answers = subst (λ t. IsGivenUp machine first bytes t next) (sym (append_assoc said.0 text cut.0))
              (given_up-tried machine first state next bytes pending said.0 (text ++ cut.0) said.2.1 cut.1);
        },
      ),
    )
under_way-last machine first state next left mid right written before after seen pending none LineTooLong
    under_way more empty broke = absurd broke.2
under_way-last machine first state next left mid right written before after seen pending none Input under_way
    more empty broke = absurd broke.2
under_way-last machine first state next left mid right written before after seen pending none InputTooLong
    under_way more empty broke = absurd broke.2

-- the input fails before so many bytes were read that the run is stopped
pub under_way-input : {S : Type 0} (machine : Machine S (List ℕ)) (first state : S)
    (left mid right written after : Option (List ℕ)) (seen : ℕ) (pending : List ℕ)
    → IsUnderWay machine first left mid written after seen state pending → Keeps mid right → seen < max_input
    → StopsBy machine first Input left right written after state
under_way-input machine first state left mid right written after seen pending under_way kept below =
    let all = under_way-broken machine first state left mid right written after seen pending under_way kept in
    let long = all.2.2.0 in
    (all.0, all.1, (all.2.0, all.2.1, (omega (arith, long), all.2.2.1)))

-- so many bytes were read that the run is stopped
pub under_way-too_long : {S : Type 0} (machine : Machine S (List ℕ)) (first state : S)
    (left right written after : Option (List ℕ)) (seen : ℕ) (pending : List ℕ)
    → IsUnderWay machine first left right written after seen state pending → max_input ≤ seen
    → StopsBy machine first InputTooLong left right written after state
under_way-too_long machine first state left right written after seen pending under_way over =
    let all = under_way-broken machine first state left right right written after seen pending under_way
    (Keeps-refl right) in
    let long = all.2.2.0 in
    (all.0, all.1, (all.2.0, all.2.1, (omega (arith, long), all.2.2.1)))

-- the input ends before so many bytes were read that the run is stopped
pub under_way-end : {S : Type 0} (machine : Machine S (List ℕ)) (first state next : S)
    (left mid right written before after : Option (List ℕ)) (seen : ℕ) (pending none : List ℕ)
    → IsUnderWay machine first left mid written before seen state pending
    → Consumes mid right none → none ≡ [] → IsAtEnd right
    → Writes before after (λ text. EndsPiece machine state pending next text) → seen < max_input
    → Ends machine first left right written after next
under_way-end machine first state next left mid right written before after seen pending none under_way more
    empty end ended below =
    let all = under_way-done machine first state next left mid right written before after seen pending none
    under_way more empty ended in
    let long = all.2.2.0 in
    (end, (all.0, all.1, (all.2.0, all.2.1, (omega (arith, long), all.2.2.1))))
