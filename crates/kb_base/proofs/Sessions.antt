-- A machine over a stream goes on byte by byte, and is ended by the end of the input, by a fault or by a
-- bound.
use Rattle.std.proofs.Common.{◌≡◌, ◌≢◌, ◌⊎◌, inl, inr, ℕ, ◌<◌, ◌≤◌, Bool, true, false, ◌&&◌, List, [], ◌∷◌}
use Rattle.std.proofs.Common.{◌++◌, length, refl, sym, ap, ◌∙◌, subst, append_assoc}
use Rattle.std.proofs.Common.{append-nil, arith, length-append}
use Rattle.std.specs.Prelude.{◌==◌, take_while, MatchBool}
use Rattle.std.specs.List.{list_all}
use Rattle.std.proofs.lemmas.List.Folds.{list_all-append}
use Rattle.std.proofs.lemmas.List.Elements.{filter-append}
use Rattle.std.proofs.lemmas.Bool.Decides.{nat_tests}
use Rattle.kb_base.specs.Lines.{pieces, lines_of, line_feed, is_line, is_short, max_line}
use Rattle.kb_base.specs.Machine.{Machine, IsRun}
use Rattle.kb_base.specs.Stream.{IsDone, IsBroken, IsOverlong, IsGivenUp, HasShortLines, ended, CutsPiece}
use Rattle.kb_base.specs.Stream.{CutsFirst}
use Rattle.kb_base.specs.Private.Midstream.{IsAt, Moves, EndsPiece, CutsAmong, MovesToCut, MovesToOverlong}
use Rattle.kb_base.proofs.Pieces.{pieces-grown, pieces-some}

-- a run goes on with another run
pub run-append : {S I : Type 0} (machine : Machine S I) (first mid last : S) (inputs more : List I)
    (text added : List ℕ)
    → IsRun machine first inputs text mid → IsRun machine mid more added last
    → IsRun machine first (inputs ++ more) (text ++ added) last
run-append machine first mid last [] more text added one two =
    subst (λ t. IsRun machine first more (t ++ added) last) (sym one.0)
    (subst (λ s. IsRun machine s more added last) one.1 two)
run-append machine first mid last (input ∷ inputs) more text added
    (said, rest, next, stepped, split, ran) two = (
      said,
      rest ++ added,
      next,
      stepped,
      ap (λ t. t ++ added) split ∙ append_assoc said rest added,
      run-append machine next mid last inputs more rest added ran two,
    )

-- one step is a run over one input
pub run-step : {S I : Type 0} (machine : Machine S I) (first last : S) (input : I) (said : List ℕ)
    → machine.step first input said last → IsRun machine first (input ∷ []) said last
run-step machine first last input said stepped =
    (said, [], last, stepped, sym (append-nil said), (refl, refl))

-- the lines of some pieces and one more
lines_of-line : (whole : List (List ℕ)) (piece : List ℕ) → is_line piece ≡ true
    → lines_of (whole ++ piece ∷ []) ≡ lines_of whole ++ piece ∷ []
lines_of-line whole piece h = filter-append is_line whole (piece ∷ []) ∙ rw h refl

lines_of-skip : (whole : List (List ℕ)) (piece : List ℕ) → is_line piece ≡ false
    → lines_of (whole ++ piece ∷ []) ≡ lines_of whole
lines_of-skip whole piece h = filter-append is_line whole (piece ∷ []) ∙ rw h (append-nil (lines_of whole))

-- before any byte
pub start : {S : Type 0} (machine : Machine S (List ℕ)) (first : S) → IsAt machine first [] first [] []
start machine first = record { answered = []; split = refl; short = refl; ran = (refl, refl) }

and-left : (a b : Bool) → (a && b) ≡ true → a ≡ true
and-left true b h = refl
and-left false b h = absurd (cc)

and-right : (a b : Bool) → (a && b) ≡ true → b ≡ true
and-right true b h = h
and-right false b h = absurd (cc)

both : (a b : Bool) → a ≡ true → b ≡ true → (a && b) ≡ true
both true b h k = k
both false b h k = absurd (cc)

-- all pieces but the last are short where all are
short-front : (whole : List (List ℕ)) (last : List ℕ) → list_all is_short (whole ++ last ∷ []) ≡ true
    → list_all is_short whole ≡ true
short-front whole last h = and-left _ _ (sym (list_all-append is_short whole (last ∷ [])) ∙ h)

-- pieces are short together
short-join : (whole more : List (List ℕ)) → list_all is_short whole ≡ true → list_all is_short more ≡ true
    → list_all is_short (whole ++ more) ≡ true
short-join whole more h k = list_all-append is_short whole more ∙ both _ _ h k

short-one : (piece : List ℕ) → length piece ≤ max_line → list_all is_short (piece ∷ []) ≡ true
short-one piece h = grind (arith, nat_tests)

-- one move after another is a move
pub moves-then : {S : Type 0} (machine : Machine S (List ℕ)) (old mid new : S)
    (old_pending mid_pending new_pending front back said more : List ℕ)
    → Moves machine old old_pending front mid mid_pending said
    → Moves machine mid mid_pending back new new_pending more
    → Moves machine old old_pending (front ++ back) new new_pending (said ++ more)
moves-then machine old mid new old_pending mid_pending new_pending front back said more one two first
    seen text at =
    subst (λ t. IsAt machine first (seen ++ (front ++ back)) new new_pending t) (append_assoc text said more)
    (subst (λ s. IsAt machine first s new new_pending ((text ++ said) ++ more)) (append_assoc seen front back)
    (two first (seen ++ front) (text ++ said) (one first seen text at)))

piece_of_byte : (byte : ℕ) → (byte == line_feed) ≡ false → pieces line_feed (byte ∷ []) ≡ (byte ∷ []) ∷ []
piece_of_byte byte h = rw h refl

-- a byte of a line is pending, and nothing is said
pub moves-byte : {S : Type 0} (machine : Machine S (List ℕ)) (state : S) (pending : List ℕ) (byte : ℕ)
    → (byte == line_feed) ≡ false → length pending < max_line
    → Moves machine state pending (byte ∷ []) state (pending ++ byte ∷ []) []
moves-byte machine state pending byte other room first seen text at =
    let split = pieces-grown line_feed seen (byte ∷ []) at.answered pending (byte ∷ []) [] at.split
    (piece_of_byte byte other) in
    let old_short = subst (λ ps. list_all is_short ps ≡ true) at.split at.short in
    let new_short = short-join at.answered ((pending ++ byte ∷ []) ∷ [])
    (short-front at.answered pending old_short)
    (short-one (pending ++ byte ∷ []) (omega (arith, length-append pending (byte ∷ [])))) in
    record {
      answered = at.answered;
      split = split;
      short = subst (λ ps. list_all is_short ps ≡ true) (sym split) new_short;
      ran = subst (λ t. IsRun machine first (lines_of at.answered) t state) (sym (append-nil text)) at.ran;
    }

feed_split : (seen pending : List ℕ) (answered : List (List ℕ))
    → pieces line_feed seen ≡ answered ++ pending ∷ []
    → pieces line_feed (seen ++ line_feed ∷ []) ≡ (answered ++ pending ∷ []) ++ [] ∷ []
feed_split seen pending answered split =
    pieces-grown line_feed seen (line_feed ∷ []) answered pending [] ([] ∷ []) split refl
    ∙ rw append-nil (sym (append_assoc answered (pending ∷ []) ([] ∷ [])))

feed_short : (seen pending : List ℕ) (answered : List (List ℕ))
    → pieces line_feed seen ≡ answered ++ pending ∷ []
    → HasShortLines seen → HasShortLines (seen ++ line_feed ∷ [])
feed_short seen pending answered split short =
    subst (λ ps. list_all is_short ps ≡ true) (sym (feed_split seen pending answered split))
    (short-join (answered ++ pending ∷ []) ([] ∷ [])
    (subst (λ ps. list_all is_short ps ≡ true) split short) refl)

-- a line feed ends a line, which is answered
pub moves-line : {S : Type 0} (machine : Machine S (List ℕ)) (state next : S) (pending said : List ℕ)
    → is_line pending ≡ true → machine.step state pending said next
    → Moves machine state pending (line_feed ∷ []) next [] said
moves-line machine state next pending said line stepped first seen text at = record {
  answered = at.answered ++ pending ∷ [];
  split = feed_split seen pending at.answered at.split;
  short = feed_short seen pending at.answered at.split at.short;
  ran = subst (λ ls. IsRun machine first ls (text ++ said) next)
      (sym (lines_of-line at.answered pending line))
      (run-append machine first state next (lines_of at.answered) (pending ∷ []) text said at.ran
      (run-step machine state next pending said stepped));
}

-- a line feed ends a piece that is no line, which is skipped
pub moves-skip : {S : Type 0} (machine : Machine S (List ℕ)) (state : S) (pending : List ℕ)
    → is_line pending ≡ false → Moves machine state pending (line_feed ∷ []) state [] []
moves-skip machine state pending line first seen text at = record {
  answered = at.answered ++ pending ∷ [];
  split = feed_split seen pending at.answered at.split;
  short = feed_short seen pending at.answered at.split at.short;
  ran = subst (λ ls. IsRun machine first ls (text ++ []) state) (sym (lines_of-skip at.answered pending line))
      (subst (λ t. IsRun machine first (lines_of at.answered) t state) (sym (append-nil text)) at.ran);
}

-- a line feed ends a piece
pub moves-piece : {S : Type 0} (machine : Machine S (List ℕ)) (state next : S) (pending added : List ℕ)
    → EndsPiece machine state pending next added → Moves machine state pending (line_feed ∷ []) next [] added
moves-piece {S} machine state next pending added ends = by_test (is_line pending) refl ends
  where
    by_test : (test : Bool) → is_line pending ≡ test
        → MatchBool test (machine.step state pending added next) ((next ≡ state) × (added ≡ []))
        → Moves machine state pending (line_feed ∷ []) next [] added
    by_test true line stepped = moves-line machine state next pending added line stepped
    by_test false line same =
        subst (λ t. Moves machine state pending (line_feed ∷ []) next [] t) (sym same.1)
        (subst (λ s. Moves machine state pending (line_feed ∷ []) s [] []) (sym same.0)
        (moves-skip machine state pending line))

-- the same, where the byte and the pending bytes after it are known by equations
pub moves-piece-at : {S : Type 0} (machine : Machine S (List ℕ)) (state next : S)
    (pending new_pending added : List ℕ) (byte : ℕ)
    → byte ≡ line_feed → new_pending ≡ [] → EndsPiece machine state pending next added
    → Moves machine state pending (byte ∷ []) next new_pending added
moves-piece-at machine state next pending new_pending added byte feed none ends =
    subst (λ b. Moves machine state pending (b ∷ []) next new_pending added) (sym feed)
    (subst (λ p. Moves machine state pending (line_feed ∷ []) next p added) (sym none)
    (moves-piece machine state next pending added ends))

other_byte : (byte : ℕ) → byte ≢ line_feed → (byte == line_feed) ≡ false
other_byte byte other = grind (arith, nat_tests)

pub moves-byte-at : {S : Type 0} (machine : Machine S (List ℕ)) (state : S) (pending new_pending : List ℕ)
    (byte : ℕ)
    → byte ≢ line_feed → length pending < max_line → new_pending ≡ pending ++ byte ∷ []
    → Moves machine state pending (byte ∷ []) state new_pending []
moves-byte-at machine state pending new_pending byte other room more =
    subst (λ p. Moves machine state pending (byte ∷ []) state p []) (sym more)
    (moves-byte machine state pending byte (other_byte byte other) room)

-- the input ends, and the pending piece is a last line
pub done-line : {S : Type 0} (machine : Machine S (List ℕ)) (first state next : S)
    (seen pending text said : List ℕ)
    → IsAt machine first seen state pending text → is_line pending ≡ true
    → machine.step state pending said next
    → IsDone machine first seen (text ++ said) next
done-line machine first state next seen pending text said at line stepped = record {
  short = at.short;
  ran = subst (λ ps. IsRun machine first (lines_of ps) (text ++ said) next) (sym at.split)
      (subst (λ ls. IsRun machine first ls (text ++ said) next) (sym (lines_of-line at.answered pending line))
      (run-append machine first state next (lines_of at.answered) (pending ∷ []) text said at.ran
      (run-step machine state next pending said stepped)));
}

-- the input ends, and the pending piece is no line
pub done-skip : {S : Type 0} (machine : Machine S (List ℕ)) (first state : S) (seen pending text : List ℕ)
    → IsAt machine first seen state pending text → is_line pending ≡ false
    → IsDone machine first seen text state
done-skip machine first state seen pending text at line = record {
  short = at.short;
  ran = subst (λ ps. IsRun machine first (lines_of ps) text state) (sym at.split)
      (subst (λ ls. IsRun machine first ls text state) (sym (lines_of-skip at.answered pending line)) at.ran);
}

ended-last : (whole : List (List ℕ)) (last : List ℕ) → ended (whole ++ last ∷ []) ≡ whole
ended-last [] last = refl
ended-last (piece ∷ []) last = refl
ended-last (piece ∷ next ∷ more) last = ap (λ ps. piece ∷ ps) (ended-last (next ∷ more) last)

-- the input ends, and so does the pending piece
pub done-piece : {S : Type 0} (machine : Machine S (List ℕ)) (first state next : S)
    (seen pending text added : List ℕ)
    → IsAt machine first seen state pending text → EndsPiece machine state pending next added
    → IsDone machine first seen (text ++ added) next
done-piece {S} machine first state next seen pending text added at ends = by_test (is_line pending) refl ends
  where
    by_test : (test : Bool) → is_line pending ≡ test
        → MatchBool test (machine.step state pending added next) ((next ≡ state) × (added ≡ []))
        → IsDone machine first seen (text ++ added) next
    by_test true line stepped = done-line machine first state next seen pending text added at line stepped
    by_test false line same =
        subst (λ t. IsDone machine first seen (text ++ t) next) (sym same.1)
        (subst (λ t. IsDone machine first seen t next) (sym (append-nil text))
        (subst (λ s. IsDone machine first seen text s) (sym same.0)
        (done-skip machine first state seen pending text at line)))

-- the reading breaks off
pub broken : {S : Type 0} (machine : Machine S (List ℕ)) (first state : S) (seen pending text : List ℕ)
    → IsAt machine first seen state pending text → IsBroken machine first seen text state
broken machine first state seen pending text at = record {
  short = at.short;
  ran = subst (λ ps. IsRun machine first (lines_of (ended ps)) text state) (sym at.split)
      (subst (λ ps. IsRun machine first (lines_of ps) text state)
      (sym (ended-last at.answered pending)) at.ran);
}

-- the machine gives up before the pending line or in it, whatever bytes follow
given_up-at : {S : Type 0} (machine : Machine S (List ℕ)) (first state last : S)
    (seen pending text said more other : List ℕ)
    (others : List (List ℕ)) → IsAt machine first seen state pending text
    → pieces line_feed more ≡ other ∷ others
    → ((said ≡ []) × (last ≡ state)) ⊎ CutsFirst machine state ((pending ++ other) ∷ others) said last
    → IsGivenUp machine first (seen ++ more) (text ++ said) last
given_up-at machine first state last seen pending text said more other others at split left = record {
  answered = at.answered;
  unread = (pending ++ other) ∷ others;
  split = pieces-grown line_feed seen more at.answered pending other others at.split split;
  answers = text;
  middle = state;
  ran = at.ran;
  said = said;
  written = refl;
  left = left;
}

-- it gives up before the pending line
given_up-before : {S : Type 0} (machine : Machine S (List ℕ)) (first state last : S)
    (seen pending text said more : List ℕ)
    → IsAt machine first seen state pending text → (said ≡ []) × (last ≡ state)
    → IsGivenUp machine first (seen ++ more) (text ++ said) last
given_up-before machine first state last seen pending text said more at none =
    let some = pieces-some line_feed more in
    given_up-at machine first state last seen pending text said more some.0 some.1 at some.2 (inl none)

-- it gives up in the pending line, which a line feed or the end of the bytes ended
given_up-in : {S : Type 0} (machine : Machine S (List ℕ)) (first state last : S)
    (seen pending text said more : List ℕ)
    (others : List (List ℕ)) → IsAt machine first seen state pending text
    → pieces line_feed more ≡ [] ∷ others
    → CutsPiece machine state pending said last → IsGivenUp machine first (seen ++ more) (text ++ said) last
given_up-in machine first state last seen pending text said more others at split cut =
    given_up-at machine first state last seen pending text said more [] others at split
    (inr (subst (λ piece. CutsPiece machine state piece said last) (sym (append-nil pending)) cut))

-- it gives up among some bytes
given_up-among : {S : Type 0} (machine : Machine S (List ℕ)) (first state last : S)
    (seen pending text said rest : List ℕ)
    → IsAt machine first seen state pending text → CutsAmong machine state pending rest said last
    → IsGivenUp machine first (seen ++ rest) (text ++ said) last
given_up-among machine first state last seen pending text said [] at none =
    given_up-before machine first state last seen pending text said [] at none
given_up-among machine first state last seen pending text said (byte ∷ rest) at (inl none) =
    given_up-before machine first state last seen pending text said (byte ∷ rest) at none
given_up-among machine first state last seen pending text said (byte ∷ rest) at (inr (feed, cut)) =
    given_up-in machine first state last seen pending text said (byte ∷ rest) (pieces line_feed rest) at
    (rw feed refl) cut

-- it gives up in the last piece, when the input has ended
pub given_up-last : {S : Type 0} (machine : Machine S (List ℕ)) (first state last : S)
    (seen pending text said : List ℕ)
    → IsAt machine first seen state pending text → CutsPiece machine state pending said last
    → IsGivenUp machine first seen (text ++ said) last
given_up-last machine first state last seen pending text said at cut =
    subst (λ bs. IsGivenUp machine first bs (text ++ said) last) (append-nil seen)
    (given_up-in machine first state last seen pending text said [] [] at refl cut)

prefix_len-all : (whole : List (List ℕ)) (long : List ℕ) (more : List (List ℕ))
    → list_all is_short whole ≡ true → is_short long ≡ false
    → take_while is_short (whole ++ long ∷ more) ≡ whole
prefix_len-all [] long more short over = rw over refl
prefix_len-all (piece ∷ whole) long more short over =
    let here : is_short piece ≡ true = and-left (is_short piece) (list_all is_short whole) short in
    let rest : list_all is_short whole ≡ true = and-right (is_short piece) (list_all is_short whole) short in
    let later : take_while is_short
    (whole ++ long ∷ more) ≡ whole = prefix_len-all whole long more rest over in
    rw here (grind arith)

first_piece : (byte : ℕ) (rest : List ℕ) → (byte == line_feed) ≡ false
    → (front : List ℕ) × (others : List (List ℕ)) × (pieces line_feed (byte ∷ rest) ≡ (byte ∷ front) ∷ others)
first_piece byte rest other =
    let some = pieces-some line_feed rest in
    (some.0, some.1, rw (other, some.2) refl)

over-long : (pending front : List ℕ) (byte : ℕ) → max_line ≤ length pending
    → is_short (pending ++ byte ∷ front) ≡ false
over-long pending front byte full =
    let len = length-append pending (byte ∷ front) in
    grind (arith, nat_tests)

all-false : (whole : List (List ℕ)) (long : List ℕ) (more : List (List ℕ)) → is_short long ≡ false
    → list_all is_short (whole ++ long ∷ more) ≡ false
all-false [] long more over = rw over refl
all-false (piece ∷ whole) long more over = by_test (is_short piece) _ (all-false whole long more over)
  where
    by_test : (test rest : Bool) → rest ≡ false → (test && rest) ≡ false
    by_test true rest e = e
    by_test false rest e = refl

-- a line that is full goes on, whatever bytes follow
pub overlong : {S : Type 0} (machine : Machine S (List ℕ)) (first state : S) (seen pending text : List ℕ)
    (byte : ℕ) (rest : List ℕ)
    → IsAt machine first seen state pending text → max_line ≤ length pending → (byte == line_feed) ≡ false
    → IsOverlong machine first (seen ++ byte ∷ rest) text state
overlong machine first state seen pending text byte rest at full other =
    let some = first_piece byte rest other in
    let split = pieces-grown line_feed seen (byte ∷ rest) at.answered pending
    (byte ∷ some.0) some.1 at.split some.2 in
    let over = over-long pending some.0 byte full in
    let short = short-front at.answered pending
    (subst (λ ps. list_all is_short ps ≡ true) at.split at.short) in
    record {
      long = subst (λ ps. list_all is_short ps ≡ false) (sym split)
          (all-false at.answered (pending ++ byte ∷ some.0) some.1 over);
      ran = subst (λ ps. IsRun machine first (lines_of (take_while is_short ps)) text state) (sym split)
          (subst (λ ps. IsRun machine first (lines_of ps) text state)
          (sym (prefix_len-all at.answered (pending ++ byte ∷ some.0) some.1 short over)) at.ran);
    }

-- some lines are answered, and nothing is said or done after them
given_up-whole : {S : Type 0} (machine : Machine S (List ℕ)) (first last : S) (bytes text : List ℕ)
    (answered unread : List (List ℕ))
    → pieces line_feed bytes ≡ answered ++ unread → IsRun machine first (lines_of answered) text last
    → IsGivenUp machine first bytes text last
given_up-whole machine first last bytes text answered unread split ran = record {
  answered = answered;
  unread = unread;
  split = split;
  answers = text;
  middle = last;
  ran = ran;
  said = [];
  written = sym (append-nil text);
  left = inl (refl, refl);
}

-- the machine has given up nowhere where all is answered
pub given_up-done : {S : Type 0} (machine : Machine S (List ℕ)) (first last : S) (bytes text : List ℕ)
    → IsDone machine first bytes text last → IsGivenUp machine first bytes text last
given_up-done machine first last bytes text done =
    given_up-whole machine first last bytes text (pieces line_feed bytes) []
    (sym (append-nil (pieces line_feed bytes))) done.ran

-- a whole move is a move up to the end
pub cut-whole : {S : Type 0} (machine : Machine S (List ℕ)) (old new : S)
    (old_pending new_pending bytes added : List ℕ)
    → Moves machine old old_pending bytes new new_pending added
    → MovesToCut machine old old_pending bytes new new_pending added
cut-whole machine old new old_pending new_pending bytes added one = record {
  front = bytes;
  rest = [];
  split = sym (append-nil bytes);
  answers = added;
  middle = new;
  moved = one;
  said = [];
  written = sym (append-nil added);
  cut = (refl, refl);
}

-- so is a move that meets a line that is too long, up to that line
pub cut-overlong : {S : Type 0} (machine : Machine S (List ℕ)) (old new : S)
    (old_pending new_pending bytes added : List ℕ)
    → MovesToOverlong machine old old_pending bytes new new_pending added
    → MovesToCut machine old old_pending bytes new new_pending added
cut-overlong machine old new old_pending new_pending bytes added one = record {
  front = one.front;
  rest = one.byte ∷ one.rest;
  split = one.split;
  answers = added;
  middle = new;
  moved = one.moved;
  said = [];
  written = sym (append-nil added);
  cut = inl (refl, refl);
}

-- from some bytes seen, the machine gives up among the next ones
pub given_up-cut : {S : Type 0} (machine : Machine S (List ℕ)) (first state next : S)
    (seen pending text bytes next_pending added : List ℕ)
    → IsAt machine first seen state pending text
    → MovesToCut machine state pending bytes next next_pending added
    → IsGivenUp machine first (seen ++ bytes) (text ++ added) next
given_up-cut machine first state next seen pending text bytes next_pending added at one =
    subst (λ t. IsGivenUp machine first (seen ++ bytes) t next)
    (append_assoc text one.answers one.said ∙ ap (λ t. text ++ t) (sym one.written))
    (subst (λ bs. IsGivenUp machine first bs ((text ++ one.answers) ++ one.said) next)
    (append_assoc seen one.front one.rest ∙ ap (λ bs. seen ++ bs) (sym one.split))
    (given_up-among machine first one.middle next (seen ++ one.front) next_pending
    (text ++ one.answers) one.said one.rest
    (one.moved first seen text at) one.cut))

-- from some bytes seen, a line among the next ones is too long
pub overlong-moved : {S : Type 0} (machine : Machine S (List ℕ)) (first state next : S)
    (seen pending text bytes next_pending added : List ℕ)
    → IsAt machine first seen state pending text
    → MovesToOverlong machine state pending bytes next next_pending added
    → IsOverlong machine first (seen ++ bytes) (text ++ added) next
overlong-moved machine first state next seen pending text bytes next_pending added at one =
    subst (λ bs. IsOverlong machine first bs (text ++ added) next)
    (append_assoc seen one.front (one.byte ∷ one.rest) ∙ ap (λ bs. seen ++ bs) (sym one.split))
    (overlong machine first next (seen ++ one.front) next_pending (text ++ added) one.byte one.rest
    (one.moved first seen text at) one.full one.other)
