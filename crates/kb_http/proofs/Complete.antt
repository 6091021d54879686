-- The causes of a connection's answers rule each other out.
use Rattle.std.proofs.Common.{◌≡◌, ◌≢◌, ℕ, ◌≤◌, ◌<◌, Bool, true, false, List, [], ◌∷◌, ◌++◌, length, take}
use Rattle.std.proofs.Common.{drop, refl, sym, ap, ◌∙◌, subst, inl, inr, append_assoc, append-nil}
use Rattle.std.proofs.Common.{take-append-drop, take-take, arith, Option, None, Some, Result, Ok, Err, get_or}
use Rattle.std.proofs.lemmas.List.{length-append, take_at}
use Rattle.std.specs.List.{list_all}
use Rattle.std.proofs.lemmas.List.Folds.{list_all_at}
use lib.Seq.{take-append-le}
use Rattle.std.specs.Prelude.{codes}
use Rattle.std.specs.Io.KnownBytes.{prepend_known, Keeps, Consumes}
use Rattle.httparse.specs.Grammar.{RequestHead, IsRequestHead, ReadsRequest, print_request, is_token_byte}
use Rattle.httparse.specs.Grammar.{is_uri_byte, crlf, print_blank}
use Rattle.httparse.proofs.GrammarLemmas.{ReadsRequest-append, request_unique, print_request-append}
use Rattle.kb_http.specs.declared.request.HttpRequest.{HttpRequest}
use Rattle.kb_http.specs.declared.stop.HttpNext.{HttpNext}
use Rattle.kb_http.specs.declared.stop.HttpNext.TheVariants.{Request, Refuse, Closed, Cut, InputFault}
use Rattle.kb_http.specs.declared.stop.HttpNext.TheVariants.{NoMemory}
use Rattle.kb_http.specs.Heads.{max_head, max_fields, framing}
use Rattle.kb_http.specs.Requests.{BeginsWith, IsRequest, IsRefused, IsCutShort}
use Rattle.kb_http.specs.Connections.{IsCaused, IfRequest, UnlessRequest, Meets, MeetsPart, MeetsEnd}

-- a head isn't empty
some_text : (a b c whole : List ℕ) → whole ≡ a ++ (b ++ c) → 0 < length b → 0 < length whole
some_text a b c whole is some =
    let sized = ap length is ∙ length-append a (b ++ c) in
    omega (arith, sized, some, length-append b c)

pub head_some : (h : RequestHead) → IsRequestHead h → 0 < length (print_request h)
head_some h is =
    some_text (print_blank h.blank) h.method _ (print_request h)
    (sym (append-nil (print_request h)) ∙ print_request-append h []) is.method.0

no_head : (h : RequestHead) (rest : List ℕ) → ReadsRequest [] h rest → ⊥
no_head h rest reads =
    let sized = ap length reads.1 ∙ length-append (print_request h) rest in
    omega (arith, sized, head_some h reads.0)

-- bytes that are split, one part of which begins with a head
reads_more : (bytes part behind : List ℕ) (h : RequestHead) (rest : List ℕ) → bytes ≡ part ++ behind
    → ReadsRequest part h rest → ReadsRequest bytes h (rest ++ behind)
reads_more bytes part behind h rest split reads =
    let P : List ℕ → Type 0 = λ text. ReadsRequest text h (rest ++ behind) in
    subst P (sym split) (ReadsRequest-append part h rest behind reads)

-- a head that is short enough is among the first bytes
reads_first : (n : ℕ) (bytes pending behind : List ℕ) (h : RequestHead) (rest : List ℕ)
    → bytes ≡ pending ++ behind
    → length (print_request h) ≤ n → n ≤ length pending → ReadsRequest bytes h rest
    → ReadsRequest (take n pending) h (drop (length (print_request h)) (take n pending))
reads_first n bytes pending behind h rest split short long reads =
    let count = length (print_request h) in
    let front : take count bytes ≡ print_request h = ap (take count) reads.1
    ∙ take_at (print_request h) rest count refl in
    let within : count ≤ length pending = omega (arith, short, long) in
    let among : take count (take n pending) ≡ print_request h =
    take-take count n pending short ∙ sym (take-append-le count pending behind within)
    ∙ ap (take count) (sym split) ∙ front in (
      reads.0,
      sym (take-append-drop count (take n pending))
          ∙ ap (λ text. text ++ drop count (take n pending)) among,
    )

-- a request that is given is the one that the bytes begin with
meets_request : (bytes part behind : List ℕ) (head : RequestHead) (rest : List ℕ) (given : ℕ)
    (request : HttpRequest)
    → BeginsWith bytes head rest → bytes ≡ part ++ behind → IsRequest given part request
    → (framing head ≡ Ok (length request.body)) × ((more : List ℕ) × (rest ≡ request.body ++ more))
meets_request bytes part behind head rest given request begins split is =
    let reads = reads_more bytes part behind is.head request.body split is.begins.reads in
    let same = request_unique bytes head is.head rest (request.body ++ behind) begins.reads reads in
    (ap framing same.0 ∙ is.framed, (behind, same.1))

-- a refusal is the one that the head asks for
meets_refusal : (bytes pending behind : List ℕ) (head : RequestHead) (rest : List ℕ) (status : ℕ)
    → BeginsWith bytes head rest → bytes ≡ pending ++ behind → IsRefused status pending
    → framing head ≡ Err status
meets_refusal bytes pending behind head rest status begins split (inl (is, never)) =
    let P : List ℕ → Type 0 = λ text. ReadsRequest text head rest in
    absurd (never behind head rest (subst P split begins.reads))
meets_refusal bytes pending behind head rest status begins split (inr (inl (is, inl (long, none)))) =
    absurd (none head _ (reads_first max_head bytes pending behind head rest split begins.short long
    begins.reads))
meets_refusal bytes pending behind head rest status begins split (inr (inl (is, inr (exceeds, overflows)))) =
    let P : List ℕ → Type 0 = λ text. ReadsRequest text head rest in
    let over = overflows behind head rest (subst P split begins.reads) in
    absurd (omega (arith, over, begins.few))
meets_refusal bytes pending behind head rest status begins split (inr (inr (other, later, first, refused))) =
    let reads = reads_more bytes pending behind other later split first.reads in
    let same = request_unique bytes head other rest (later ++ behind) begins.reads reads in
    ap framing same.0 ∙ refused

-- the bytes end within the body
meets_cut : (bytes pending : List ℕ) (head : RequestHead) (rest : List ℕ) → BeginsWith bytes head rest
    → bytes ≡ pending → IsCutShort pending → (count : ℕ) × (framing head ≡ Ok count) × (length rest < count)
meets_cut bytes pending head rest begins split (inl (some, short, none, unfinished)) =
    let P : List ℕ → Type 0 = λ text. ReadsRequest text head rest in
    absurd (none head rest (subst P split begins.reads))
meets_cut bytes pending head rest begins split (inr (other, later, count, first, framed, few)) =
    let P : List ℕ → Type 0 = λ text. ReadsRequest text other later in
    let same = request_unique bytes head other rest later begins.reads (subst P (sym split) first.reads) in
    let sized = ap length same.1 in
    (count, ap framing same.0 ∙ framed, omega (arith, sized, few))

-- what is told where the bytes begin with a head within the limits
pub meets : (old new given : ℕ) (left : Option (List ℕ)) (bytes pending : List ℕ) (head : RequestHead)
    (rest : List ℕ)
    (result : HttpNext)
    → IfRequest result (λ request. (part : List ℕ) × Consumes (Some bytes) (prepend_known pending left) part
    × IsRequest given part request)
    → UnlessRequest result (Keeps (Some bytes) (prepend_known pending left))
    → IsCaused old new left pending result
    → BeginsWith bytes head rest → Meets head rest result
meets old new given None bytes pending head rest (Request request) (part, consumed, is) kept cause begins =
    absurd consumed
meets old new given (Some later) bytes pending head rest (Request request) (part, consumed, is) kept
    cause begins =
    meets_request bytes part (pending ++ later) head rest given request begins consumed is
meets old new given None bytes pending head rest (Refuse status) told kept cause begins = absurd kept
meets old new given (Some later) bytes pending head rest (Refuse status) told kept cause begins =
    meets_refusal bytes pending later head rest status begins (sym kept) cause
meets old new given None bytes pending head rest Closed told kept cause begins = absurd kept
meets old new given (Some later) bytes pending head rest Closed told kept (none, end) begins =
    let P : List ℕ → Type 0 = λ text. ReadsRequest text head rest in
    let empty : bytes ≡ [] = sym kept ∙ ap (λ text. text ++ later) none ∙ end in
    no_head head rest (subst P empty begins.reads)
meets old new given None bytes pending head rest Cut told kept cause begins = absurd kept
meets old new given (Some later) bytes pending head rest Cut told kept (short, end) begins =
    meets_cut bytes pending head rest begins (sym kept ∙ ap (λ text. pending ++ text) end
    ∙ append-nil pending) short
meets old new given left bytes pending head rest InputFault told kept cause begins = tt
meets old new given left bytes pending head rest NoMemory told kept cause begins = tt

-- each byte passes a test
all_true : (p : ℕ → Bool) (xs : List ℕ) → list_all p xs ≡ true → (k d : ℕ) → k < length xs
    → p (get_or xs k d) ≡ true
all_true p xs all k d within = by_test (p (get_or xs k d)) refl
  where
    by_test : (test : Bool) → p (get_or xs k d) ≡ test → test ≡ true
    by_test true passes = refl
    by_test false fails = sym (list_all_at p xs k d within fails) ∙ all

-- some head
a_head : RequestHead
a_head = record {
  blank = [];
  method = codes "GET";
  target = codes "/";
  minor = 1;
  line_end = crlf;
  fields = [];
  last = crlf;
}

a_head-is : IsRequestHead a_head
unfolding a_head is_token_byte lib.Utf8.encode
a_head-is = record {
  method = (omega arith, all_true is_token_byte (codes "GET") refl);
  target = (omega arith, all_true is_uri_byte (codes "/") refl);
  target_text = (codes "/", (refl, refl));
  minor = omega arith;
  fields = λ k d within. absurd (omega (arith, within));
}

reads_a_head : ReadsRequest ([] ++ print_request a_head) a_head []
reads_a_head = (a_head-is, sym (append-nil (print_request a_head)))

-- no bytes are refused
never_refused : (status : ℕ) → IsRefused status [] → ⊥
unfolding a_head
never_refused status (inl (is, never)) = never (print_request a_head) a_head [] reads_a_head
never_refused status (inr (inl (is, inl (long, none)))) = omega (arith, long)
never_refused status (inr (inl (is, inr (exceeds, overflows)))) =
    let over : max_fields < 0 = overflows (print_request a_head) a_head [] reads_a_head in omega (arith, over)
never_refused status (inr (inr (head, rest, begins, refused))) = no_head head rest begins.reads

never_cut : IsCutShort [] → ⊥
never_cut (inl (some, short, none, unfinished)) = some refl
never_cut (inr (head, rest, count, begins, framed, few)) = no_head head rest begins.reads

both_empty : (pending later : List ℕ) → pending ++ later ≡ [] → pending ≡ []
both_empty [] later none = refl
both_empty (byte ∷ bytes) later none = absurd (cc)

-- what is told where nothing is unread
pub meets_end : (old new given : ℕ) (left : Option (List ℕ)) (pending : List ℕ) (result : HttpNext)
    → IfRequest result (λ request. (part : List ℕ) × Consumes (Some []) (prepend_known pending left) part
    × IsRequest given part request)
    → UnlessRequest result (Keeps (Some []) (prepend_known pending left))
    → IsCaused old new left pending result
    → MeetsEnd result
meets_end old new given None pending (Request request) (part, consumed, is) kept cause = consumed
meets_end old new given (Some later) pending (Request request) (part, consumed, is) kept cause =
    let P : List ℕ → Type 0 = λ text. ReadsRequest text is.head request.body in
    no_head is.head request.body (subst P (both_empty part (pending ++ later) (sym consumed)) is.begins.reads)
meets_end old new given None pending (Refuse status) told kept cause = kept
meets_end old new given (Some later) pending (Refuse status) told kept cause =
    let P : List ℕ → Type 0 = λ text. IsRefused status text in
    never_refused status (subst P (both_empty pending later kept) cause)
meets_end old new given left pending Closed told kept cause = tt
meets_end old new given None pending Cut told kept cause = kept
meets_end old new given (Some later) pending Cut told kept (short, end) =
    never_cut (subst IsCutShort (both_empty pending later kept) short)
meets_end old new given left pending InputFault told kept cause = tt
meets_end old new given left pending NoMemory told kept cause = tt

-- the same of bytes that are known
pub meets_known : (old new given : ℕ) (before left : Option (List ℕ)) (bytes pending : List ℕ)
    (head : RequestHead)
    (rest : List ℕ) (result : HttpNext) → before ≡ Some bytes
    → IfRequest result (λ request. (part : List ℕ) × Consumes before (prepend_known pending left) part
    × IsRequest given part request)
    → UnlessRequest result (Keeps before (prepend_known pending left)) → IsCaused old new left pending result
    → BeginsWith bytes head rest → Meets head rest result
meets_known old new given before left bytes pending head rest result known told kept cause begins =
    let P : Option (List ℕ) → Type 0 = λ from. IfRequest result (λ request. (part : List ℕ)
    × Consumes from (prepend_known pending left) part × IsRequest given part request) in
    let Q : Option (List ℕ) → Type 0 = λ from. UnlessRequest result
    (Keeps from (prepend_known pending left)) in
    meets old new given left bytes pending head rest result (subst P known told)
    (subst Q known kept) cause begins

pub meets_none : (old new given : ℕ) (before left : Option (List ℕ)) (pending : List ℕ) (result : HttpNext)
    → before ≡ Some []
    → IfRequest result (λ request. (part : List ℕ) × Consumes before (prepend_known pending left) part
    × IsRequest given part request)
    → UnlessRequest result (Keeps before (prepend_known pending left)) → IsCaused old new left pending result
    → MeetsEnd result
meets_none old new given before left pending result known told kept cause =
    let P : Option (List ℕ) → Type 0 = λ from. IfRequest result (λ request. (part : List ℕ)
    × Consumes from (prepend_known pending left) part × IsRequest given part request) in
    let Q : Option (List ℕ) → Type 0 = λ from. UnlessRequest result
    (Keeps from (prepend_known pending left)) in
    meets_end old new given left pending result (subst P known told) (subst Q known kept) cause

-- more than a request: what is given is a part of another
part_request : (bytes more part behind : List ℕ) (given : ℕ) (whole given_one : HttpRequest) → more ≢ []
    → IsRequest given (bytes ++ more) whole → bytes ≡ part ++ behind → IsRequest given part given_one → ⊥
part_request bytes more part behind given whole given_one some is split one =
    let later : bytes ++ more ≡ part ++ (behind ++ more) = ap (λ text. text ++ more) split
    ∙ append_assoc part behind more in
    let reads = reads_more (bytes ++ more) part (behind ++ more) one.head given_one.body later
    one.begins.reads in
    let same = request_unique (bytes ++ more) is.head one.head whole.body (given_one.body ++ (behind ++ more))
    is.begins.reads reads in
    let counts = sym is.framed ∙ ap framing same.0 ∙ one.framed in
    let equal = ap count_of counts in
    let sized = ap length same.1 ∙ length-append given_one.body (behind ++ more) in
    let none : length more ≡ 0 = omega (arith, equal, sized, length-append behind more) in
    some (no_length more none)
  where
    no_length : (text : List ℕ) → length text ≡ 0 → text ≡ []
    no_length [] none = refl
    no_length (byte ∷ rest) none = absurd (omega (arith, none))

    count_of : Result ℕ ℕ → ℕ
    count_of (Ok count) = count
    count_of (Err status) = 0

-- what is told where the bytes are a part of a request
meets_part : (old new given : ℕ) (left : Option (List ℕ)) (bytes more pending : List ℕ) (whole : HttpRequest)
    (result : HttpNext)
    → IfRequest result (λ request. (part : List ℕ) × Consumes (Some bytes) (prepend_known pending left) part
    × IsRequest given part request)
    → UnlessRequest result (Keeps (Some bytes) (prepend_known pending left))
    → IsCaused old new left pending result
    → bytes ≢ [] → more ≢ [] → IsRequest given (bytes ++ more) whole → MeetsPart result
meets_part old new given None bytes more pending whole (Request request) (part, consumed, is) kept cause any
    some whole_is =
    consumed
meets_part old new given (Some later) bytes more pending whole (Request request) (part, consumed, is) kept
    cause any some
    whole_is = part_request bytes more part (pending ++ later) given whole request some whole_is consumed is
meets_part old new given None bytes more pending whole (Refuse status) told kept cause any some is = kept
meets_part old new given (Some later) bytes more pending whole (Refuse status) told kept cause any some is =
    let split : bytes ++ more ≡ pending ++ (later ++ more) =
    ap (λ text. text ++ more) (sym kept) ∙ append_assoc pending later more in
    let refused = meets_refusal (bytes ++ more) pending (later ++ more) is.head whole.body status is.begins
    split cause in
    let framed = is.framed in
    cc
meets_part old new given None bytes more pending whole Closed told kept cause any some is = kept
meets_part old new given (Some later) bytes more pending whole Closed told kept (none, end) any some is =
    any (sym kept ∙ ap (λ text. text ++ later) none ∙ end)
meets_part old new given left bytes more pending whole Cut told kept cause any some is = tt
meets_part old new given left bytes more pending whole InputFault told kept cause any some is = tt
meets_part old new given left bytes more pending whole NoMemory told kept cause any some is = tt

pub meets_some : (old new given : ℕ) (before left : Option (List ℕ)) (bytes more pending : List ℕ)
    (whole : HttpRequest)
    (result : HttpNext) → before ≡ Some bytes
    → IfRequest result (λ request. (part : List ℕ) × Consumes before (prepend_known pending left) part
    × IsRequest given part request)
    → UnlessRequest result (Keeps before (prepend_known pending left)) → IsCaused old new left pending result
    → bytes ≢ [] → more ≢ [] → IsRequest given (bytes ++ more) whole → MeetsPart result
meets_some old new given before left bytes more pending whole result known told kept cause =
    let P : Option (List ℕ) → Type 0 = λ from. IfRequest result (λ request. (part : List ℕ)
    × Consumes from (prepend_known pending left) part × IsRequest given part request) in
    let Q : Option (List ℕ) → Type 0 = λ from. UnlessRequest result
    (Keeps from (prepend_known pending left)) in
    meets_part old new given left bytes more pending whole result (subst P known told)
    (subst Q known kept) cause
