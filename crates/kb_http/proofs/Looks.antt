-- Only as many bytes are looked at as a head may have: what is seen of them holds of all.
use Rattle.std.proofs.Common.{◌≡◌, ℕ, ◌≤◌, ◌<◌, List, [], ◌++◌, length, take, drop, min, refl, sym, ap, ◌∙◌}
use Rattle.std.proofs.Common.{subst, inl, inr, append_assoc, take-append-drop, arith, length-take, Option}
use lib.Seq.{drop-append-le}
use Rattle.std.proofs.lemmas.List.{take_all}
use Rattle.httparse.specs.Grammar.{RequestHead, ReadsRequest, HasNoRequest, NeverHasRequest, MayBecomeRequest}
use Rattle.httparse.specs.Spans.{RequestExceeds, RequestOverflows}
use Rattle.httparse.proofs.GrammarLemmas.{ReadsRequest-append}
use Rattle.kb_http.specs.declared.head.Head.{Head}
use Rattle.kb_http.specs.declared.head.Seen.{Seen}
use Rattle.kb_http.specs.declared.head.Seen.TheVariants.{Whole, Part, Refused}
use Rattle.kb_http.specs.declared.stop.Stop.{Stop}
use Rattle.kb_http.specs.Heads.{max_head, max_fields}
use Rattle.kb_http.specs.Requests.{IsCutShort, IsRefused}
use Rattle.kb_http.specs.Private.Parts.{IsWhole, Sees}
use Rattle.kb_http.specs.Private.Reading.{Looks, HasHead, Stops}

-- the bytes that are looked at, and the others
more_behind : (n : ℕ) (bytes more : List ℕ) → bytes ++ more ≡ take n bytes ++ (drop n bytes ++ more)
more_behind n bytes more =
    ap (λ text. text ++ more) (sym (take-append-drop n bytes))
    ∙ append_assoc (take n bytes) (drop n bytes) more

never_all : (n : ℕ) (bytes : List ℕ) → NeverHasRequest (take n bytes) → NeverHasRequest bytes
never_all n bytes never more h rest reads =
    let P : List ℕ → Type 0 = λ text. ReadsRequest text h rest in
    never (drop n bytes ++ more) h rest (subst P (more_behind n bytes more) reads)

overflows_all : (n room : ℕ) (bytes : List ℕ) → RequestOverflows room (take n bytes)
    → RequestOverflows room bytes
overflows_all n room bytes overflows more h rest reads =
    let P : List ℕ → Type 0 = λ text. ReadsRequest text h rest in
    overflows (drop n bytes ++ more) h rest (subst P (more_behind n bytes more) reads)

exceeds_all : (n room : ℕ) (bytes : List ℕ) → RequestExceeds room (take n bytes) → RequestExceeds room bytes
exceeds_all n room bytes (front, rest, split, h, reads, over) = (
  front,
  rest ++ drop n bytes,
  sym (take-append-drop n bytes) ∙ ap (λ text. text ++ drop n bytes) split
      ∙ append_assoc front rest (drop n bytes),
  h,
  reads,
  over,
)

reads_all : (n len : ℕ) (bytes : List ℕ) (h : RequestHead) → len ≤ length (take n bytes)
    → ReadsRequest (take n bytes) h (drop len (take n bytes)) → ReadsRequest bytes h (drop len bytes)
reads_all n len bytes h within reads =
    let P : List ℕ → Type 0 = λ rest. ReadsRequest (take n bytes ++ drop n bytes) h rest in
    let Q : List ℕ → Type 0 = λ text. ReadsRequest text h (drop len text) in
    subst Q (take-append-drop n bytes)
    (subst P (sym (drop-append-le len (take n bytes) (drop n bytes) within))
    (ReadsRequest-append (take n bytes) h (drop len (take n bytes)) (drop n bytes) reads))

whole_all : (bytes : List ℕ) (found : Head) (head : RequestHead) → IsWhole (take max_head bytes) found head
    → HasHead bytes found
whole_all bytes found head whole =
    let long = length-take max_head bytes in (
      head,
      record {
        reads = reads_all max_head found.len bytes head whole.within whole.reads;
        within = omega (arith, whole.within, long);
        len = whole.len;
        few = whole.few;
        asks = whole.asks;
      },
      omega (arith, whole.within, long),
    )

pub sees_all : (bytes : List ℕ) (seen : Seen) → Sees (take max_head bytes) seen → Looks bytes seen
sees_all bytes (Whole found) (head, whole) = whole_all bytes found head whole
sees_all bytes Part seen = seen
sees_all bytes (Refused status) (inl (is, never)) = inl (is, never_all max_head bytes never)
sees_all bytes (Refused status) (inr (is, further)) =
    inr (inl (
      is,
      inr (
        exceeds_all max_head max_fields bytes further.0,
        overflows_all max_head max_fields
            bytes further.1,
      ),
    ))

-- fewer bytes than a head may have, which are a part of one
pub part_cut : (bytes : List ℕ) → (bytes ≡ [] → ⊥) → length bytes < max_head
    → HasNoRequest (take max_head bytes)
    → MayBecomeRequest (take max_head bytes) → IsCutShort bytes
part_cut bytes some short none unfinished =
    let all : take max_head bytes ≡ bytes = take_all max_head bytes (omega (arith, short)) in
    inl (some, short, subst HasNoRequest all none, subst MayBecomeRequest all unfinished)

take-min : (bytes : List ℕ) (n : ℕ) → take (min (length bytes) n) bytes ≡ take n bytes
take-min bytes n = first_of (grind (arith, take_all), search (arith, take_all))

-- as many bytes as are there are looked at
pub sees_first : (bytes : List ℕ) (count : ℕ) (seen : Seen) → count ≡ min (length bytes) max_head
    → Sees (take count bytes) seen → Looks bytes seen
sees_first bytes count seen is sees =
    let P : List ℕ → Type 0 = λ text. Sees text seen in
    sees_all bytes seen (subst P (ap (λ n. take n bytes) is ∙ take-min bytes max_head) sees)

pub some_list : (bytes : List ℕ) → 1 ≤ length bytes → bytes ≡ [] → ⊥
some_list bytes some none = let e = ap length none in omega (arith, some, e)

pub overlong_refused : (bytes : List ℕ) → max_head ≤ length bytes → HasNoRequest (take max_head bytes)
    → IsRefused 431 bytes
overlong_refused bytes long none = inr (inl (refl, inl (long, none)))

pub none_along : (old new : List ℕ) → new ≡ old → HasNoRequest (take max_head old)
    → HasNoRequest (take max_head new)
none_along old new same none =
    let P : List ℕ → Type 0 = λ text. HasNoRequest (take max_head text) in subst P (sym same) none

pub unfinished_along : (old new : List ℕ) → new ≡ old → MayBecomeRequest (take max_head old)
    → MayBecomeRequest (take max_head new)
unfinished_along old new same unfinished =
    let P : List ℕ → Type 0 = λ text. MayBecomeRequest (take max_head text) in subst P (sym same) unfinished

pub stops_along : (old new : ℕ) (left : Option (List ℕ)) (first read last : List ℕ) (stop : Stop)
    → read ≡ first
    → last ≡ first → Stops old new left read stop → Stops old new left last stop
stops_along old new left first read last stop same kept stops =
    let P : List ℕ → Type 0 = λ text. Stops old new left text stop in subst P (same ∙ sym kept) stops

pub has_head_along : (old new : List ℕ) (found : Head) → new ≡ old → HasHead new found → HasHead old found
has_head_along old new found same has = let P : List ℕ → Type 0 =
    λ text. HasHead text found in subst P same has

pub refused_along : (old new : List ℕ) (status : ℕ) → new ≡ old → IsRefused status new → IsRefused status old
refused_along old new status same refused =
    let P : List ℕ → Type 0 = λ text. IsRefused status text in subst P same refused
