-- A request that is taken off the front of what was read.
use Rattle.std.proofs.Common.{◌≡◌, ℕ, ◌<◌, ◌+◌, ◌||◌, List, ◌++◌, length, take, drop, min, sym, ap, ◌∙◌}
use Rattle.std.proofs.Common.{subst, inr, append_assoc, take-append-drop, arith, length-take, length-drop}
use Rattle.std.proofs.Common.{Option, None, Some, Ok}
use Rattle.std.specs.Prelude.{nat_le}
use lib.Seq.{drop-append-le}
use Rattle.std.proofs.Math.Seq.{take-add}
use Rattle.std.proofs.lemmas.List.{take_at, length-append}
use Rattle.std.specs.Io.KnownBytes.{prepend_known, Keeps, Consumes}
use Rattle.httparse.specs.Grammar.{ReadsRequest, print_request}
use Rattle.httparse.proofs.GrammarLemmas.{ReadsRequest-append}
use Rattle.kb_http.specs.declared.head.Head.{Head}
use Rattle.kb_http.specs.declared.request.HttpRequest.{HttpRequest}
use Rattle.kb_http.specs.Heads.{max_requests}
use Rattle.kb_http.specs.Requests.{BeginsWith, IsRequest, IsCutShort}
use Rattle.kb_http.specs.Private.Reading.{HasHead, HasWhole}

-- a head at the front of bytes that grow
pub has_head_more : (bytes more all : List ℕ) (found : Head) → all ≡ bytes ++ more → HasHead bytes found
    → HasHead all found
has_head_more bytes more all found grown (head, whole, short) =
    let P : List ℕ → Type 0 = λ text. HasHead text found in
    let Q : List ℕ → Type 0 = λ rest. ReadsRequest (bytes ++ more) head rest in
    subst P (sym grown) (
      head,
      record {
        reads = subst Q (sym (drop-append-le found.len bytes more whole.within))
            (ReadsRequest-append bytes head (drop found.len bytes) more whole.reads);
        within = omega (arith, whole.within, length-append bytes more);
        len = whole.len;
        few = whole.few;
        asks = whole.asks;
      },
      short,
    )

-- such a head is within the limits
begins : (bytes : List ℕ) (found : Head) (has : HasHead bytes found)
    → BeginsWith bytes has.0 (drop found.len bytes)
begins bytes found (head, whole, short) = record {
  reads = whole.reads;
  short = omega (arith, whole.len, short);
  few = whole.few;
}

pub lacks_body : (bytes more all : List ℕ) (found : Head) (count : ℕ) → all ≡ bytes ++ more
    → HasHead bytes found
    → found.body ≡ Ok count → length all < found.len + count → IsCutShort all
lacks_body bytes more all found count grown has told few =
    let later = has_head_more bytes more all found grown has in
    inr (
      later.0,
      drop found.len all,
      count,
      begins all found later,
      sym later.1.asks.body ∙ told,
      omega (arith, few, later.1.within, length-drop found.len all),
    )

-- what is taken off the front is one request
pub is_request : (given : ℕ) (bytes : List ℕ) (found : Head) (count : ℕ) (request : HttpRequest)
    → HasWhole bytes found count → request.body ≡ take count (drop found.len bytes)
    → request.route ≡ found.route
    → request.close ≡ (found.close || nat_le max_requests (given + 1))
    → IsRequest given (take (found.len + count) bytes) request
is_request given bytes found count request (has, told, bound, within) body route close =
    let whole = has.1 in
    let head = has.0 in
    let front : take found.len bytes ≡ print_request head =
    ap (take found.len) whole.reads.1 ∙ take_at (print_request head) (drop found.len bytes) found.len
    (sym whole.len) in
    let split : take (found.len + count) bytes ≡ print_request head ++ request.body =
    take-add found.len count bytes ∙ ap (λ text. text ++ take count (drop found.len bytes)) front
    ∙ ap (λ text. print_request head ++ text) (sym body) in
    let sized : length request.body ≡ count =
    ap length body ∙ length-take count (drop found.len bytes)
    ∙ (let e : min count (length (drop found.len bytes)) ≡ count =
    omega (arith, within, length-drop found.len bytes) in e) in
    record {
      head = head;
      begins = record {
        reads = (whole.reads.0, split);
        short = omega (arith, whole.len, has.2);
        few = whole.few;
      };
      framed = sym whole.asks.body ∙ told ∙ ap (λ n. Ok n) (sym sized);
      route = route ∙ whole.asks.route;
      close = close ∙ ap (λ test. test || nat_le max_requests (given + 1)) whole.asks.close;
    }

-- and was consumed
pub consumes : (a b : Option (List ℕ)) (old bytes new : List ℕ) (count : ℕ)
    → Keeps (prepend_known old a) (prepend_known bytes b) → new ≡ drop count bytes
    → Consumes (prepend_known old a) (prepend_known new b) (take count bytes)
consumes None b old bytes new count kept rest = tt
consumes (Some x) None old bytes new count kept rest = absurd kept
consumes (Some x) (Some y) old bytes new count kept rest =
    sym kept ∙ ap (λ text. text ++ y) (sym (take-append-drop count bytes))
    ∙ append_assoc (take count bytes) (drop count bytes) y
    ∙ ap (λ text. take count bytes ++ (text ++ y)) (sym rest)
