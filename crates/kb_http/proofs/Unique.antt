-- The bytes of a stream are the requests of one list alone.
use Rattle.std.proofs.Common.{◌≡◌, ℕ, List, [], ◌∷◌, ◌++◌, length, take, drop, refl, sym, ap, ◌∙◌, subst}
use Rattle.std.proofs.Common.{arith, Result, Ok, Err}
use Rattle.std.proofs.lemmas.List.{length-append, take_at, drop_at}
use Rattle.httparse.specs.Grammar.{ReadsRequest}
use Rattle.httparse.proofs.GrammarLemmas.{ReadsRequest-append, request_unique}
use Rattle.kb_http.specs.declared.request.HttpRequest.{HttpRequest}
use Rattle.kb_http.specs.Heads.{framing, closes}
use Rattle.kb_http.specs.Routes.{method_of, route_of}
use Rattle.kb_http.specs.Requests.{IsRequest, AreRequests, given_after}
use Rattle.kb_http.proofs.Complete.{head_some}

count_of : Result ℕ ℕ → ℕ
count_of (Ok count) = count
count_of (Err status) = 0

-- the first request and what stands behind it
pub one_request : (given : ℕ) (bytes front other more later : List ℕ) (one two : HttpRequest)
    → bytes ≡ front ++ more
    → bytes ≡ other ++ later → IsRequest given front one → IsRequest given other two → (one ≡ two)
    × (more ≡ later)
unfolding count_of
one_request given bytes front other more later one two split cut is so =
    let P : List ℕ → Type 0 = λ text. ReadsRequest text is.head (one.body ++ more) in
    let Q : List ℕ → Type 0 = λ text. ReadsRequest text so.head (two.body ++ later) in
    let first = subst P (sym split) (ReadsRequest-append front is.head one.body more is.begins.reads) in
    let second = subst Q (sym cut) (ReadsRequest-append other so.head two.body later so.begins.reads) in
    let same = request_unique bytes is.head so.head (one.body ++ more) (two.body ++ later) first second in
    let sized : length one.body ≡ length two.body = ap count_of
    (sym is.framed ∙ ap framing same.0 ∙ so.framed) in
    let body : one.body ≡ two.body =
    sym (take_at one.body more (length one.body) refl) ∙ ap (take (length one.body)) same.1
    ∙ take_at two.body later (length one.body) (sym sized) in
    let rest : more ≡ later =
    sym (drop_at one.body more (length one.body) refl) ∙ ap (drop (length one.body)) same.1
    ∙ drop_at two.body later (length one.body) (sym sized) in
    let route : one.route ≡ two.route =
    is.route ∙ ap (λ h. route_of (method_of h.method) h.target) same.0 ∙ sym so.route in
    let close : one.close ≡ two.close = is.close ∙ ap (closes given) same.0 ∙ sym so.close in
    (λ i. record { route = route i; body = body i; close = close i }, rest)

-- a request isn't empty
some_request : (given : ℕ) (bytes front more : List ℕ) (one : HttpRequest) → bytes ≡ []
    → bytes ≡ front ++ more
    → IsRequest given front one → ⊥
some_request given bytes front more one none split is =
    let sized = ap length (sym none ∙ split) ∙ length-append front more in
    let whole = ap length is.begins.reads.1 ∙ length-append _ one.body in
    omega (arith, sized, whole, head_some is.head is.begins.reads.0)

-- so however a stream is cut, its requests are the same
pub requests_unique : (given : ℕ) (bytes : List ℕ) (some others : List HttpRequest)
    → AreRequests given bytes some
    → AreRequests given bytes others → some ≡ others
requests_unique given bytes [] [] are so = refl
requests_unique given bytes [] (two ∷ twos) none (front, more, split, is, are) =
    absurd (some_request given bytes front more two none split is)
requests_unique given bytes (one ∷ ones) [] (front, more, split, is, are) none =
    absurd (some_request given bytes front more one none split is)
requests_unique given bytes (one ∷ ones) (two ∷ twos) (front, more, split, is, are)
    (other, later, cut, so, sos) =
    let same = one_request given bytes front other more later one two split cut is so in
    let P : List ℕ → Type 0 = λ text. AreRequests (given_after given) text ones in
    let rest = requests_unique (given_after given) later ones twos (subst P same.1 are) sos in
    λ i. same.0 i ∷ rest i
