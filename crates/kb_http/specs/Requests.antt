-- The requests of a stream of bytes, and why a stream has no further one.
use Rattle.std.specs.Prelude.{ℕ, ◌≡◌, ◌≢◌, ◌≤◌, ◌<◌, ◌+◌, ◌⊎◌, min, List, [], ◌∷◌, ◌++◌}
use Rattle.std.specs.Prelude.{length, take, Ok, Err}
use Rattle.httparse.specs.Grammar.{RequestHead, print_request, ReadsRequest, HasNoRequest, NeverHasRequest}
use Rattle.httparse.specs.Grammar.{MayBecomeRequest}
use Rattle.httparse.specs.Spans.{RequestExceeds, RequestOverflows}
use Rattle.kb_http.specs.declared.request.HttpRequest.{HttpRequest}
use Rattle.kb_http.specs.Heads.{max_head, max_fields, max_requests, framing, closes}
use Rattle.kb_http.specs.Routes.{method_of, route_of}

-- Bytes begin with a head that is within the limits.
pub record BeginsWith (bytes : List ℕ) (head : RequestHead) (rest : List ℕ) : Type 0 where
  pub reads : ReadsRequest bytes head rest
  pub short : length (print_request head) ≤ max_head
  pub few : length head.fields ≤ max_fields

-- The bytes are one request behind so many of the same connection: its head, and its body of the length told.
pub record IsRequest (given : ℕ) (bytes : List ℕ) (request : HttpRequest) : Type 0 where
  pub head : RequestHead
  pub begins : BeginsWith bytes head request.body
  pub framed : framing head ≡ Ok (length request.body)
  pub route : request.route ≡ route_of (method_of head.method) head.target
  pub close : request.close ≡ closes given head

-- how many requests a connection has given after one more, as far as it counts
abbrev pub given_after : ℕ → ℕ
given_after given = min (given + 1) max_requests

-- the bytes are these requests one after another, behind so many
abbrev pub AreRequests : ℕ → List ℕ → List HttpRequest → Type 0
AreRequests given bytes [] = bytes ≡ []
AreRequests given bytes (request ∷ requests) =
    (front : List ℕ) × (more : List ℕ) × (bytes ≡ front ++ more)
    × IsRequest given front request × AreRequests (given_after given) more requests

-- no head begins with the bytes
abbrev pub IsHopeless : List ℕ → Type 0
IsHopeless bytes = NeverHasRequest bytes

-- so many bytes as a head may have hold no whole one
abbrev pub IsOverlong : List ℕ → Type 0
IsOverlong bytes = (max_head ≤ length bytes) × HasNoRequest (take max_head bytes)

-- one field more than a head may have has begun, and each head that begins with the bytes has it
abbrev pub HasFurtherField : List ℕ → Type 0
HasFurtherField bytes = RequestExceeds max_fields bytes × RequestOverflows max_fields bytes

-- behind a whole head, what it asks is refused by this status
abbrev pub RefusesHead : ℕ → List ℕ → Type 0
RefusesHead status bytes =
    (head : RequestHead) × (rest : List ℕ) × BeginsWith bytes head rest × (framing head ≡ Err status)

-- the bytes that were read are refused by this status
abbrev pub IsRefused : ℕ → List ℕ → Type 0
IsRefused status bytes =
    ((status ≡ 400) × IsHopeless bytes)
    ⊎ (((status ≡ 431) × (IsOverlong bytes ⊎ HasFurtherField bytes)) ⊎ RefusesHead status bytes)

-- the bytes are a first part of a head, which is within the limit so far
abbrev pub IsPartOfHead : List ℕ → Type 0
IsPartOfHead bytes = (bytes ≢ []) × (length bytes < max_head) × HasNoRequest bytes × MayBecomeRequest bytes

-- behind a whole head stand fewer bytes than its body has
abbrev pub LacksBody : List ℕ → Type 0
LacksBody bytes =
    (head : RequestHead) × (rest : List ℕ) × (count : ℕ)
    × BeginsWith bytes head rest × (framing head ≡ Ok count) × (length rest < count)

-- the bytes end within a request
abbrev pub IsCutShort : List ℕ → Type 0
IsCutShort bytes = IsPartOfHead bytes ⊎ LacksBody bytes
