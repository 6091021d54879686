-- The bytes of a response.
use Rattle.std.specs.Prelude.{ℕ, Bool, ◌≡◌, ◌==◌, true, false, IsTrue, List, [], ◌∷◌, ◌++◌, Option, Some}
use Rattle.std.specs.Prelude.{None, codes, decimal, length, unwrap_or, refl}
use Rattle.std.specs.Fmt.{digits}
use Rattle.std.specs.List.{list_any}
use Rattle.http.specs.StatusCode.{code_digits, reason_phrase}
use Rattle.httparse.specs.Ascii.{crlf_bytes}
use Rattle.kb_http.specs.declared.route.Allow.{Allow}
use Rattle.kb_http.specs.declared.route.Allow.TheVariants as allow

-- the statuses of the service
abbrev pub statuses : List ℕ
statuses = 200 ∷ 400 ∷ 404 ∷ 405 ∷ 409 ∷ 411 ∷ 413 ∷ 431 ∷ 503 ∷ 507 ∷ []

-- it is one of them
abbrev pub IsStatus : ℕ → Type 0
IsStatus status = IsTrue (list_any (λ known. known == status) statuses)

-- the phrase of a status
unfoldable pub phrase_of : ℕ → List ℕ
phrase_of status = unwrap_or (reason_phrase status) []

too_large : phrase_of 413 ≡ codes "Payload Too Large"
unfolding phrase_of
too_large = refl

-- a line of a head
abbrev pub line : List ℕ → List ℕ
line text = text ++ crlf_bytes

abbrev pub status_line : ℕ → List ℕ
status_line status = line (codes "HTTP/1.1 " ++ code_digits status ++ codes " " ++ phrase_of status)

abbrev pub type_line : List ℕ
type_line = line (codes "Content-Type: application/json")

abbrev pub length_line : ℕ → List ℕ
length_line count = line (codes "Content-Length: " ++ decimal count)

-- the one method that is allowed, where that is told
abbrev pub allow_line : Option Allow → List ℕ
allow_line None = []
allow_line (Some allow.Get) = line (codes "Allow: GET")
allow_line (Some allow.Post) = line (codes "Allow: POST")

-- where the connection closes
abbrev pub close_line : Bool → List ℕ
close_line false = []
close_line true = line (codes "Connection: close")

-- a response with a body of so many bytes, up to the body
abbrev pub response_head : ℕ → ℕ → Bool → Option Allow → List ℕ
response_head status count close allow =
    status_line status ++ (type_line ++ (length_line count ++ (allow_line allow ++ (close_line close
    ++ crlf_bytes))))

-- a whole response
abbrev pub response : ℕ → List ℕ → Bool → Option Allow → List ℕ
response status body close allow = response_head status (length body) close allow ++ body

not_allowed : response 405 (codes "{}") true (Some allow.Post)
    ≡ line (codes "HTTP/1.1 405 Method Not Allowed") ++ line (codes "Content-Type: application/json")
    ++ line (codes "Content-Length: 2") ++ line (codes "Allow: POST") ++ line (codes "Connection: close")
    ++ line [] ++ codes "{}"
unfolding phrase_of digits
not_allowed = refl
