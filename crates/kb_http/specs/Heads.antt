-- What the head of a request asks: how many bytes of body are to be read, and whether the connection closes.
use Rattle.std.specs.Prelude.{ℕ, Bool, ◌≡◌, ◌==◌, ◌+◌, ◌||◌, ◌&&◌, if◌then◌else◌, nat_le, true, false, List}
use Rattle.std.specs.Prelude.{[], ◌∷◌, Result, Ok, Err, map, codes, bytes_eq, refl}
use Rattle.std.specs.List.{list_any}
use Rattle.httparse.specs.Grammar.{RequestHead}
use Rattle.httparse.specs.Spans.{name_and_value}
use Rattle.kb_http.specs.Words.{is_word, words_of}
use Rattle.kb_http.specs.Numbers.{is_number, number_of}

-- the most bytes of a head
abbrev pub max_head : ℕ
max_head = 16384

-- the most fields of a head
abbrev pub max_fields : ℕ
max_fields = 64

-- the most bytes of a body
abbrev pub max_body : ℕ
max_body = 65536

-- the most requests of a connection
abbrev pub max_requests : ℕ
max_requests = 10000

-- the fields of a head, as names and values
abbrev pub fields_of : RequestHead → List (List ℕ × List ℕ)
fields_of head = map name_and_value head.fields

-- a field has this name
abbrev pub is_named : List ℕ → List ℕ × List ℕ → Bool
is_named name field = is_word field.0 name

-- the values of the fields with this name
abbrev pub values_of : List ℕ → List (List ℕ × List ℕ) → List (List ℕ)
values_of name [] = []
values_of name (field ∷ fields) =
    if is_named name field then field.1 ∷ values_of name fields else values_of name fields

one_of_two : values_of (codes "host") ((codes "Host", codes "x") ∷ (codes "Accept", codes "y") ∷ [])
    ≡ codes "x" ∷ []
one_of_two = refl

-- the length that a Content-Length tells, or the status by which it is refused
abbrev pub told_length : List ℕ → Result ℕ ℕ
told_length text =
    if is_number text then (if nat_le (number_of text) max_body then Ok (number_of text) else Err 413)
    else Err 400

-- How many bytes of body are read behind a head, or the status by which it is refused: of the values of its
-- Content-Length fields, and whether its method is POST.
abbrev pub body_length : Bool → List (List ℕ) → Result ℕ ℕ
body_length is_post [] = if is_post then Err 411 else Ok 0
body_length is_post (text ∷ []) = told_length text
body_length is_post (text ∷ other ∷ more) = Err 400

five : body_length true (codes "5" ∷ []) ≡ Ok 5
five = refl

five_twice : body_length true (codes "5" ∷ codes "5" ∷ []) ≡ Err 400
five_twice = refl

too_long : body_length false (codes "65537" ∷ []) ≡ Err 413
too_long = refl

-- the same of a method and all fields: with a Transfer-Encoding it is refused first
abbrev pub framing_of : List ℕ → List (List ℕ × List ℕ) → Result ℕ ℕ
framing_of method fields =
    if list_any (is_named (codes "transfer-encoding")) fields then Err 411
    else body_length (bytes_eq method (codes "POST")) (values_of (codes "content-length") fields)

-- the same of a whole head
abbrev pub framing : RequestHead → Result ℕ ℕ
framing head = framing_of head.method (fields_of head)

-- a field asks that the connection closes
abbrev pub asks_to_close : List ℕ × List ℕ → Bool
asks_to_close field =
    is_named (codes "connection") field && list_any (λ word. is_word word (codes "close")) (words_of field.1)

-- a head asks that the connection closes: one of HTTP/1.0, or one with such a field
abbrev pub asks_for_end : ℕ → List (List ℕ × List ℕ) → Bool
asks_for_end minor fields = minor == 0 || list_any asks_to_close fields

-- the connection closes behind a request: one whose head asks for it, or the last of so many
abbrev pub closes : ℕ → RequestHead → Bool
closes given head = asks_for_end head.minor (fields_of head) || nat_le max_requests (given + 1)
