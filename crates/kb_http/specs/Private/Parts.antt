-- What the code's own parts give.
use Rattle.std.specs.Prelude.{ℕ, Bool, ◌≡◌, ◌≤◌, ◌⊎◌, if◌then◌else◌, List, [], ◌∷◌, length, drop, codes}
use Rattle.std.specs.Prelude.{Option, Some, None, Result, Ok, Err}
use Rattle.httparse.specs.Grammar.{RequestHead, print_request, ReadsRequest, HasNoRequest, MayBecomeRequest}
use Rattle.kb_http.specs.declared.head.Head.{Head}
use Rattle.kb_http.specs.declared.head.Seen.{Seen}
use Rattle.kb_http.specs.declared.head.Seen.TheVariants.{Whole, Part, Refused}
use Rattle.kb_http.specs.Heads.{is_named, max_fields, fields_of, told_length, framing_of, asks_for_end}
use Rattle.kb_http.specs.Routes.{method_of, route_of}
use Rattle.kb_http.specs.Requests.{IsHopeless, HasFurtherField}

-- what the parts of a head ask, as the code keeps it
pub record Asks (method target : List ℕ) (minor : ℕ) (fields : List (List ℕ × List ℕ)) (found : Head)
    : Type 0 where
  pub body : found.body ≡ framing_of method fields
  pub route : found.route ≡ route_of (method_of method) target
  pub close : found.close ≡ asks_for_end minor fields

-- the bytes begin with this head, and this is what the code keeps of it
pub record IsWhole (bytes : List ℕ) (found : Head) (head : RequestHead) : Type 0 where
  pub reads : ReadsRequest bytes head (drop found.len bytes)
  pub within : found.len ≤ length bytes
  pub len : found.len ≡ length (print_request head)
  pub few : length head.fields ≤ max_fields
  pub asks : Asks head.method head.target head.minor (fields_of head) found

-- what is seen of bytes: a whole head, a part of one, or why they are none
abbrev pub Sees : List ℕ → Seen → Type 0
Sees bytes (Whole found) = (head : RequestHead) × IsWhole bytes found head
Sees bytes Part = HasNoRequest bytes × MayBecomeRequest bytes
Sees bytes (Refused status) =
    ((status ≡ 400) × IsHopeless bytes) ⊎ ((status ≡ 431) × HasFurtherField bytes)

-- the length told after one more Content-Length: two of them are refused
abbrev pub told_with : Option (Result ℕ ℕ) → List ℕ → Option (Result ℕ ℕ)
told_with None text = Some (told_length text)
told_with (Some told) text = Some (Err 400)

-- the length told after one more field
abbrev pub told_after : Option (Result ℕ ℕ) → List ℕ × List ℕ → Option (Result ℕ ℕ)
told_after told field = if is_named (codes "content-length") field then told_with told field.1 else told

-- the length told after further fields
abbrev pub told_by : Option (Result ℕ ℕ) → List (List ℕ × List ℕ) → Option (Result ℕ ℕ)
told_by told [] = told
told_by told (field ∷ fields) = told_by (told_after told field) fields

-- the length of a body of which this is told
abbrev pub length_of : Bool → Option (Result ℕ ℕ) → Result ℕ ℕ
length_of is_post None = if is_post then Err 411 else Ok 0
length_of is_post (Some told) = told
