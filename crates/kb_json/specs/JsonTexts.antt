-- JSON whose members stand in an order of their own, and its text.
use Rattle.std.specs.Prelude.{ℕ, ◌≡◌, ℤ, pos, neg_ℤ, List, [], ◌∷◌, codes, map, ◌==◌, if◌then◌else◌, Option}
use Rattle.std.specs.Prelude.{Some, None, refl}
use Rattle.std.specs.Fmt.{signed_decimal, digits}
use Rattle.json.specs.Json.{Json, Items, Members, null, number, string, array, object, no_items, item}
use Rattle.json.specs.Json.{no_members, member}
use Rattle.json.specs.Tree.{json_tokens}
use Rattle.json.specs.Print.{print, print_from, escape_byte}

-- members with their values, in order
abbrev pub members : List (List ℕ × Json) → Members
members [] = no_members
members (row ∷ later) = member row.0 row.1 (members later)

abbrev pub object_of : List (List ℕ × Json) → Json
object_of rows = object (members rows)

-- an array of values, in order
abbrev pub items : List Json → Items
items [] = no_items
items (value ∷ later) = item value (items later)

abbrev pub array_of : List Json → Json
array_of values = array (items values)

-- a text, and a number in decimal digits
abbrev pub word : List ℕ → Json
word text = string text

abbrev pub sum : ℤ → Json
sum amount = number (signed_decimal amount)

abbrev pub count : ℕ → Json
count amount = sum (pos amount)

-- a value that may be absent
abbrev pub or_null : {A : Type 0} → (A → Json) → Option A → Json
or_null value None = null
or_null value (Some one) = value one

-- the text of JSON: without blanks, on one line
abbrev pub json_text : Json → List ℕ
json_text json = print (json_tokens json)

-- for the examples: ' stands for "
abbrev pub quoted : List ℕ → List ℕ
quoted text = map (λ byte. if byte == 39 then 34 else byte) text

small : json_text (object_of
    ((codes "b", sum (neg_ℤ (pos 387))) ∷ (codes "a", array_of (null ∷ word (codes "x") ∷ [])) ∷ []))
    ≡ quoted (codes "{'b':-387,'a':[null,'x']}")
unfolding print_from escape_byte digits
small = refl
