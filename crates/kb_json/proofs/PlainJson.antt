-- The text of JSON whose numbers have no line feed is one line.
use Rattle.std.proofs.Common.{◌≡◌, Bool, true, false, ◌&&◌, cond, List, [], ◌∷◌, ◌++◌, refl}
use Rattle.std.specs.Prelude.{⊤}
use Rattle.json.specs.Json.{Json, Items, Members, null, boolean, number, string, array, object, no_items}
use Rattle.json.specs.Json.{item, no_members, member}
use Rattle.json.specs.Token.{Token}
use Rattle.json.specs.Token as token
use Rattle.json.specs.Tree.{json_tokens, items_tokens, members_tokens}
use Rattle.json.specs.Print.{print_from, token_text, separator, begins, ends, quoted}
use Rattle.kb_json.specs.JsonTexts.{json_text}
use Rattle.kb_json.proofs.PlainBytes.{is_plain, is_plain-append, quoted-plain}

-- the numbers among tokens have none
abbrev IsPlainToken : Token → Type 0
IsPlainToken token.begin_object = ⊤
IsPlainToken token.end_object = ⊤
IsPlainToken token.begin_array = ⊤
IsPlainToken token.end_array = ⊤
IsPlainToken (token.key s) = ⊤
IsPlainToken (token.string s) = ⊤
IsPlainToken (token.number s) = is_plain s ≡ true
IsPlainToken (token.boolean b) = ⊤
IsPlainToken token.null = ⊤
IsPlainToken token.bad = ⊤

abbrev ArePlain : List Token → Type 0
ArePlain [] = ⊤
ArePlain (one ∷ later) = IsPlainToken one × ArePlain later

ArePlain-append : (first second : List Token) → ArePlain first → ArePlain second → ArePlain (first ++ second)
ArePlain-append [] second here later = later
ArePlain-append (one ∷ more) second here later = (here.0, ArePlain-append more second here.1 later)

token_text-plain : (one : Token) → IsPlainToken one → is_plain (token_text one) ≡ true
token_text-plain token.begin_object plain = refl
token_text-plain token.end_object plain = refl
token_text-plain token.begin_array plain = refl
token_text-plain token.end_array plain = refl
token_text-plain (token.key s) plain = is_plain-append (quoted s) (58 ∷ []) (quoted-plain s) refl
token_text-plain (token.string s) plain = quoted-plain s
token_text-plain (token.number s) plain = plain
token_text-plain (token.boolean true) plain = refl
token_text-plain (token.boolean false) plain = refl
token_text-plain token.null plain = refl
token_text-plain token.bad plain = refl

separator-plain : (after : Bool) (one : Token) → is_plain (separator after one) ≡ true
separator-plain after one = by_test (after && begins one)
  where
    by_test : (test : Bool) → is_plain (cond test (44 ∷ []) []) ≡ true
    by_test true = refl
    by_test false = refl

print_from-plain : (after : Bool) (tokens : List Token) → ArePlain tokens
    → is_plain (print_from after tokens) ≡ true
unfolding print_from
print_from-plain after [] plain = refl
print_from-plain after (one ∷ later) plain =
    is_plain-append (separator after one) (token_text one ++ print_from (ends one) later)
    (separator-plain after one)
    (is_plain-append (token_text one) (print_from (ends one) later) (token_text-plain one plain.0)
    (print_from-plain (ends one) later plain.1))

-- JSON whose numbers have none
abbrev mutual
  pub IsPlain : Json → Type 0
  IsPlain null = ⊤
  IsPlain (boolean b) = ⊤
  IsPlain (number s) = is_plain s ≡ true
  IsPlain (string s) = ⊤
  IsPlain (array values) = ItemsPlain values
  IsPlain (object rows) = MembersPlain rows

  pub ItemsPlain : Items → Type 0
  ItemsPlain no_items = ⊤
  ItemsPlain (item value later) = IsPlain value × ItemsPlain later

  pub MembersPlain : Members → Type 0
  MembersPlain no_members = ⊤
  MembersPlain (member name value later) = IsPlain value × MembersPlain later

mutual
  ArePlain-json_tokens : (json : Json) → IsPlain json → ArePlain (json_tokens json)
  ArePlain-json_tokens null plain = (tt, tt)
  ArePlain-json_tokens (boolean b) plain = (tt, tt)
  ArePlain-json_tokens (number s) plain = (plain, tt)
  ArePlain-json_tokens (string s) plain = (tt, tt)
  ArePlain-json_tokens (array values) plain = (tt, ArePlain-items_tokens values plain)
  ArePlain-json_tokens (object rows) plain = (tt, ArePlain-members_tokens rows plain)

  ArePlain-items_tokens : (values : Items) → ItemsPlain values → ArePlain (items_tokens values)
  ArePlain-items_tokens no_items plain = (tt, tt)
  ArePlain-items_tokens (item value later) plain = ArePlain-append (json_tokens value) (items_tokens later)
      (ArePlain-json_tokens value plain.0) (ArePlain-items_tokens later plain.1)

  ArePlain-members_tokens : (rows : Members) → MembersPlain rows → ArePlain (members_tokens rows)
  ArePlain-members_tokens no_members plain = (tt, tt)
  ArePlain-members_tokens (member name value later) plain = (
    tt,
    ArePlain-append (json_tokens value)
        (members_tokens later) (ArePlain-json_tokens value plain.0) (ArePlain-members_tokens later plain.1),
  )

-- its text has none
pub json_text-plain : (json : Json) → IsPlain json → is_plain (json_text json) ≡ true
json_text-plain json plain = print_from-plain false (json_tokens json) (ArePlain-json_tokens json plain)
