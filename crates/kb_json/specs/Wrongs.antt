-- What is wrong with the members of a request, and which of it is told.
use Rattle.std.specs.Prelude.{ℕ, ◌≡◌, Bool, true, false, not, ◌||◌, ◌&&◌, bytes_eq, List, [], ◌∷◌, codes}
use Rattle.std.specs.Prelude.{if◌then◌else◌, Option, Some, None, is_some, refl}
use Rattle.std.specs.List.{list_any}
use Rattle.serde_json.specs.Data.{Data, Members, string}
use Rattle.serde_json.specs.Data as json
use Rattle.serde_json.specs.Find.{get_member, as_str, as_bool}
use Rattle.kb_codec.specs.declared.amount.TheConstants.{MAX_AMOUNT}
use Rattle.kb_json.specs.declared.kind.Kind.{Kind}
use Rattle.kb_json.specs.declared.kind.Kind.TheVariants as kinds
use Rattle.kb_json.specs.declared.member.Member.{Member}
use Rattle.kb_json.specs.declared.member.Member.TheVariants as members
use Rattle.kb_json.specs.declared.member.Sort.{Sort}
use Rattle.kb_json.specs.declared.member.Sort.TheVariants as sort
use Rattle.kb_json.specs.declared.wrong.Wrong.{Wrong}
use Rattle.kb_json.specs.declared.wrong.Wrong.TheVariants as wrong
use Rattle.kb_json.specs.RequestKinds.{members_of}
use Rattle.kb_json.specs.Members.{member_name, sort_of}
use Rattle.kb_json.specs.Values.{name_in, key_in, currency_in, period_in, scope_in, day_in, whole_in, bcd_in}
use Rattle.kb_json.specs.Values.{amount_in, invoice_in, text_where}

-- the value at a member; of two members with one name the last counts
abbrev pub value_at : Members → Member → Option Data
value_at object member = get_member (member_name member) object

-- a value is of the JSON type of its sort: a text, true or false, or a whole number in its range
unfoldable pub has_type : Sort → Data → Bool
has_type sort.Name value = is_some (as_str value)
has_type sort.Key value = is_some (as_str value)
has_type sort.Currency value = is_some (as_str value)
has_type sort.Period value = is_some (as_str value)
has_type sort.Scope value = is_some (as_str value)
has_type sort.Day value = is_some (as_str value)
has_type sort.Bcd value = is_some (whole_in MAX_AMOUNT value)
has_type sort.Amount value = is_some (amount_in value)
has_type sort.Invoice value = is_some (invoice_in value)
has_type sort.Truth value = is_some (as_bool value)
has_type sort.Text value = is_some (as_str value)

-- what is wrong with a value of that type
unfoldable pub wrong_of_type : Sort → Data → Wrong
wrong_of_type sort.Name value = if is_some (name_in value) then wrong.Nothing else wrong.Name
wrong_of_type sort.Key value = if is_some (key_in value) then wrong.Nothing else wrong.Name
wrong_of_type sort.Currency value = if is_some (currency_in value) then wrong.Nothing else wrong.Name
wrong_of_type sort.Period value = if is_some (period_in value) then wrong.Nothing else wrong.Name
wrong_of_type sort.Scope value = if is_some (scope_in value) then wrong.Nothing else wrong.Name
wrong_of_type sort.Day value = if is_some (day_in value) then wrong.Nothing else wrong.Day
wrong_of_type sort.Bcd value = if is_some (bcd_in value) then wrong.Nothing else wrong.Day
wrong_of_type sort.Amount value = wrong.Nothing
wrong_of_type sort.Invoice value = wrong.Nothing
wrong_of_type sort.Truth value = wrong.Nothing
wrong_of_type sort.Text value = wrong.Nothing

-- what is wrong with a value
unfoldable pub wrong_in : Sort → Data → Wrong
wrong_in sort value = if has_type sort value then wrong_of_type sort value else wrong.Type

-- what is wrong with a member that has to be there, and with one that may be missing
unfoldable pub wrong_needed : Members → Member → Wrong
wrong_needed object member = of_value (value_at object member)
  where
    of_value : Option Data → Wrong
    of_value None = wrong.Missing
    of_value (Some value) = wrong_in (sort_of member) value

unfoldable pub wrong_optional : Members → Member → Wrong
wrong_optional object member = of_value (value_at object member)
  where
    of_value : Option Data → Wrong
    of_value None = wrong.Nothing
    of_value (Some value) = wrong_in (sort_of member) value

-- which of two is told: that a member is missing before that one is of another type, that before a wrong
-- name or word, and that before a wrong day
abbrev pub told_first : Wrong → Wrong → Wrong
told_first wrong.Missing other = wrong.Missing
told_first wrong.Type wrong.Missing = wrong.Missing
told_first wrong.Type wrong.Type = wrong.Type
told_first wrong.Type wrong.Name = wrong.Type
told_first wrong.Type wrong.Day = wrong.Type
told_first wrong.Type wrong.Nothing = wrong.Type
told_first wrong.Name wrong.Missing = wrong.Missing
told_first wrong.Name wrong.Type = wrong.Type
told_first wrong.Name wrong.Name = wrong.Name
told_first wrong.Name wrong.Day = wrong.Name
told_first wrong.Name wrong.Nothing = wrong.Name
told_first wrong.Day wrong.Missing = wrong.Missing
told_first wrong.Day wrong.Type = wrong.Type
told_first wrong.Day wrong.Name = wrong.Name
told_first wrong.Day wrong.Day = wrong.Day
told_first wrong.Day wrong.Nothing = wrong.Day
told_first wrong.Nothing other = other

-- what is told of all of some members, once something was told
abbrev pub told_from : (Member → Wrong) → Wrong → List Member → Wrong
told_from judge told [] = told
told_from judge told (member ∷ later) = told_from judge (told_first told (judge member)) later

abbrev pub told_of : (Member → Wrong) → List Member → Wrong
told_of judge members = told_from judge wrong.Nothing members

-- what is told of the members of a request; a line that may be dated may name its day
unfoldable pub wrong_today : Bool → Members → Wrong
wrong_today dated object = if dated then wrong_optional object members.Today else wrong.Nothing

unfoldable pub first_wrong : Bool → Kind → Members → Wrong
first_wrong dated kind object =
    told_first (told_of (wrong_needed object) (members_of kind).needed)
    (told_first (told_of (wrong_optional object) (members_of kind).optional) (wrong_today dated object))

-- a name is that of one of some members
abbrev pub is_among : List Member → List ℕ → Bool
is_among members name = list_any (λ member. bytes_eq name (member_name member)) members

-- a request of a kind may have a member of that name; a line that may be dated may have the member `today`
abbrev pub is_known : Bool → Kind → List ℕ → Bool
is_known dated kind name =
    bytes_eq name (codes "do") || (dated && bytes_eq name (codes "today"))
    || is_among (members_of kind).needed name || is_among (members_of kind).optional name

-- some member of an object has a name that isn't known
unfoldable pub has_unknown : (List ℕ → Bool) → Members → Bool
has_unknown known json.no_members = false
has_unknown known (json.member name value later) = not (known name) || has_unknown known later

-- for the examples: an account that is no name, a day that is none, and an amount that is a text
abbrev three_wrongs : Members
three_wrongs =
    json.member (codes "account") (string (codes "a 1"))
    (json.member (codes "amount") (string (codes "5"))
    (json.member (codes "day") (string (codes "2024-02-30")) json.no_members))

bad_name : wrong_needed three_wrongs members.Account ≡ wrong.Name
unfolding wrong_needed wrong_in has_type wrong_of_type name_in text_where
bad_name = refl

bad_type : wrong_needed three_wrongs members.Amount ≡ wrong.Type
unfolding wrong_needed wrong_in has_type amount_in whole_in
bad_type = refl

missing : wrong_needed three_wrongs members.Key ≡ wrong.Missing
unfolding wrong_needed
missing = refl

missing_scope : wrong_optional three_wrongs members.Scope ≡ wrong.Nothing
unfolding wrong_optional
missing_scope = refl

missing_first : told_of (wrong_needed three_wrongs) (members.Account ∷ members.Amount ∷ members.Key ∷ [])
    ≡ wrong.Missing
unfolding wrong_needed wrong_in has_type wrong_of_type name_in text_where amount_in whole_in
missing_first = refl

type_before_name : told_of (wrong_needed three_wrongs) (members.Account ∷ members.Amount ∷ []) ≡ wrong.Type
unfolding wrong_needed wrong_in has_type wrong_of_type name_in text_where amount_in whole_in
type_before_name = refl

today_unknown : has_unknown (is_known false kinds.Janitor)
    (json.member (codes "do") (string []) (json.member (codes "today") (string []) json.no_members)) ≡ true
unfolding has_unknown
today_unknown = refl

today_known : has_unknown (is_known true kinds.Janitor)
    (json.member (codes "do") (string []) (json.member (codes "today") (string []) json.no_members)) ≡ false
unfolding has_unknown
today_known = refl
