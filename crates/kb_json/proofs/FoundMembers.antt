-- Where nothing is wrong with a request, each member that has to be there is there, and is read.
use Rattle.std.proofs.Common.{◌≡◌, Bool, true, false, if◌then◌else◌, List, [], ◌∷◌, Option, Some, None}
use Rattle.std.proofs.Common.{is_some, refl}
use Rattle.std.specs.Prelude.{⊤}
use Rattle.serde_json.specs.Data.{Data, Members}
use Rattle.serde_json.specs.Find.{as_str, as_bool}
use Rattle.kb_json.specs.declared.kind.Kind.{Kind}
use Rattle.kb_json.specs.declared.member.Member.{Member}
use Rattle.kb_json.specs.declared.member.Sort.{Sort}
use Rattle.kb_json.specs.declared.member.Sort.TheVariants as sort
use Rattle.kb_json.specs.declared.wrong.Wrong.{Wrong}
use Rattle.kb_json.specs.declared.wrong.Wrong.TheVariants as wrong
use Rattle.kb_json.specs.RequestKinds.{members_of}
use Rattle.kb_json.specs.Members.{sort_of}
use Rattle.kb_json.specs.Values.{name_in, key_in, currency_in, period_in, scope_in, day_in, amount_in}
use Rattle.kb_json.specs.Values.{invoice_in, bcd_in}
use Rattle.kb_json.specs.Wrongs.{value_at, has_type, wrong_of_type, wrong_in, wrong_needed, wrong_optional}
use Rattle.kb_json.specs.Wrongs.{told_first, told_from, wrong_today, first_wrong}

-- nothing is told of two only where nothing is wrong with either
told_first-nothing : (first second : Wrong) → told_first first second ≡ wrong.Nothing
    → (first ≡ wrong.Nothing) × (second ≡ wrong.Nothing)
told_first-nothing wrong.Missing second told = absurd (cc)
told_first-nothing wrong.Type wrong.Missing told = absurd (cc)
told_first-nothing wrong.Type wrong.Type told = absurd (cc)
told_first-nothing wrong.Type wrong.Name told = absurd (cc)
told_first-nothing wrong.Type wrong.Day told = absurd (cc)
told_first-nothing wrong.Type wrong.Nothing told = absurd (cc)
told_first-nothing wrong.Name wrong.Missing told = absurd (cc)
told_first-nothing wrong.Name wrong.Type told = absurd (cc)
told_first-nothing wrong.Name wrong.Name told = absurd (cc)
told_first-nothing wrong.Name wrong.Day told = absurd (cc)
told_first-nothing wrong.Name wrong.Nothing told = absurd (cc)
told_first-nothing wrong.Day wrong.Missing told = absurd (cc)
told_first-nothing wrong.Day wrong.Type told = absurd (cc)
told_first-nothing wrong.Day wrong.Name told = absurd (cc)
told_first-nothing wrong.Day wrong.Day told = absurd (cc)
told_first-nothing wrong.Day wrong.Nothing told = absurd (cc)
told_first-nothing wrong.Nothing second told = (refl, told)

-- nothing is wrong with any of some members
abbrev pub AreRight : (Member → Wrong) → List Member → Type 0
AreRight judge [] = ⊤
AreRight judge (one ∷ later) = (judge one ≡ wrong.Nothing) × AreRight judge later

told_from-nothing : (judge : Member → Wrong) (told : Wrong) (members : List Member)
    → told_from judge told members ≡ wrong.Nothing → (told ≡ wrong.Nothing) × AreRight judge members
told_from-nothing judge told [] is = (is, tt)
told_from-nothing judge told (one ∷ later) is =
    let rest = told_from-nothing judge (told_first told (judge one)) later is in
    let both = told_first-nothing told (judge one) rest.0 in (both.0, (both.1, rest.1))

-- where nothing is told of a request, nothing is wrong with any of its members
pub members_right : (dated : Bool) (kind : Kind) (object : Members)
    → first_wrong dated kind object ≡ wrong.Nothing
    → AreRight (wrong_needed object) (members_of kind).needed
    × AreRight (wrong_optional object) (members_of kind).optional
unfolding first_wrong
members_right dated kind object is =
    let needed = told_first-nothing (told_from (wrong_needed object) wrong.Nothing (members_of kind).needed)
    (told_first (told_from (wrong_optional object) wrong.Nothing (members_of kind).optional)
    (wrong_today dated object)) is in
    let optional = told_first-nothing
    (told_from (wrong_optional object) wrong.Nothing (members_of kind).optional) (wrong_today dated object)
    needed.1 in (
      (told_from-nothing (wrong_needed object) wrong.Nothing (members_of kind).needed needed.0).1,
      (told_from-nothing (wrong_optional object) wrong.Nothing (members_of kind).optional optional.0).1,
    )

-- a value is read as what its sort wants
abbrev pub IsReadAs : Sort → Data → Type 0
IsReadAs sort.Name value = is_some (name_in value) ≡ true
IsReadAs sort.Key value = is_some (key_in value) ≡ true
IsReadAs sort.Currency value = is_some (currency_in value) ≡ true
IsReadAs sort.Period value = is_some (period_in value) ≡ true
IsReadAs sort.Scope value = is_some (scope_in value) ≡ true
IsReadAs sort.Day value = is_some (day_in value) ≡ true
IsReadAs sort.Bcd value = is_some (bcd_in value) ≡ true
IsReadAs sort.Amount value = is_some (amount_in value) ≡ true
IsReadAs sort.Invoice value = is_some (invoice_in value) ≡ true
IsReadAs sort.Truth value = is_some (as_bool value) ≡ true
IsReadAs sort.Text value = is_some (as_str value) ≡ true

passed : (test : Bool) (other : Wrong) → (other ≡ wrong.Nothing → ⊥)
    → (if test then wrong.Nothing else other) ≡ wrong.Nothing → test ≡ true
passed true other differs is = refl
passed false other differs is = absurd (differs is)

typed : (test : Bool) (judged : Wrong) → (if test then judged else wrong.Type) ≡ wrong.Nothing
    → (test ≡ true) × (judged ≡ wrong.Nothing)
typed true judged is = (refl, is)
typed false judged is = absurd (cc)

no_name : wrong.Name ≡ wrong.Nothing → ⊥
no_name is = absurd (cc)

no_day : wrong.Day ≡ wrong.Nothing → ⊥
no_day is = absurd (cc)

right_read : (one : Sort) (value : Data) → wrong_in one value ≡ wrong.Nothing → IsReadAs one value
unfolding wrong_in has_type wrong_of_type
right_read sort.Name value is = passed _ wrong.Name no_name (typed (has_type sort.Name value) _ is).1
right_read sort.Key value is = passed _ wrong.Name no_name (typed (has_type sort.Key value) _ is).1
right_read sort.Currency value is = passed _ wrong.Name no_name (typed (has_type sort.Currency value) _ is).1
right_read sort.Period value is = passed _ wrong.Name no_name (typed (has_type sort.Period value) _ is).1
right_read sort.Scope value is = passed _ wrong.Name no_name (typed (has_type sort.Scope value) _ is).1
right_read sort.Day value is = passed _ wrong.Day no_day (typed (has_type sort.Day value) _ is).1
right_read sort.Bcd value is = passed _ wrong.Day no_day (typed (has_type sort.Bcd value) _ is).1
right_read sort.Amount value is = (typed (has_type sort.Amount value) wrong.Nothing is).0
right_read sort.Invoice value is = (typed (has_type sort.Invoice value) wrong.Nothing is).0
right_read sort.Truth value is = (typed (has_type sort.Truth value) wrong.Nothing is).0
right_read sort.Text value is = (typed (has_type sort.Text value) wrong.Nothing is).0

-- a member that has to be there, and with which nothing is wrong, is there and is read
pub needed_found : (object : Members) (one : Member) → wrong_needed object one ≡ wrong.Nothing
    → (value : Data) × (value_at object one ≡ Some value) × IsReadAs (sort_of one) value
unfolding wrong_needed
needed_found object one right = by_value (value_at object one) refl
  where
    by_value : (found : Option Data) → value_at object one ≡ found
        → (value : Data) × (value_at object one ≡ Some value) × IsReadAs (sort_of one) value
    by_value None is = let other = rw is at right in absurd (cc)
    by_value (Some value) is = let read = rw is at right in (value, is, right_read (sort_of one) value read)
