-- What is wrong with a member, step by step.
use Rattle.std.proofs.Common.{◌≡◌, ℕ, Bool, true, false, List, Some, None, refl}
use Rattle.serde_json.specs.Data.{Data, Members, member}
use Rattle.kb_json.specs.declared.member.Member.{Member}
use Rattle.kb_json.specs.declared.wrong.Wrong.TheVariants as wrong
use Rattle.kb_json.specs.Members.{sort_of}
use Rattle.kb_json.specs.Wrongs.{value_at, wrong_in, wrong_needed, wrong_optional, has_unknown}

-- what is wrong with a member
pub wrong_needed-none : (object : Members) (one : Member) → value_at object one ≡ None
    → wrong_needed object one ≡ wrong.Missing
unfolding wrong_needed
wrong_needed-none object one none = rw none refl

pub wrong_needed-some : (object : Members) (one : Member) (value : Data) → value_at object one ≡ Some value
    → wrong_needed object one ≡ wrong_in (sort_of one) value
unfolding wrong_needed
wrong_needed-some object one value is = rw is refl

pub wrong_optional-none : (object : Members) (one : Member) → value_at object one ≡ None
    → wrong_optional object one ≡ wrong.Nothing
unfolding wrong_optional
wrong_optional-none object one none = rw none refl

pub wrong_optional-some : (object : Members) (one : Member) (value : Data)
    → value_at object one ≡ Some value
    → wrong_optional object one ≡ wrong_in (sort_of one) value
unfolding wrong_optional
wrong_optional-some object one value is = rw is refl

pub ruleset members = (wrong_needed-none, wrong_needed-some, wrong_optional-none, wrong_optional-some)

-- a member that is known, and one that isn't
pub has_unknown-passed : (known : List ℕ → Bool) (name : List ℕ) (value : Data) (later : Members)
    → known name ≡ true
    → has_unknown known (member name value later) ≡ has_unknown known later
unfolding has_unknown
has_unknown-passed known name value later passes = rw passes refl

pub has_unknown-here : (known : List ℕ → Bool) (name : List ℕ) (value : Data) (later : Members)
    → known name ≡ false
    → has_unknown known (member name value later) ≡ true
unfolding has_unknown
has_unknown-here known name value later fails = rw fails refl
