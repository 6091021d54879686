-- What a line is read as, step by step.
use Rattle.std.proofs.Common.{◌≡◌, ℕ, Bool, true, false, List, Some, None, Err, IsUtf8, refl}
use Rattle.std.specs.Str.{is_utf8}
use Rattle.std.proofs.lemmas.Str.{is_utf8-from_IsUtf8, IsUtf8-from_is_utf8}
use Rattle.serde_json.specs.Data.{Data, Members}
use Rattle.serde_json.specs.Read.{read}
use Rattle.serde_json.specs.Find.{as_object}
use Rattle.kb_json.specs.declared.fault.JsonFault.TheVariants as json
use Rattle.kb_json.specs.declared.fault.RequestFault.TheVariants as faults
use Rattle.kb_json.specs.declared.kind.Kind.{Kind}
use Rattle.kb_json.specs.Requests.{json_of, kind_in, ask_of_kind, ask_of_object, ask_of_value, ask}

-- a line that is JSON, and one that isn't
pub json_of-some : (line : List ℕ) (value : Data) → IsUtf8 line → read line ≡ Some value
    → json_of line ≡ Some value
unfolding json_of
json_of-some line value utf8 is = rw (is_utf8-from_IsUtf8 line utf8, is) refl

pub json_of-none : (line : List ℕ) → (IsUtf8 line → read line ≡ None) → json_of line ≡ None
unfolding json_of
json_of-none line refused = by_test (is_utf8 line) refl
  where
    by_test : (utf8 : Bool) → is_utf8 line ≡ utf8 → json_of line ≡ None
    by_test true is = rw is (refused (IsUtf8-from_is_utf8 line is))
    by_test false is = rw is refl

pub ruleset texts = (json_of-some, json_of-none)

-- what a line asks for
pub ask-value : (dated : Bool) (line : List ℕ) (value : Data) → json_of line ≡ Some value
    → ask dated line ≡ ask_of_value dated value
unfolding ask
ask-value dated line value is = rw is refl

pub ask-no_json : (dated : Bool) (line : List ℕ) → json_of line ≡ None
    → ask dated line ≡ Err (faults.Json json.NotJson)
unfolding ask
ask-no_json dated line none = rw none refl

pub ruleset lines = (ask-value, ask-no_json)

-- what a value asks for
pub ask_of_value-object : (dated : Bool) (value : Data) (object : Members) → as_object value ≡ Some object
    → ask_of_value dated value ≡ ask_of_object dated object
unfolding ask_of_value
ask_of_value-object dated value object is = rw is refl

pub ask_of_value-none : (dated : Bool) (value : Data) → as_object value ≡ None
    → ask_of_value dated value ≡ Err (faults.Json json.NotAnObject)
unfolding ask_of_value
ask_of_value-none dated value none = rw none refl

pub ruleset values = (ask_of_value-object, ask_of_value-none)

-- what an object asks for
pub ask_of_object-kind : (dated : Bool) (object : Members) (kind : Kind) → kind_in dated object ≡ Some kind
    → ask_of_object dated object ≡ ask_of_kind dated object kind
unfolding ask_of_object
ask_of_object-kind dated object kind is = rw is refl

pub ask_of_object-none : (dated : Bool) (object : Members) → kind_in dated object ≡ None
    → ask_of_object dated object ≡ Err (faults.Json json.NoKind)
unfolding ask_of_object
ask_of_object-none dated object none = rw none refl

pub ruleset objects = (ask_of_object-kind, ask_of_object-none)
