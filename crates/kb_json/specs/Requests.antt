-- What a line is read as: a request, or its first fault.
use Rattle.std.specs.Prelude.{ℕ, ◌≡◌, Bool, List, codes, if◌then◌else◌, Option, Some, None, Result, Ok, Err}
use Rattle.std.specs.Prelude.{option_and_then}
use Rattle.std.specs.Str.{is_utf8}
use Rattle.serde_json.specs.Data.{Data, Members}
use Rattle.serde_json.specs.Read.{read}
use Rattle.serde_json.specs.Find.{get_member, as_object, as_str}
use Rattle.kb_json.specs.declared.fault.JsonFault.{JsonFault}
use Rattle.kb_json.specs.declared.fault.JsonFault.TheVariants as json
use Rattle.kb_json.specs.declared.fault.RequestFault.{RequestFault}
use Rattle.kb_json.specs.declared.fault.RequestFault.TheVariants as faults
use Rattle.kb_json.specs.declared.kind.Kind.{Kind}
use Rattle.kb_json.specs.declared.member.Member.TheVariants as member
use Rattle.kb_json.specs.declared.request.Request.{Request}
use Rattle.kb_json.specs.declared.request.What.{What}
use Rattle.kb_json.specs.declared.wrong.Wrong.{Wrong}
use Rattle.kb_json.specs.declared.wrong.Wrong.TheVariants as wrong
use Rattle.kb_json.specs.RequestKinds.{kind_named}
use Rattle.kb_json.specs.Wrongs.{is_known, has_unknown, first_wrong}
use Rattle.kb_json.specs.Asked.{asked, day_at}

-- the number of a fault
abbrev pub fault_number : JsonFault → ℕ
fault_number json.NotJson = 1
fault_number json.NotAnObject = 2
fault_number json.NoKind = 3
fault_number json.Missing = 4
fault_number json.WrongType = 5
fault_number json.Unknown = 6

-- the JSON value that a line is, if it is one
unfoldable pub json_of : List ℕ → Option Data
json_of line = if is_utf8 line then read line else None

-- the kind of a request: the word at `do`
unfoldable pub kind_in : Bool → Members → Option Kind
kind_in dated object =
    option_and_then (kind_named dated) (option_and_then as_str (get_member (codes "do") object))

-- the request, on the day that the line names
abbrev pub dated_on : Option ℕ → Result What RequestFault → Result Request RequestFault
dated_on today (Ok what) = Ok (record { today = today; what = what })
dated_on today (Err fault) = Err fault

-- what is told of a request by what is wrong with its members
abbrev pub judged : Wrong → Result Request RequestFault → Result Request RequestFault
judged wrong.Missing request = Err (faults.Json json.Missing)
judged wrong.Type request = Err (faults.Json json.WrongType)
judged wrong.Name request = Err faults.BadName
judged wrong.Day request = Err faults.BadDate
judged wrong.Nothing request = request

-- what an object of a kind asks for: first each member has to be known
unfoldable pub ask_of_kind : Bool → Members → Kind → Result Request RequestFault
ask_of_kind dated object kind =
    if has_unknown (is_known dated kind) object then Err (faults.Json json.Unknown)
    else judged (first_wrong dated kind object) (dated_on (day_at object member.Today) (asked kind object))

-- what an object asks for
unfoldable pub ask_of_object : Bool → Members → Result Request RequestFault
ask_of_object dated object = of_kind (kind_in dated object)
  where
    of_kind : Option Kind → Result Request RequestFault
    of_kind None = Err (faults.Json json.NoKind)
    of_kind (Some kind) = ask_of_kind dated object kind

-- what a value asks for
unfoldable pub ask_of_value : Bool → Data → Result Request RequestFault
ask_of_value dated value = of_object (as_object value)
  where
    of_object : Option Members → Result Request RequestFault
    of_object None = Err (faults.Json json.NotAnObject)
    of_object (Some object) = ask_of_object dated object

-- what a line asks for; where it may not be dated, it asks for commands alone and names no day
unfoldable pub ask : Bool → List ℕ → Result Request RequestFault
ask dated line = of_value (json_of line)
  where
    of_value : Option Data → Result Request RequestFault
    of_value None = Err (faults.Json json.NotJson)
    of_value (Some value) = ask_of_value dated value

-- why a line has no JSON value: it isn't JSON, or memory ran out while it was read
abbrev pub IsNoJson : List ℕ → RequestFault → Type 0
IsNoJson line fault = (fault ≡ faults.NoMemory → ⊥)
    → (fault ≡ faults.Json json.NotJson) × (json_of line ≡ None)
