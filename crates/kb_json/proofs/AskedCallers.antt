-- A line asks for commands of callers alone.
use Rattle.std.proofs.Common.{◌≡◌, Bool, true, false, List, ℕ, Option, None, Some, Result, Ok, Err, IfOk}
use Rattle.std.proofs.Common.{refl, sym, subst, if◌then◌else◌}
use Rattle.serde_json.specs.Data.{Data, Members}
use Rattle.serde_json.specs.Find.{as_object}
use Rattle.kb_catalog.specs.declared.version.Version.{Version}
use Rattle.kb_overdue.specs.declared.state.OverdueState.{OverdueState}
use Rattle.kb_catalog_text.specs.declared.fault.TextFault.{TextFault}
use Rattle.kb_catalog_text.specs.Texts.{catalog_read, overdue_read}
use Rattle.kb_codec.specs.declared.command.Command.{Command}
use Rattle.kb_book.specs.declared.query.Query.{Query}
use Rattle.kb_codec.specs.Senders.{is_callers}
use Rattle.kb_json.specs.declared.fault.JsonFault.TheVariants as json
use Rattle.kb_json.specs.declared.fault.RequestFault.{RequestFault}
use Rattle.kb_json.specs.declared.fault.RequestFault.TheVariants as faults
use Rattle.kb_json.specs.declared.kind.Kind.{Kind}
use Rattle.kb_json.specs.declared.kind.Kind.TheVariants as kinds
use Rattle.kb_json.specs.declared.member.Member.TheVariants as member
use Rattle.kb_json.specs.declared.request.Request.{Request}
use Rattle.kb_json.specs.declared.request.What.{What}
use Rattle.kb_json.specs.declared.request.What.TheVariants as whats
use Rattle.kb_json.specs.declared.wrong.Wrong.{Wrong}
use Rattle.kb_json.specs.declared.wrong.Wrong.TheVariants as wrong
use Rattle.kb_json.specs.Wrongs.{has_unknown, first_wrong, is_known}
use Rattle.kb_json.specs.Asked.{IsAsked, asked, command_asked, query_asked, catalog_of, overdue_of}
use Rattle.kb_json.specs.Asked.{name_at, text_at, day_at}
use Rattle.kb_json.specs.Requests.{json_of, kind_in, ask, ask_of_value, ask_of_object, ask_of_kind}
use Rattle.kb_json.specs.Requests.{dated_on, judged}
use Rattle.kb_json.proofs.Steps.{ask-value, ask-no_json, ask_of_value-object, ask_of_value-none}
use Rattle.kb_json.proofs.Steps.{ask_of_object-kind, ask_of_object-none}
use Rattle.kb_json.specs.Callers.{IsCallers}

-- what is read is of a caller, if it isn't a fault
abbrev AreCallers : Result What RequestFault → Type 0
AreCallers told = (what : What) → told ≡ Ok what → IsCallers what

abbrev AskCallers : Result Request RequestFault → Type 0
AskCallers told = (request : Request) → told ≡ Ok request → IsCallers request.what

command-callers : (command : Command) → is_callers command ≡ true → AreCallers (command_asked command)
command-callers command callers what is = let same : whats.Command command ≡ what =
    cc in subst IsCallers same callers

query-callers : (query : Query) → AreCallers (query_asked query)
query-callers query what is = let same : whats.Query query ≡ what = cc in subst IsCallers same tt

catalog-callers : (key text : List ℕ) (read : Result Version TextFault)
    → AreCallers (catalog_of key text read)
catalog-callers key text (Ok version) what is = command-callers _ refl what is
catalog-callers key text (Err fault) what is = absurd (cc)

overdue-callers : (key text : List ℕ) (read : Result (List OverdueState) TextFault)
    → AreCallers (overdue_of key text read)
overdue-callers key text (Ok states) what is = command-callers _ refl what is
overdue-callers key text (Err fault) what is = absurd (cc)

asked-callers : (kind : Kind) (object : Members) → AreCallers (asked kind object)
unfolding asked
asked-callers kinds.Catalog object = catalog-callers (name_at object member.Key) (text_at object member.Text)
    (catalog_read (text_at object member.Text))
asked-callers kinds.OverdueRules object = overdue-callers (name_at object member.Key)
    (text_at object member.Text)
    (overdue_read (text_at object member.Text))
asked-callers kinds.Janitor object = λ what is. let same : whats.Janitor ≡ what =
    cc in subst IsCallers same tt
asked-callers kinds.Account object = query-callers _
asked-callers kinds.Invoice object = query-callers _
asked-callers kinds.Payment object = query-callers _
asked-callers kinds.Subscription object = query-callers _
asked-callers kind object = command-callers _ refl

dated-callers : (today : Option ℕ) (told : Result What RequestFault) → AreCallers told
    → AskCallers (dated_on today told)
dated-callers today (Ok what) callers request is =
    let same : what ≡ request.what = cc in subst IsCallers same (callers what refl)
dated-callers today (Err fault) callers request is = absurd (cc)

judged-callers : (one : Wrong) (told : Result Request RequestFault) → AskCallers told
    → AskCallers (judged one told)
judged-callers wrong.Missing told callers request is = absurd (cc)
judged-callers wrong.Type told callers request is = absurd (cc)
judged-callers wrong.Name told callers request is = absurd (cc)
judged-callers wrong.Day told callers request is = absurd (cc)
judged-callers wrong.Nothing told callers request is = callers request is

kind-callers : (dated : Bool) (object : Members) (kind : Kind) → AskCallers (ask_of_kind dated object kind)
unfolding ask_of_kind
kind-callers dated object kind = by_known (has_unknown (is_known dated kind) object)
  where
    by_known : (unknown : Bool) → AskCallers (if unknown then Err (faults.Json json.Unknown)
        else judged (first_wrong dated kind object) (dated_on (day_at object member.Today)
        (asked kind object)))
    by_known true request is = absurd (cc)
    by_known false request is = judged-callers (first_wrong dated kind object)
        (dated_on (day_at object member.Today) (asked kind object))
        (dated-callers (day_at object member.Today) (asked kind object) (asked-callers kind object)) request
        is

-- so is what a line asks for
ask_callers : (dated : Bool) (line : List ℕ) (request : Request) → ask dated line ≡ Ok request
    → IsCallers request.what
ask_callers dated line = by_json (json_of line) refl
  where
    by_kind : (object : Members) (kind : Option Kind) → kind_in dated object ≡ kind
        → AskCallers (ask_of_object dated object)
    by_kind object None is = subst AskCallers (sym (ask_of_object-none dated object is))
        (λ request fault. absurd (cc))
    by_kind object (Some kind) is =
        subst AskCallers (sym (ask_of_object-kind dated object kind is)) (kind-callers dated object kind)

    by_object : (value : Data) (object : Option Members) → as_object value ≡ object
        → AskCallers (ask_of_value dated value)
    by_object value None is = subst AskCallers (sym (ask_of_value-none dated value is))
        (λ request fault. absurd (cc))
    by_object value (Some object) is = subst AskCallers (sym (ask_of_value-object dated value object is))
        (by_kind object (kind_in dated object) refl)

    by_json : (value : Option Data) → json_of line ≡ value → AskCallers (ask dated line)
    by_json None is = subst AskCallers (sym (ask-no_json dated line is)) (λ request fault. absurd (cc))
    by_json (Some value) is = subst AskCallers (sym (ask-value dated line value is))
        (by_object value (as_object value) refl)

pub read_callers : (dated : Bool) (line : List ℕ) (read : Result Request RequestFault)
    → IsAsked read (ask dated line)
    → IfOk read (λ request. IsCallers request.what)
read_callers dated line (Ok request) is = ask_callers dated line request is
read_callers dated line (Err fault) is = tt
