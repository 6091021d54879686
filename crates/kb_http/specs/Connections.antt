-- A connection, and what it tells next.
use Rattle.std.specs.Prelude.{ℕ, ◌≡◌, ◌<◌, ⊤, List, [], ◌++◌, length, Option, None, Some, Ok, Err}
use Rattle.std.specs.Io.KnownBytes.{prepend_known, IsAtEnd}
use Rattle.httparse.specs.Grammar.{RequestHead}
use Rattle.kb_http.specs.declared.request.HttpRequest.{HttpRequest}
use Rattle.kb_http.specs.declared.stop.Stop.{Stop}
use Rattle.kb_http.specs.declared.stop.Stop.TheVariants as stop
use Rattle.kb_http.specs.declared.stop.HttpNext.{HttpNext}
use Rattle.kb_http.specs.declared.stop.HttpNext.TheVariants.{Request, Refuse, Closed, Cut}
use Rattle.kb_http.specs.declared.stop.HttpNext.TheVariants.{InputFault, NoMemory}
use Rattle.kb_http.specs.Heads.{framing}
use Rattle.kb_base.specs.Faults.{Rose}
use Rattle.kb_http.specs.Requests.{given_after, IsRefused, IsCutShort}

-- A connection: its link, the bytes that were read and are of no request that was given, how many requests
-- were given as far as it counts, and why it gives no more.
pub record ConnValue (L : Type 0) : Type 0 where
  pub link : L
  pub pending : List ℕ
  pub given : ℕ
  pub ended : Option Stop

-- a connection of which nothing is read
abbrev pub new_conn : {L : Type 0} → L → ConnValue L
new_conn link = record { link = link; pending = []; given = 0; ended = None }

-- the bytes that are of no request yet: those that were read, and those that are left in the link, where it
-- tells them
abbrev pub unread : {L : Type 0} → (L → Option (List ℕ)) → ConnValue L → Option (List ℕ)
unread left conn = prepend_known conn.pending (left conn.link)

-- what is told of a connection that gives no more
abbrev pub told_of : Stop → HttpNext
told_of (stop.Refuse status) = Refuse status
told_of stop.Closed = Closed
told_of stop.Cut = Cut
told_of stop.InputFault = InputFault
told_of stop.NoMemory = NoMemory

-- why a connection gives no more after it has told this
abbrev pub ended_by : HttpNext → Option Stop
ended_by (Request request) = None
ended_by (Refuse status) = Some (stop.Refuse status)
ended_by Closed = Some stop.Closed
ended_by Cut = Some stop.Cut
ended_by InputFault = Some stop.InputFault
ended_by NoMemory = Some stop.NoMemory

-- this of a request that is given
abbrev pub IfRequest : HttpNext → (HttpRequest → Type 0) → Type 0
IfRequest (Request request) P = P request
IfRequest (Refuse status) P = ⊤
IfRequest Closed P = ⊤
IfRequest Cut P = ⊤
IfRequest InputFault P = ⊤
IfRequest NoMemory P = ⊤

-- this where none is given
abbrev pub UnlessRequest : HttpNext → Type 0 → Type 0
UnlessRequest (Request request) P = ⊤
UnlessRequest (Refuse status) P = P
UnlessRequest Closed P = P
UnlessRequest Cut P = P
UnlessRequest InputFault P = P
UnlessRequest NoMemory P = P

-- this unless a read has failed
abbrev pub UnlessFault : HttpNext → Type 0 → Type 0
UnlessFault (Request request) P = P
UnlessFault (Refuse status) P = P
UnlessFault Closed P = P
UnlessFault Cut P = P
UnlessFault InputFault P = ⊤
UnlessFault NoMemory P = P

-- Why no request is given: of the counts of faults before and after, of what is left in the link and of the
-- bytes that were read. Want of memory is free.
abbrev pub IsCaused : ℕ → ℕ → Option (List ℕ) → List ℕ → HttpNext → Type 0
IsCaused old new left pending (Request request) = ⊤
IsCaused old new left pending (Refuse status) = IsRefused status pending
IsCaused old new left pending Closed = (pending ≡ []) × IsAtEnd left
IsCaused old new left pending Cut = IsCutShort pending × IsAtEnd left
IsCaused old new left pending InputFault = Rose old new
IsCaused old new left pending NoMemory = ⊤

-- how many requests were given after this, as far as a connection counts
abbrev pub count_after : ℕ → HttpNext → ℕ
count_after given (Request request) = given_after given
count_after given (Refuse status) = given
count_after given Closed = given
count_after given Cut = given
count_after given InputFault = given
count_after given NoMemory = given

-- What is told where the bytes that are unread begin with a head within the limits: the request or the
-- refusal that it asks for, or that they end within its body. Faults and want of memory have their own
-- causes.
abbrev pub Meets : RequestHead → List ℕ → HttpNext → Type 0
Meets head rest (Request request) =
    (framing head ≡ Ok (length request.body)) × ((more : List ℕ) × (rest ≡ request.body ++ more))
Meets head rest (Refuse status) = framing head ≡ Err status
Meets head rest Closed = ⊥
Meets head rest Cut = (count : ℕ) × (framing head ≡ Ok count) × (length rest < count)
Meets head rest InputFault = ⊤
Meets head rest NoMemory = ⊤

-- nothing is told but that the connection has closed
abbrev pub MeetsEnd : HttpNext → Type 0
MeetsEnd (Request request) = ⊥
MeetsEnd (Refuse status) = ⊥
MeetsEnd Closed = ⊤
MeetsEnd Cut = ⊥
MeetsEnd InputFault = ⊤
MeetsEnd NoMemory = ⊤

-- nothing is told but that the bytes end within a request
abbrev pub MeetsPart : HttpNext → Type 0
MeetsPart (Request request) = ⊥
MeetsPart (Refuse status) = ⊥
MeetsPart Closed = ⊥
MeetsPart Cut = ⊤
MeetsPart InputFault = ⊤
MeetsPart NoMemory = ⊤
