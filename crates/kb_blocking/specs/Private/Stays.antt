-- Stays: the days on which each state is the last of its scope and service.
use Rattle.std.specs.Prelude.{◌≡◌, ℕ, Bool, true, false, ◌&&◌, nat_le, nat_lt, List, [], ◌∷◌, ◌++◌, map}
use Rattle.std.specs.Prelude.{filter, fold, if◌then◌else◌, Option, Some, None, option_to_list, refl}
use Rattle.kb_days.specs.Dates.{march}
use Rattle.kb_blocking.specs.declared.state.Scope.TheVariants.{Account}
use Rattle.kb_blocking.specs.declared.state.Flag.{Flag}
use Rattle.kb_blocking.specs.declared.state.BlockState.{BlockState}
use Rattle.kb_blocking.specs.declared.state.Chain.{Chain}
use Rattle.kb_blocking.specs.declared.stay.Stay.{Stay}
use Rattle.kb_blocking.specs.Blocking.{same_matter, is_on_chain, has_flag, last_on}

-- a day is before an end, if there is one
abbrev pub is_before : ℕ → Option ℕ → Bool
is_before day None = true
is_before day (Some end) = nat_lt day end

-- a stay has a day
abbrev pub has_day : ℕ → Stay → Bool
has_day day stay = nat_le stay.state.day day && is_before day stay.until

-- a stay is of a chain, and has a flag on
abbrev pub counts : Chain → Flag → Stay → Bool
counts chain flag stay = is_on_chain chain stay.state.scope && has_flag flag stay.state.flags

-- it does so on a day
abbrev pub counts_on : Chain → Flag → ℕ → Stay → Bool
counts_on chain flag day stay = counts chain flag stay && has_day day stay

-- the end of a stay, where a state is accepted after it: the state's day, if it has the stay's scope and
-- service and the stay has that day
abbrev pub end_by : BlockState → Stay → Option ℕ
end_by state stay =
    if same_matter state stay.state && has_day state.day stay then Some state.day else stay.until

-- the stay with that end
abbrev pub cut_by : BlockState → Stay → Stay
cut_by state stay = record { state = stay.state; until = end_by state stay }

-- of what was found and a day, the earlier
abbrev pub earlier_of : Option ℕ → ℕ → ℕ
earlier_of None day = day
earlier_of (Some found) day = if nat_le found day then found else day

-- of what was found and the first day of a stay, the earlier of those after a state's day
abbrev pub sooner : BlockState → Option ℕ → Stay → Option ℕ
sooner state found stay =
    if same_matter state stay.state && nat_lt state.day stay.state.day
    then Some (earlier_of found stay.state.day) else found

-- the first day after a state's on which a stay of its scope and service begins
abbrev pub first_after : List Stay → BlockState → Option ℕ
first_after stays state = fold (sooner state) None stays

-- the stay of a state that is accepted after others
abbrev pub stay_of : List Stay → BlockState → Stay
stay_of stays state = record { state = state; until = first_after stays state }

-- the stays, where one more state is accepted
abbrev pub with_stay : List Stay → BlockState → List Stay
with_stay stays state = map (cut_by state) stays ++ stay_of stays state ∷ []

-- an account's state of one service that begins on a day
abbrev begun_on : ℕ → BlockState
begun_on day = record {
  scope = Account;
  service = [];
  state = [];
  day = day;
  flags = record { change = true; entitlement = false; billing = false };
}

-- the stay of that, up to a day or without an end
abbrev between : ℕ → Option ℕ → Stay
between day until = record { state = begun_on day; until = until }

-- a later state ends the stay of an earlier one
ended_later : with_stay (with_stay [] (begun_on (march 18))) (begun_on (march 28))
    ≡ between (march 18) (Some (march 28)) ∷ between (march 28) None ∷ []
ended_later = refl

-- and a state that is accepted late and dated earlier ends where the other begins
dated_earlier : with_stay (with_stay [] (begun_on (march 28))) (begun_on (march 18))
    ≡ between (march 28) None ∷ between (march 18) (Some (march 28)) ∷ []
dated_earlier = refl

-- these are the stays of states: of the stays of a scope and service that have a day there is that of its
-- last state
pub record AreStays (states : List BlockState) (stays : List Stay) : Type 0 where
  pub same : map (λ (stay : Stay). stay.state) stays ≡ states
  pub last : (matter : BlockState) (day : ℕ)
      → map (λ (stay : Stay). stay.state)
      (filter (λ (stay : Stay). same_matter matter stay.state && has_day day stay) stays)
      ≡ option_to_list (last_on states matter day)
