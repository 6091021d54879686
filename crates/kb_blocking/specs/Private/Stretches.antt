-- Stretches of days on which a flag is on, and the days on which it turns.
use Rattle.std.specs.Prelude.{◌≡◌, ℕ, Bool, true, ◌&&◌, nat_le, List, [], ◌∷◌, ◌++◌, map, filter}
use Rattle.std.specs.Prelude.{if◌then◌else◌, Option, Some, None, option_to_list, refl}
use Rattle.kb_blocking.specs.declared.state.Flag.{Flag}
use Rattle.kb_blocking.specs.declared.state.Chain.{Chain}
use Rattle.kb_blocking.specs.declared.stay.Stay.{Stay}
use Rattle.kb_blocking.specs.declared.stretch.Stretch.{Stretch}
use Rattle.kb_blocking.specs.Private.Stays.{is_before, has_day, counts}

-- a stretch covers a day
abbrev pub covers : ℕ → Stretch → Bool
covers day stretch = nat_le stretch.from day && is_before day stretch.until

-- the days of a stay
abbrev pub stretch_of : Stay → Stretch
stretch_of stay = record { from = stay.state.day; until = stay.until }

-- the stretches of the stays of a chain that have a flag on and have a day at all
abbrev pub stretches_of : Chain → Flag → List Stay → List Stretch
stretches_of chain flag stays =
    map stretch_of (filter (λ (stay : Stay). counts chain flag stay && has_day stay.state.day stay) stays)

-- a stretch that begins on a day leaves no day after an end
abbrev pub touches : Option ℕ → ℕ → Bool
touches None from = true
touches (Some until) from = nat_le from until

-- the later of two ends
abbrev pub later_end : Option ℕ → Option ℕ → Option ℕ
later_end None other = None
later_end (Some until) None = None
later_end (Some until) (Some other) = if nat_le until other then Some other else Some until

-- the days on which it turns from an end on, where stretches follow in the order of their first days
abbrev pub turns_from : Option ℕ → List Stretch → List ℕ
turns_from until [] = option_to_list until
turns_from until (stretch ∷ later) =
    if touches until stretch.from
    then turns_from (later_end until stretch.until) later
    else option_to_list until ++ stretch.from ∷ turns_from stretch.until later

-- the first days and the ends, where stretches that touch or overlap are one
abbrev pub turn_days : List Stretch → List ℕ
turn_days [] = []
turn_days (stretch ∷ later) = stretch.from ∷ turns_from stretch.until later

-- days from one on, up to another
abbrev between : ℕ → ℕ → Stretch
between from until = record { from = from; until = Some until }

-- the first two touch, and the third begins later
two_runs : turn_days (between 10 20 ∷ between 20 30 ∷ between 31 40 ∷ []) ≡ 10 ∷ 30 ∷ 31 ∷ 40 ∷ []
two_runs = refl

-- a stretch within another changes nothing
within_another : turn_days (between 10 40 ∷ between 20 30 ∷ []) ≡ 10 ∷ 40 ∷ []
within_another = refl
