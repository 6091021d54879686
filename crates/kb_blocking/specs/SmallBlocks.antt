-- A bundle that is paused and resumed, and an account that is blocked.
use Rattle.std.specs.Prelude.{◌≡◌, ℕ, true, false, List, [], ◌∷◌, codes, Some, refl}
use Rattle.kb_days.specs.Dates.{march}
use Rattle.kb_blocking.specs.declared.state.Scope.TheVariants.{Account, Bundle}
use Rattle.kb_blocking.specs.declared.state.Flag.TheVariants.{Change, Billing}
use Rattle.kb_blocking.specs.declared.state.Flags.{Flags}
use Rattle.kb_blocking.specs.declared.state.BlockState.{BlockState}
use Rattle.kb_blocking.specs.declared.state.Chain.{Chain}
use Rattle.kb_blocking.specs.Blocking.{is_on, turns}

-- what a state blocks, if it blocks all, nothing, or changes alone
abbrev all : Flags
all = record { change = true; entitlement = true; billing = true }

abbrev none : Flags
none = record { change = false; entitlement = false; billing = false }

abbrev changes : Flags
changes = record { change = true; entitlement = false; billing = false }

-- a state of a service of the bundle 0, from a day on
abbrev of_bundle : List ℕ → ℕ → Flags → BlockState
of_bundle state day flags = record {
  scope = Bundle 0;
  service = codes "entitlement-service";
  state = state;
  day = day;
  flags = flags;
}

-- the bundle is paused on 18 March, and resumed on 28 March
abbrev paused : BlockState
paused = of_bundle (codes "ENT_BLOCKED") (march 18) all

abbrev resumed : BlockState
resumed = of_bundle (codes "ENT_CLEAR") (march 28) none

-- the account may not change from 23 March on
abbrev frozen : BlockState
frozen = record {
  scope = Account;
  service = codes "fraud";
  state = codes "FROZEN";
  day = march 23;
  flags = changes;
}

-- a subscription 3 of the bundle 0
abbrev chain : Chain
chain = record { bundle = Some 0; subscription = Some 3 }

before_the_pause : is_on (paused ∷ frozen ∷ resumed ∷ []) chain Billing (march 17) ≡ false
unfolding is_on
before_the_pause = refl

in_the_pause : is_on (paused ∷ frozen ∷ resumed ∷ []) chain Billing (march 27) ≡ true
unfolding is_on
in_the_pause = refl

after_the_pause : is_on (paused ∷ frozen ∷ resumed ∷ []) chain Billing (march 28) ≡ false
unfolding is_on
after_the_pause = refl

-- another service's state isn't hidden by the end of the pause
still_frozen : is_on (paused ∷ frozen ∷ resumed ∷ []) chain Change (march 28) ≡ true
unfolding is_on
still_frozen = refl

-- of two states of one day the later accepted counts
resumed_on_the_same_day :
    is_on (paused ∷ record resumed { day = march 18 } ∷ []) chain Billing (march 18) ≡ false
unfolding is_on
resumed_on_the_same_day = refl

-- another bundle isn't paused
other_bundle : is_on (paused ∷ []) (record chain { bundle = Some 1 }) Billing (march 18) ≡ false
unfolding is_on
other_bundle = refl

turns_on_the_pause : turns (paused ∷ resumed ∷ []) chain Billing (march 18) ≡ true
unfolding is_on
turns_on_the_pause = refl

stays_on_the_day_after : turns (paused ∷ resumed ∷ []) chain Billing (march 19) ≡ false
unfolding is_on
stays_on_the_day_after = refl
