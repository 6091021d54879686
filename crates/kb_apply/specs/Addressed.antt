-- The lanes that a request is on.
use Rattle.std.specs.Prelude.{ℕ, ◌≡◌, List, ◌∷◌, [], Option, Some, None, if◌then◌else◌, refl}
use Rattle.kb_codec.specs.Senders.{is_text, account_of}
use Rattle.kb_lane.specs.Reading.{asked_account}
use Rattle.kb_desk.specs.Lanes.{lane_of}
use Rattle.kb_json.specs.declared.request.What.{What}
use Rattle.kb_json.specs.declared.request.What.TheVariants as whats

-- the account that a request is on; a text and the looking up of payments are on all lanes
abbrev pub account_on : What → Option (List ℕ)
account_on (whats.Command command) = if is_text command then None else Some (account_of command)
account_on (whats.Query query) = Some (asked_account query)
account_on whats.Janitor = None

looking_up_is_on_all : account_on whats.Janitor ≡ None
looking_up_is_on_all = refl

-- the first of the lanes that a request is on, and how many there are
abbrev pub first_lane : ℕ → Option (List ℕ) → ℕ
first_lane lanes None = 0
first_lane lanes (Some account) = lane_of account lanes

abbrev pub lanes_on : ℕ → Option (List ℕ) → ℕ
lanes_on lanes None = lanes
lanes_on lanes (Some account) = 1

all_four : lanes_on 4 None ≡ 4
all_four = refl

one_of_four : lanes_on 4 (Some (97 ∷ [])) ≡ 1
one_of_four = refl
