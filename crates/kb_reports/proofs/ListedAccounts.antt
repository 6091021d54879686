-- Accounts that are listed lane after lane.
use Rattle.std.proofs.Common.{ℕ, ◌≡◌, List, map, ap, ◌∙◌}
use Rattle.std.proofs.lemmas.Simd.{map-map}
use Rattle.kb_book.specs.Books.{BookValue}
use Rattle.kb_machine.specs.Machines.{MachineValue}
use Rattle.kb_reports.specs.Listings.{accounts_in}
use Rattle.kb_reports.specs.Private.Collecting.{listed_in}

-- the names of a lane's accounts, listed, are its accounts
pub names_listed : (lane : ℕ) (machine : MachineValue) (names : List (List ℕ))
    → names ≡ map (λ (entry : List ℕ × BookValue). entry.0) machine.books
    → map (listed_in lane) names ≡ accounts_in lane machine
names_listed lane machine names are =
    ap (map (listed_in lane)) are ∙ map-map (listed_in lane)
    (λ (entry : List ℕ × BookValue). entry.0) machine.books
