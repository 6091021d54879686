-- Accounts that are billed one after another.
use Rattle.std.proofs.Common.{◌≡◌, ℕ, suc, ◌≤◌, ◌<◌, ◌+◌, arith, List, [], ◌∷◌, ◌++◌, length, get_or, drop}
use Rattle.std.proofs.Common.{refl, sym, subst}
use Rattle.std.proofs.lemmas.List.{append_assoc}
use Rattle.kb_gateway.specs.Told.{GatewayTold}
use Rattle.kb_lane.specs.Lanes.{LaneValue}
use Rattle.kb_lane.proofs.Rest.{next_item, all_done}
use Rattle.kb_lane.specs.Tallies.{Answer}
use Rattle.kb_lane.specs.Bills.{BillsAccount, BillsEach}

module _ {D G : Type 0} (fault_count : D → ℕ) (gateways : GatewayTold G) (day : ℕ) (accounts : List (List ℕ))
    (place : ℕ) (old now : LaneValue D G)
    (done : List Answer)
    (completes : (new : LaneValue D G) (rest : List Answer)
    → BillsEach fault_count gateways day (drop place accounts) now new rest
    → BillsEach fault_count gateways day accounts old new (done ++ rest)) where
  -- the account at a place is billed, and those behind it are left
  pub each_billed : (account : List ℕ) → place < length accounts → account ≡ get_or accounts place account
      → (next : LaneValue D G) (answer : Answer)
      → BillsAccount fault_count gateways day account now next answer
      → (new : LaneValue D G) (rest : List Answer)
      → BillsEach fault_count gateways day (drop (place + 1) accounts) next new rest
      → BillsEach fault_count gateways day accounts old new ((done ++ answer ∷ []) ++ rest)
  each_billed account inside is next answer billed new rest later =
      let further : place + 1 ≡ suc place = omega arith in
      let P : List (List ℕ) → Type 0
      = λ left. BillsEach fault_count gateways day left now new (answer ∷ rest) in
      let Q : ℕ → Type 0 = λ from. BillsEach fault_count gateways day (drop from accounts)
      next new rest in
      let R : List Answer → Type 0 = λ all. BillsEach fault_count gateways day accounts
      old new all in
      subst R (sym (append_assoc done (answer ∷ []) rest))
      (completes new (answer ∷ rest) (subst P (sym (next_item accounts place account inside is))
      (answer, rest, next, refl, billed, subst Q further later)))

  -- none is left
  pub all_billed : length accounts ≤ place → BillsEach fault_count gateways day accounts old
      now (done ++ [])
  all_billed over =
      let P : List (List ℕ) → Type 0 = λ left. BillsEach fault_count gateways day left now now [] in
      completes now [] (subst P (sym (all_done accounts place over)) (refl, refl))
