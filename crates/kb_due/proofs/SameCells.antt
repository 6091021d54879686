-- The test for the same cell tells just that.
use Rattle.std.proofs.Common.{◌≡◌, ℕ, true, nat_eq, ◌&&◌, refl}
use Rattle.std.proofs.lemmas.Bool.{and_parts, and_from, eqb-true, eq-eqb}
use Rattle.kb_base.specs.Runs.{IsSame}
use Rattle.kb_timeline.specs.declared.entry.PlanRef.{PlanRef}
use Rattle.kb_due.specs.declared.cell.Cell.{Cell}
use Rattle.kb_due.specs.CellStretches.{same_plan, same_cell}

-- three numbers make a reference
plan_parts : (version version' list list' plan plan' : ℕ) → version ≡ version' → list ≡ list' → plan ≡ plan'
    → ◌≡◌ {A = PlanRef} (record { version = version; list = list; plan = plan })
    (record { version = version'; list = list'; plan = plan' })
plan_parts version version' list list' plan plan' versions lists plans = cc

-- references that pass the test are the same
same_plan-sound : (one other : PlanRef) → same_plan one other ≡ true → one ≡ other
same_plan-sound one other passed =
    let whole = and_parts (nat_eq one.version other.version && nat_eq one.list other.list)
    (nat_eq one.plan other.plan) passed in
    let listed = and_parts (nat_eq one.version other.version) (nat_eq one.list other.list) whole.0 in
    plan_parts one.version other.version one.list other.list one.plan other.plan
    (eqb-true one.version other.version listed.0) (eqb-true one.list other.list listed.1)
    (eqb-true one.plan other.plan whole.1)

-- a reference passes the test against itself
same_plan-complete : (one : PlanRef) → same_plan one one ≡ true
same_plan-complete one =
    and_from (nat_eq one.version one.version && nat_eq one.list one.list) (nat_eq one.plan one.plan)
    (and_from (nat_eq one.version one.version) (nat_eq one.list one.list)
    (eq-eqb one.version one.version refl) (eq-eqb one.list one.list refl))
    (eq-eqb one.plan one.plan refl)

-- a reference and four numbers make a cell
cell_parts : (plan plan' : PlanRef) (phase phase' start start' end end' price price' : ℕ) → plan ≡ plan'
    → phase ≡ phase' → start ≡ start' → end ≡ end'
    → price ≡ price'
    → ◌≡◌ {A = Cell} (record { plan = plan; phase = phase; start = start; end = end; price = price })
    (record { plan = plan'; phase = phase'; start = start'; end = end'; price = price' })
cell_parts plan plan' phase phase' start start' end end' price price' plans phases starts ends prices = cc

-- cells that pass the test are the same
same_cell-sound : (one other : Cell) → same_cell one other ≡ true → one ≡ other
same_cell-sound one other passed =
    let whole = and_parts (same_plan one.plan other.plan && nat_eq one.phase other.phase && nat_eq one.start
    other.start && nat_eq one.end other.end)
    (nat_eq one.price other.price) passed in
    let ended = and_parts (same_plan one.plan other.plan && nat_eq one.phase other.phase && nat_eq one.start
    other.start) (nat_eq one.end other.end) whole.0 in
    let started = and_parts (same_plan one.plan other.plan && nat_eq one.phase other.phase)
    (nat_eq one.start other.start) ended.0 in
    let named = and_parts (same_plan one.plan other.plan) (nat_eq one.phase other.phase) started.0 in
    cell_parts one.plan other.plan one.phase other.phase one.start other.start one.end other.end one.price
    other.price
    (same_plan-sound one.plan other.plan named.0) (eqb-true one.phase other.phase named.1)
    (eqb-true one.start other.start started.1)
    (eqb-true one.end other.end ended.1) (eqb-true one.price other.price whole.1)

-- a cell passes the test against itself
same_cell-complete : (one : Cell) → same_cell one one ≡ true
same_cell-complete one =
    and_from (same_plan one.plan one.plan && nat_eq one.phase one.phase && nat_eq one.start one.start
    && nat_eq one.end one.end) (nat_eq one.price one.price)
    (and_from (same_plan one.plan one.plan && nat_eq one.phase one.phase && nat_eq one.start one.start)
    (nat_eq one.end one.end)
    (and_from (same_plan one.plan one.plan && nat_eq one.phase one.phase) (nat_eq one.start one.start)
    (and_from (same_plan one.plan one.plan) (nat_eq one.phase one.phase) (same_plan-complete one.plan)
    (eq-eqb one.phase one.phase refl))
    (eq-eqb one.start one.start refl)) (eq-eqb one.end one.end refl)) (eq-eqb one.price one.price refl)

-- the test of two cells tells whether they are the same
pub same_cell-same : IsSame same_cell
same_cell-same = record { sound = same_cell-sound; complete = same_cell-complete }
