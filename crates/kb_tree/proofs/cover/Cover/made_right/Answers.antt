-- The changes make the cover right, and where there are none it is.
use Rattle.std.proofs.Common.{◌≡◌, ℕ, ◌+◌, List, [], length, map, nat_eq, sym, ap, subst, ◌∙◌}
use Rattle.kb_base.specs.Runs.{Stretch, values_on, runs}
use Rattle.kb_base.proofs.Covered.{nat_eq-same}
use Rattle.kb_days.specs.Calendar.{first_day, charged_days, end_of_days}
use Rattle.kb_due.specs.CellStretches.{same_cell, stretch_of}
use Rattle.kb_due.proofs.SameCells.{same_cell-same}
use Rattle.kb_due.specs.declared.cell.Cell.{Cell}
use Rattle.kb_sharing.specs.Keys.{SharedEntries}
use Rattle.kb_tree.specs.Items.{Charge}
use Rattle.kb_tree.specs.Repairs.{wrong_among, missing_among}
use Rattle.kb_tree.specs.Covers.{CoverValue, charges, due_in, AreInOrder, IsCover}
use Rattle.kb_tree.specs.Private.LeftCharges.{billed_from}
use Rattle.kb_tree.specs.Private.Walks.{same_charge, charge_on, AreChanges}
use Rattle.kb_tree.specs.Private.AfterCovers.{live_in, with_cells, cover_after, IsCoverAfter}
use Rattle.kb_tree.proofs.RunsInOrder.{runs-in_order, billed_from-in_order}
use Rattle.kb_tree.proofs.CoverDays.{due_in-inside}
use Rattle.kb_tree.proofs.AfterCover.{after-cover, after-is, after-made, same-after}
use Rattle.kb_tree.proofs.cover.Cover.made_right.Goals as goal

-- the changes of a cover's stretches are those of the cover
of-cover : (cover : CoverValue) (live : List (Stretch Charge)) (due : ℕ → _) (repairs : List (Stretch ℕ))
    (bills : List (Stretch Cell)) → live ≡ cover.live
    → AreChanges (λ day. values_on day live) due end_of_days repairs bills
    → AreChanges (charges cover) due end_of_days repairs bills
of-cover cover live due repairs bills same are =
    subst (λ (live : List (Stretch Charge)). AreChanges (λ day. values_on day live) due end_of_days
    repairs bills)
    same are

-- where there are none the cover is right
unchanged : (cover : CoverValue) (due : ℕ → _) (first : ℕ) (repairs : List (Stretch ℕ))
    (bills : List (Stretch Cell)) → IsCover cover → AreChanges (charges cover) due end_of_days repairs bills
    → (repairs ≡ []) × (bills ≡ []) → IsCoverAfter cover due first cover
unchanged cover due first repairs bills is are none =
    same-after cover due first is
    (subst (λ (repairs : List (Stretch ℕ)). AreChanges (charges cover) due end_of_days repairs []) none.0
    (subst (λ (bills : List (Stretch Cell)). AreChanges (charges cover) due end_of_days repairs bills) none.1
    are))

pub returns-then-are_none-clause-after : goal.returns-then-are_none-clause-after
returns-then-are_none-clause-after c =
    let cover = c.args.self.now in
    let due = due_in (map stretch_of c.args.pieces.now) in
    let are = of-cover cover c.stretches.result.now due c.in_ok-changes.changes.repairs.items
    c.in_ok-changes.changes.bills.items c.stretches.ensures.value c.in_ok-changes.ensures in
    rw c.in_ok-share.ensures (unchanged cover due c.args.first c.in_ok-changes.changes.repairs.items
    c.in_ok-changes.changes.bills.items c.stretches.ensures.cover are
    (c.are_none.ensures.0 c.if-are_none.true))

-- repairs are in order
repairs-in_order : (charges : ℕ → List Charge) (due : ℕ → _) (repairs : List (Stretch ℕ))
    (bills : List (Stretch Cell)) → AreChanges charges due end_of_days repairs bills
    → AreInOrder first_day end_of_days repairs
repairs-in_order charges due repairs bills are =
    rw are.repairs_are (runs-in_order nat_eq (λ d. wrong_among (charges d) (due d)) nat_eq-same)

-- and bills
bills-in_order : (charges : ℕ → List Charge) (due : ℕ → _) (repairs : List (Stretch ℕ))
    (bills : List (Stretch Cell)) (number : ℕ) → AreChanges charges due end_of_days repairs bills
    → AreInOrder first_day end_of_days (billed_from number bills)
bills-in_order charges due repairs bills number are =
    rw are.bills_are (billed_from-in_order number first_day end_of_days _
    (runs-in_order same_cell (λ d. missing_among (charges d) (due d)) same_cell-same))

pub live_after-requires-clause-repairs : goal.live_after-requires-clause-repairs
live_after-requires-clause-repairs c =
    rw c.deref-2.ensures.value (repairs-in_order (λ day. values_on day c.stretches.result.now)
    (due_in (map stretch_of c.args.pieces.now)) c.in_ok-changes.changes.repairs.items
    c.in_ok-changes.changes.bills.items c.in_ok-changes.ensures)

pub live_after-requires-clause-bills : goal.live_after-requires-clause-bills
live_after-requires-clause-bills c =
    rw (c.deref-3.ensures.value, c.in_ok-bills.ensures, c.deref.ensures.value) (
    bills-in_order (λ day. values_on day c.stretches.result.now)
    (due_in (map stretch_of c.args.pieces.now)) c.in_ok-changes.changes.repairs.items
    c.in_ok-changes.changes.bills.items (c.args.first + c.len.result) c.in_ok-changes.ensures)

-- what is made is the cover made right
made : (cover : CoverValue) (due : ℕ → _) (first len : ℕ) (repairs : List (Stretch ℕ))
    (bills own entered : List (Stretch Cell)) (before : List (Stretch Charge))
    (taken : List (Stretch ℕ))
    (added billed live told : List (Stretch Charge)) (cells kept : SharedEntries Cell)
    → AreChanges (charges cover) due end_of_days repairs bills → before ≡ cover.live → kept ≡ cover.cells
    → len ≡ length repairs → taken ≡ repairs → own ≡ bills → billed ≡ billed_from (first + len) own
    → added ≡ billed → live ≡ told
    → told ≡ runs same_charge (charge_on before taken added) first_day charged_days
    → entered ≡ bills → cells ≡ with_cells kept (billed_from (first + len) entered)
    → ◌≡◌ {A = CoverValue} (record { live = live; cells = cells }) (cover_after cover due first)
made cover due first len repairs bills own entered before taken added billed live told cells
    kept are stretches
    entries length-is taken-is own-is billed-is added-is live-is told-is entered-is cells-is =
    after-made cover due first (first + len) repairs bills billed live cells are
    (ap (λ (len : ℕ). first + len) length-is)
    (rw (← own-is) billed-is)
    (rw (← stretches, ← taken-is, ← added-is) (live-is ∙ told-is))
    (rw (← entries) (cells-is ∙ ap (with_cells kept) (ap (billed_from (first + len)) (entered-is ∙ sym own-is)
    ∙ sym billed-is)))

pub invariant_of-result : goal.invariant_of-result
invariant_of-result c =
    let cover = c.args.self.now in
    let due = due_in (map stretch_of c.args.pieces.now) in
    let are = of-cover cover c.stretches.result.now due c.in_ok-changes.changes.repairs.items
    c.in_ok-changes.changes.bills.items c.stretches.ensures.value c.in_ok-changes.ensures in
    let same = made cover due c.args.first c.len.result c.in_ok-changes.changes.repairs.items
    c.in_ok-changes.changes.bills.items c.deref.result.now c.deref-4.result.now c.stretches-2.result.now
    c.deref-2.result.now c.deref-3.result.now c.in_ok-bills.bills.items (live_in c.in_ok-live-2.live)
    c.in_ok-live.live.items c.in_ok-cells.cells c.self.inside.cells are c.stretches-2.ensures.value
    (ap (λ (cover : CoverValue). cover.cells) c.self.view_is) (c.len.ensures ∙ sym c.deref-2.ensures.len
    ∙ ap length c.deref-2.ensures.value) c.deref-2.ensures.value
    c.deref.ensures.value c.in_ok-bills.ensures c.deref-3.ensures.value c.in_ok-live-2.ensures
    c.in_ok-live.ensures c.deref-4.ensures.value c.in_ok-cells.ensures in
    subst IsCover (sym same) (after-cover cover due c.args.first c.stretches.ensures.cover c.requires.above
    (due_in-inside (map stretch_of c.args.pieces.now) c.requires.pieces.1))

pub returns-clause-after : goal.returns-clause-after
returns-clause-after c =
    let cover = c.args.self.now in
    let due = due_in (map stretch_of c.args.pieces.now) in
    let are = of-cover cover c.stretches.result.now due c.in_ok-changes.changes.repairs.items
    c.in_ok-changes.changes.bills.items c.stretches.ensures.value c.in_ok-changes.ensures in
    let same = made cover due c.args.first c.len.result c.in_ok-changes.changes.repairs.items
    c.in_ok-changes.changes.bills.items c.deref.result.now c.deref-4.result.now c.stretches-2.result.now
    c.deref-2.result.now c.deref-3.result.now c.in_ok-bills.bills.items (live_in c.in_ok-live-2.live)
    c.in_ok-live.live.items c.in_ok-cells.cells c.self.inside.cells are c.stretches-2.ensures.value
    (ap (λ (cover : CoverValue). cover.cells) c.self.view_is) (c.len.ensures ∙ sym c.deref-2.ensures.len
    ∙ ap length c.deref-2.ensures.value) c.deref-2.ensures.value
    c.deref.ensures.value c.in_ok-bills.ensures c.deref-3.ensures.value c.in_ok-live-2.ensures
    c.in_ok-live.ensures c.deref-4.ensures.value c.in_ok-cells.ensures in
    subst (IsCoverAfter cover due c.args.first) (sym same)
    (after-is cover due c.args.first c.stretches.ensures.cover)
