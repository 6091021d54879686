-- From cut to cut.
use Rattle.std.proofs.Common.{◌<◌, ℕ, List, length, get_or, map, sym, ap, ◌∙◌, arith}
use Rattle.kb_due.specs.CellStretches.{stretch_of}
use Rattle.kb_events.proofs.PassedCuts.{cut-told}
use Rattle.kb_events.proofs.FeeDays.{AreFeesTold-first, AreFeesTold-next, AreFeesTold-same, AreFeesTold-all}
use Rattle.kb_events.proofs.fee_pieces.fees_by.Goals as goal
use Rattle.kb_events.proofs.fee_pieces.fees_by.Goals.{then-number-cut+in_ok-push_fees, else-number-cut}

pub loop-cut-init : goal.loop-cut-init
loop-cut-init c =
    rw (c.first_reach-from.ensures, c.new-found.ensures.items)
    (AreFeesTold-first c.args.facts.now c.args.subscription.now c.args.billed c.args.course.now.cuts.items)

pub cut_day-to-requires-clause-told : goal.cut_day-to-requires-clause-told
cut_day-to-requires-clause-told c =
    cut-told c.args.course.now.cuts.items c.deref-cut-items.result.now c.loop-cut.cut-index
    c.deref-cut-items.ensures.value c.requires.cuts.told
    c.loop-cut-test.true

pub push_fees-requires-clause-told : goal.push_fees-requires-clause-told
push_fees-requires-clause-told c =
    omega (
      arith,
      c.cut_day-to.ensures,
      cut-told c.args.course.now.cuts.items c.deref-cut-items.result.now c.loop-cut.cut-index
          c.deref-cut-items.ensures.value c.requires.cuts.told
          c.loop-cut-test.true,
    )

pub loop-cut-preserved : goal.loop-cut-preserved
loop-cut-preserved c =
    let facts = c.args.facts.now in
    let subscription = c.args.subscription.now in
    let cuts = c.args.course.now.cuts.items in
    let items = c.deref-cut-items.ensures.value in
    let same = ap (λ (cuts : List ℕ). get_or cuts c.loop-cut.cut-index 0) items in
    let inside : c.loop-cut.cut-index < length cuts =
    omega (arith, ap (λ (cuts : List ℕ). length cuts) items, c.loop-cut-test.true) in
    elim c.if-number-cut.branch [
      | then-number-cut+in_ok-push_fees w ↦
          let later : c.loop-cut.from < w.cut_day-to.result =
          omega (arith, w.if-number-cut.true, c.number.ensures.value, w.cut_day-to.ensures) in
          rw (w.from-is, w.found-is)
          (AreFeesTold-next facts subscription c.args.billed cuts c.requires.cuts c.loop-cut.cut-index
          c.loop-cut.from (map stretch_of c.loop-cut.found.items)
          c.loop-cut.invariant c.args.course.now.end c.requires.ends c.requires.cut w.cut_day-to.result
          (map stretch_of w.push_fees.new.found.items) inside
          (sym same ∙ sym w.cut_day-to.ensures) later w.in_ok-push_fees.ensures)
      | else-number-cut w ↦
          rw (w.from-is, w.found-is)
          (AreFeesTold-same facts subscription c.args.billed cuts c.requires.cuts c.loop-cut.cut-index
          c.loop-cut.from (map stretch_of c.loop-cut.found.items)
          c.loop-cut.invariant (omega (arith, w.if-number-cut.false, c.number.ensures.value, same)))
    ]

pub returns : goal.returns
returns c =
    AreFeesTold-all c.args.facts.now c.args.subscription.now c.args.billed c.args.course.now.cuts.items
    c.requires.cuts c.loop-cut.cut-index c.loop-cut.from
    (map stretch_of c.loop-cut.found.items) c.loop-cut.invariant
    (omega (
      arith,
      ap (λ (items : List ℕ). length items) c.deref-cut-items.ensures.value,
      c.loop-cut-test.false,
    ))
