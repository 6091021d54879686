-- From cut to cut.
use Rattle.std.proofs.Common.{◌<◌, ℕ, List, length, get_or, map, sym, subst, ap, ◌∙◌, arith}
use Rattle.kb_days.specs.Calendar.{first_day}
use Rattle.kb_due.specs.Facts.{FactsValue, chain_of}
use Rattle.kb_blocking.specs.declared.state.Chain.{Chain}
use Rattle.kb_due.specs.CellStretches.{stretch_of}
use Rattle.kb_events.specs.Private.Standing.{AreTurns, IsStanding}
use Rattle.kb_events.proofs.InCells.{AreShort-none}
use Rattle.kb_events.proofs.PassedCuts.{cut-told}
use Rattle.kb_events.proofs.ToldDays.{IsTold-first, IsTold-next, IsTold-same, IsTold-all}
use Rattle.kb_events.proofs.due_pieces.pieces_by.Goals as goal
use Rattle.kb_events.proofs.due_pieces.pieces_by.Goals.{then-number-cut+in_ok-push_between, else-number-cut}

pub loop-cut-init : goal.loop-cut-init
loop-cut-init c =
    let first = c.first_standing-standing.result in
    let stands = subst (λ (facts : FactsValue). IsStanding facts.blocks
    (chain_of c.args.subscription.now c.args.sub) first_day first.blocked first.turn) c.facts.view_is
    (subst (λ (chain : Chain). IsStanding c.facts.inside.blocks.now chain first_day first.blocked first.turn)
    c.chain_of.ensures c.first_standing-standing.ensures.stands) in
    rw (c.first_standing-standing.ensures.day, c.new-found.ensures.items) (
      IsTold-first c.args.facts.now c.args.subscription.now c.args.sub c.args.billed
          c.args.course.now.cuts.items c.args.course.now.turns.items
          c.args.course.now.end first.blocked first.turn stands,
      AreShort-none,
    )

pub cut_day-to-requires-clause-told : goal.cut_day-to-requires-clause-told
cut_day-to-requires-clause-told c =
    cut-told c.args.course.now.cuts.items c.deref-cut-items.result.now c.loop-cut.cut-index
    c.deref-cut-items.ensures.value c.requires.course.are.told
    c.loop-cut-test.true

pub push_between-requires-clause-told : goal.push_between-requires-clause-told
push_between-requires-clause-told c =
    omega (
      arith,
      c.cut_day-to.ensures,
      cut-told c.args.course.now.cuts.items c.deref-cut-items.result.now c.loop-cut.cut-index
          c.deref-cut-items.ensures.value c.requires.course.are.told
          c.loop-cut-test.true,
    )

pub loop-cut-preserved : goal.loop-cut-preserved
loop-cut-preserved c =
    let facts = c.args.facts.now in
    let subscription = c.args.subscription.now in
    let cuts = c.args.course.now.cuts.items in
    let turning = c.args.course.now.turns.items in
    let end = c.args.course.now.end in
    let items = c.deref-cut-items.ensures.value in
    let same = ap (λ (cuts : List ℕ). get_or cuts c.loop-cut.cut-index 0) items in
    let inside : c.loop-cut.cut-index < length cuts =
    omega (arith, ap (λ (cuts : List ℕ). length cuts) items, c.loop-cut-test.true) in
    let chain = chain_of subscription c.args.sub in
    let before = c.loop-cut.standing in
    elim c.if-number-cut.branch [
      | then-number-cut+in_ok-push_between w ↦
          let to = w.cut_day-to.result in
          let next = w.next_standing-standing.result in
          let later : before.day < to =
          omega (arith, w.if-number-cut.true, c.number.ensures.value, w.cut_day-to.ensures) in
          rw (w.standing-is, w.found-is, w.next_standing-standing.ensures.day) (
            IsTold-next facts subscription c.args.sub c.args.billed cuts turning end c.requires.course
                c.loop-cut.cut-index before.day before.blocked before.turn
                (map stretch_of c.loop-cut.found.items) c.loop-cut.invariant.0 to next.blocked next.turn
                (map stretch_of w.push_between.new.found.items)
                inside (sym same ∙ sym w.cut_day-to.ensures) later
                (w.in_ok-push_between.ensures.value c.args.sub)
                (λ are. w.next_standing-standing.ensures.stands facts.blocks chain
                (subst (AreTurns facts.blocks chain) (sym w.deref.ensures.value) are)),
            w.in_ok-push_between.ensures.short c.loop-cut.invariant.1,
          )
      | else-number-cut w ↦
          rw (w.standing-is, w.found-is) (
            IsTold-same facts subscription c.args.sub c.args.billed cuts turning end c.requires.course
                c.loop-cut.cut-index before.day before.blocked before.turn
                (map stretch_of c.loop-cut.found.items) c.loop-cut.invariant.0
                (omega (arith, w.if-number-cut.false, c.number.ensures.value, same)),
            c.loop-cut.invariant.1,
          )
    ]

pub returns-clause-value : goal.returns-clause-value
returns-clause-value c =
    IsTold-all c.args.facts.now c.args.subscription.now c.args.sub c.args.billed c.args.course.now.cuts.items
    c.args.course.now.turns.items c.args.course.now.end
    c.requires.course c.loop-cut.cut-index c.loop-cut.standing.day c.loop-cut.standing.blocked
    c.loop-cut.standing.turn (map stretch_of c.loop-cut.found.items)
    c.loop-cut.invariant.0 (omega (
      arith,
      ap (λ (items : List ℕ). length items)
          c.deref-cut-items.ensures.value,
      c.loop-cut-test.false,
    ))
