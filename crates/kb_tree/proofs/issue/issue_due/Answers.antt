-- A subscription more is issued.
use Rattle.std.proofs.Common.{◌≡◌, ◌+◌, ◌∷◌, ◌++◌, [], length, ◌∙◌, arith, List, All, length-append}
use Rattle.std.proofs.lemmas.List.Elements.{All-append}
use Rattle.kb_tree.specs.ItemLines.{IsItemLine}
use Rattle.kb_tree.proofs.Issued.{issue_from-more, one-below, all-below, AreBelow-higher}
use Rattle.kb_credit.specs.declared.line.Line.{Line}
use Rattle.kb_tree.proofs.issue.issue_due.Goals as goal

pub subscription_issue-requires-clause-below : goal.subscription_issue-requires-clause-below
subscription_issue-requires-clause-below g c =
    one-below c.args.first (c.args.first + c.len.result) c.loop-items.items-index c.args.charges.now
    c.items-item.result c.loop-items-test.true c.items-item.is (omega arith) c.requires.below

-- lines with more behind them are as many as both
length-made : (all lines more : List Line) → all ≡ lines ++ more → length all ≡ length lines + length more
length-made all lines more made = rw made (length-append lines more)

-- and are all of items, if both are
plain-made : (all lines more : List Line) → all ≡ lines ++ more → All IsItemLine lines
    → All IsItemLine more → All IsItemLine all
plain-made all lines more made one other = rw made (All-append IsItemLine lines more one other)

pub loop-items-preserved : goal.loop-items-preserved
loop-items-preserved g c =
    let l = c.loop-items in
    let walk = l.invariant in
    let lines : List Line = c.extend_from_slice.new.self.items in
    let more : List Line = c.in_ok-more.new_lines.items in
    let made : lines ≡ l.lines.items ++ more =
    rw c.deref.ensures.value at c.in_ok-extend_from_slice.ensures.items in
    let long : length lines ≡ length l.lines.items + length more =
    length-made lines l.lines.items more made in (
      omega (arith, walk.0),
      omega (arith, long, walk.1, c.in_ok-more.ensures.few),
      c.in_ok-more.ensures.steps ∙ walk.2,
      all-below (c.args.first + length l.lines.items) (c.args.first + length lines)
          l.all.items c.push.new.self.items c.in_ok-more.more (omega (arith, long)) walk.3
          (AreBelow-higher (c.args.first + c.len.result + length more)
          (c.args.first + length lines) c.in_ok-more.more
          (omega (arith, long, c.len.ensures)) c.in_ok-more.ensures.below)
          c.in_ok-push.ensures.items,
      issue_from-more c.args.facts.now c.args.billed.now c.args.first l.items-index l.sub c.len.result
          c.args.charges.now c.items-item.result l.lines.items more
          lines l.all.items (c.in_ok-more.more ∷ []) c.push.new.self.items
          c.loop-items-test.true c.items-item.is walk.0 (omega (arith, c.len.ensures))
          made c.in_ok-push.ensures.items c.in_ok-more.ensures.issue
          ∙ walk.4,
      plain-made lines l.lines.items more made walk.5 c.in_ok-more.ensures.plain,
    )

pub returns-clause-below : goal.returns-clause-below
returns-clause-below g c = rw c.in_ok-charges.ensures.ok c.loop-items.invariant.3
