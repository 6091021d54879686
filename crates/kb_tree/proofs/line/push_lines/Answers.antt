-- One line more.
use Rattle.std.proofs.Common.{sym, subst, ◌∙◌, List, [], ◌∷◌, All}
use Rattle.std.proofs.lemmas.List.Elements.{All-nil, All-cons, All-append}
use Rattle.kb_credit.specs.declared.line.Line.{Line}
use Rattle.kb_tree.specs.Items.{cell_at}
use Rattle.kb_tree.specs.ItemLines.{IsItemLine}
use Rattle.kb_tree.proofs.LinePushes.{lines-pushed}
use Rattle.kb_tree.proofs.line.push_lines.Goals as goal

pub loop-item-preserved : goal.loop-item-preserved
loop-item-preserved c =
    let l = c.loop-item in (
      lines-pushed c.args.sub c.args.recurring (cell_at c.args.coverage.now) c.args.items.now
          c.item-item.result
          l.item-index l.lines.items c.push.new.self.items c.line_of.result c.loop-item-test.true
          c.item-item.is
          c.in_ok-push.ensures.items c.line_of.ensures.line
          ∙ l.invariant.0,
      λ before. subst (λ (lines : List Line). All IsItemLine lines) (sym c.in_ok-push.ensures.items)
          (All-append IsItemLine l.lines.items (c.line_of.result ∷ []) (l.invariant.1 before)
          (All-cons IsItemLine c.line_of.result [] c.line_of.ensures.plain (All-nil IsItemLine))),
    )
