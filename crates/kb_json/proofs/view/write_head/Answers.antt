use Rattle.std.proofs.Common.{codes}
use Rattle.kb_json.specs.Private.Fields.{invoice_rows}
use Rattle.kb_json.proofs.TokenLists.{head_written}
use Rattle.kb_json.proofs.view.write_head.Goals as goal

pub returns : goal.returns
returns c =
    let rows = rw (
      c.word.ensures,
      c.count.ensures,
      c.from.ensures,
      c.date.ensures,
      c.sum.ensures,
      c.sum-2.ensures,
    )
    at c.in_ok-members.ensures in
    head_written _ _ _ _ (invoice_rows c.args.view.now) (codes "items") c.in_ok-begin_object.ensures rows
    c.in_ok-name.ensures
