use Rattle.kb_json.proofs.TokenLists.{array_written}
use Rattle.kb_json.proofs.view.write_items.Goals as goal

pub returns : goal.returns
returns c =
    array_written _ _ _ _ _ c.in_ok-begin_array.ensures c.in_ok-write_each.ensures c.in_ok-end_array.ensures
