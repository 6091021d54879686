use Rattle.kb_json.proofs.TokenLists.{object_written}
use Rattle.kb_json.proofs.draft.Draft.object.Goals as goal

pub returns : goal.returns
returns c =
    object_written _ _ _ _ _ c.in_ok-begin_object.ensures c.in_ok-members.ensures c.in_ok-end_object.ensures
