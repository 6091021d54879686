use Rattle.kb_json.proofs.TextsOf.{fields_text}
use Rattle.kb_json.proofs.reply.text_of.Goals as goal

pub returns : goal.returns
returns c =
    let whole = rw c.in_ok-draft.ensures at c.in_ok-object.ensures in
    fields_text c.args.rows.now _ _ whole c.into_bytes.ensures.text c.into_bytes.ensures.read
