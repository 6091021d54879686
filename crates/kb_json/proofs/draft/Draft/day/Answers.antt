use Rattle.std.proofs.Common.{arith}
use Rattle.kb_json.proofs.DateTexts.{date_text_utf8}
use Rattle.kb_json.proofs.draft.Draft.day.Goals as goal

pub unwrap-requires : goal.unwrap-requires
unwrap-requires c =
    let text = date_text_utf8 c.args.day in
    grind (arith, text, c.text.ensures, c.from_utf8.ensures.cases)
