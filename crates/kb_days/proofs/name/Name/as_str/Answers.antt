use Rattle.std.proofs.Common.{arith}
use Rattle.kb_days.proofs.NameBytes.{IsName-text}
use Rattle.kb_days.proofs.name.Name.as_str.Goals as goal

pub unwrap-requires : goal.unwrap-requires
unwrap-requires c =
    let text = IsName-text c.as_bytes.result.now c.as_bytes.ensures.named in
    grind (arith, text, c.from_utf8.ensures.cases)
