use Rattle.std.proofs.Common.{refl}
use Rattle.kb_edits.proofs.starts.start_entry.Goals as goal

-- the parts of the entry are those that are told
pub returns : goal.returns
returns c = rw (c.plan_of.ensures, c.anchor_of.ensures, c.wish_of-wish.ensures) refl
