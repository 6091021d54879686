-- The members that are left give what all give.
use Rattle.std.proofs.Common.{◌≡◌, drop}
use Rattle.kb_json.specs.Wrongs.{is_among}
use Rattle.kb_json.proofs.object.is_among.Given as goal

abbrev pub invariant-loop-member : goal.invariant-loop-member
invariant-loop-member l = is_among (drop l.member-index l.members) l.name ≡ is_among l.members l.name
