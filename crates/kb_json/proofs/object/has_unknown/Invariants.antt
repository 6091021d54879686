-- The members that are left give what all give.
use Rattle.std.proofs.Common.{◌≡◌}
use Rattle.serde_json.specs.View.{members_view}
use Rattle.kb_json.specs.Wrongs.{is_known, has_unknown}
use Rattle.kb_json.proofs.object.has_unknown.Given as goal

abbrev pub invariant-loop-name : goal.invariant-loop-name
invariant-loop-name l =
    has_unknown (is_known l.dated l.kind) (members_view l.name-iterator)
    ≡ has_unknown (is_known l.dated l.kind) (members_view l.object.entries)
