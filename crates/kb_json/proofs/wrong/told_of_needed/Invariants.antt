-- What was told and what is left give what all gives.
use Rattle.std.proofs.Common.{◌≡◌, drop}
use Rattle.serde_json.specs.View.{members_view}
use Rattle.kb_json.specs.Wrongs.{told_from, told_of, wrong_needed}
use Rattle.kb_json.proofs.wrong.told_of_needed.Given as goal

abbrev pub invariant-loop-member : goal.invariant-loop-member
invariant-loop-member l =
    told_from (wrong_needed (members_view l.object.entries)) l.told (drop l.member-index l.members)
    ≡ told_of (wrong_needed (members_view l.object.entries)) l.members
