-- What was written and what is left give all.
use Rattle.std.proofs.Common.{◌≡◌, ◌++◌, drop, map}
use Rattle.kb_json.specs.Answers.{item_json}
use Rattle.kb_json.specs.Private.Fields.{values_tokens}
use Rattle.kb_json.proofs.view.write_each.Given as goal

abbrev pub invariant-loop-item : goal.invariant-loop-item
invariant-loop-item l =
    l.draft ++ values_tokens (map item_json (drop l.item-index l.items))
    ≡ l.initial.draft ++ values_tokens (map item_json l.items)
