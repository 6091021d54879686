-- What was written and what is left give all.
use Rattle.std.proofs.Common.{◌≡◌, ◌++◌, drop, map}
use Rattle.kb_json.specs.Private.Fields.{field_json, rows_tokens}
use Rattle.kb_json.proofs.draft.Draft.members.Given as goal

abbrev pub invariant-loop-name : goal.invariant-loop-name
invariant-loop-name l =
    l.self ++ rows_tokens (map (λ row. (row.0.now, field_json row.1)) (drop l.name-index l.rows))
    ≡ l.initial.self ++ rows_tokens (map (λ row. (row.0.now, field_json row.1)) l.rows)
