use Rattle.std.proofs.Common.{◌≤◌, length, rules}
use Rattle.kb_http.specs.Heads.{max_head}
use Rattle.kb_http.proofs.Looks.{overlong_refused, none_along, unfinished_along, stops_along}
use Rattle.kb_http.proofs.reading.read_behind_part.Goals as goal

pub returns-then-len-ge-MAX_HEAD-clause-err : goal.returns-then-len-ge-MAX_HEAD-clause-err
returns-then-len-ge-MAX_HEAD-clause-err g c =
    let long : max_head ≤ length c.args.pending.now.items = search rules in
    overlong_refused c.args.pending.now.items long c.requires.none

pub end_of-end-requires-clause-none : goal.end_of-end-requires-clause-none
end_of-end-requires-clause-none g c =
    none_along c.args.pending.now.items c.deref.result.now c.deref.ensures.value c.requires.none

pub end_of-end-requires-clause-unfinished : goal.end_of-end-requires-clause-unfinished
end_of-end-requires-clause-unfinished g c =
    unfinished_along c.args.pending.now.items c.deref.result.now c.deref.ensures.value c.requires.unfinished

pub returns-in-Ok-false-clause-err : goal.returns-in-Ok-false-clause-err
returns-in-Ok-false-clause-err g c =
    stops_along _ _ _ c.args.pending.now.items c.deref.result.now c.read_to_mark.new.pending.items
    c.end_of-end.result
    c.deref.ensures.value (c.in-Ok-false.ensures.end c.in-Ok-false.field-0-test).0
    (c.end_of-end.ensures _ _ _ (c.in-Ok-false.ensures.end c.in-Ok-false.field-0-test).1)
