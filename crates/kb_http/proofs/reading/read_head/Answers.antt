use Rattle.std.proofs.Common.{◌∙◌, sym}
use Rattle.kb_http.proofs.Ahead.{reads_on}
use Rattle.kb_http.proofs.Looks.{has_head_along, refused_along, none_along, unfinished_along}
use Rattle.kb_http.proofs.reading.read_head.Goals as goal

pub returns-in-Whole-clause-head : goal.returns-in-Whole-clause-head
returns-in-Whole-clause-head g c =
    has_head_along c.looks.pending.items c.deref.result.now c.in-Whole.head c.deref.ensures.value
    c.in-Whole.ensures

pub returns-in-Refused-clause-err : goal.returns-in-Refused-clause-err
returns-in-Refused-clause-err g c =
    refused_along c.looks.pending.items c.deref.result.now c.in-Refused.status c.deref.ensures.value
    c.in-Refused.ensures

pub read_behind_part-requires-clause-none : goal.read_behind_part-requires-clause-none
read_behind_part-requires-clause-none g c =
    none_along c.deref.result.now c.looks.pending.items (sym c.deref.ensures.value) c.in-Part.ensures.0

pub read_behind_part-requires-clause-unfinished : goal.read_behind_part-requires-clause-unfinished
read_behind_part-requires-clause-unfinished g c =
    unfinished_along c.deref.result.now c.looks.pending.items (sym c.deref.ensures.value) c.in-Part.ensures.1

pub looks-preserved : goal.looks-preserved
looks-preserved g c = record {
  ahead = reads_on _ _ _ _ _ _ _ _ _ c.looks.invariant.ahead c.read_behind_part.ensures.ahead;
  bounded = c.read_behind_part.ensures.bounded;
  calm = c.in_ok-read_behind_part-in-Part.ensures.calm ∙ c.looks.invariant.calm;
}

pub returns-in_err-read_behind_part-in-Part-clause-ahead :
    goal.returns-in_err-read_behind_part-in-Part-clause-ahead
returns-in_err-read_behind_part-in-Part-clause-ahead g c =
    reads_on _ _ _ _ _ _ _ _ _ c.looks.invariant.ahead c.read_behind_part.ensures.ahead
