use Rattle.std.proofs.Common.{◌+◌, inl}
use Rattle.std.proofs.lemmas.Result.{err_from_is_err_and}
use Rattle.kb_journal.proofs.Exact.{not_both, one_place}
use Rattle.kb_journal.proofs.Told.{read_told, there_told}
use Rattle.kb_journal.proofs.Whole.{stands_read, placed_read, misread}
use Rattle.kb_journal.proofs.contents.read_contents.Goals as goal

pub returns-in_err-lanes-clause-exact : goal.returns-in_err-lanes-clause-exact
returns-in_err-lanes-clause-exact c at is =
    let told = err_from_is_err_and c.from_residual.result c.from_residual.ensures.1 in
    rw (told.1, told.2) (one_place c.args.lane c.args.bytes.items c.ranges.lane.fits _ at
    (inl (rw c.deref.ensures.value at c.in_err-lanes.ensures.fault)) is)

pub behind_header-requires-in-Ok-clause-there : goal.behind_header-requires-in-Ok-clause-there
behind_header-requires-in-Ok-clause-there c =
    there_told c.in-Ok.end.count c.in-Ok.end.gate _
    (rw (c.behind_header.ensures, c.deref-2.ensures.value) at c.in-Ok.ensures.end)

pub returns-in-Ok-clause-stands : goal.returns-in-Ok-clause-stands
returns-in-Ok-clause-stands c = rw c.behind_header-in-Ok.ensures (
    stands_read c.args.bytes.items c.in_ok-lanes.lanes c.args.lane
    (rw c.deref.ensures.value at c.in_ok-lanes.ensures.header) _ c.in-Ok.end.gate
    (read_told c.in-Ok.end.count c.in-Ok.end.gate _
    (rw (c.behind_header.ensures, c.deref-2.ensures.value) at c.in-Ok.ensures.end))
    (rw (c.behind_header.ensures, c.deref-2.ensures.value) at c.in-Ok.ensures.closed))

pub returns-in-Ok-clause-placed : goal.returns-in-Ok-clause-placed
returns-in-Ok-clause-placed c = rw c.behind_header-in-Ok.ensures (
    placed_read c.args.bytes.items c.in_ok-lanes.lanes c.args.lane
    (rw c.deref.ensures.value at c.in_ok-lanes.ensures.header) _ c.in-Ok.end.gate
    (read_told c.in-Ok.end.count c.in-Ok.end.gate _
    (rw (c.behind_header.ensures, c.deref-2.ensures.value) at c.in-Ok.ensures.end)))

pub returns-in-Ok-clause-exact : goal.returns-in-Ok-clause-exact
returns-in-Ok-clause-exact c =
    not_both c.in_ok-lanes.lanes c.args.lane _ c.args.bytes.items c.in_ok-lanes.ensures.many.0
    c.in_ok-lanes.ensures.many.1 c.ranges.lane.fits
    (stands_read c.args.bytes.items c.in_ok-lanes.lanes c.args.lane
    (rw c.deref.ensures.value at c.in_ok-lanes.ensures.header) _ c.in-Ok.end.gate
    (read_told c.in-Ok.end.count c.in-Ok.end.gate _
    (rw (c.behind_header.ensures, c.deref-2.ensures.value) at c.in-Ok.ensures.end))
    (rw (c.behind_header.ensures, c.deref-2.ensures.value) at c.in-Ok.ensures.closed))

pub returns-in-Err-clause-exact : goal.returns-in-Err-clause-exact
returns-in-Err-clause-exact c at is =
    one_place c.args.lane c.args.bytes.items c.ranges.lane.fits (c.in-Err.gate + 16) at
    (misread c.args.bytes.items c.in_ok-lanes.lanes c.args.lane
    (rw c.deref.ensures.value at c.in_ok-lanes.ensures.header) c.in-Err.gate
    c.in_ok-lanes.ensures.many.0 c.in_ok-lanes.ensures.many.1
    (rw c.deref.ensures.value at c.in_ok-lanes.ensures.many.2)
    (rw (c.behind_header.ensures, c.deref-2.ensures.value) at c.in-Err.ensures.cut)) is
