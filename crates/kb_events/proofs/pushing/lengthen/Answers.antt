-- The last piece goes on, or it doesn't.
use Rattle.std.proofs.Common.{rules, ◌≡◌, ◌-◌, ◌<◌, ◌&&◌, ◌==◌, true, false, length, slice_index_or}
use Rattle.std.specs.Vec.{vec_len}
use Rattle.kb_due.specs.CellStretches.{same_cell}
use Rattle.kb_events.proofs.LastPieces.{push_stretch-longer, push_stretch-other}
use Rattle.kb_events.proofs.pushing.lengthen.Goals as goal

pub returns-then-goes_on-clause-longer : goal.returns-then-goes_on-clause-longer
returns-then-goes_on-clause-longer c done =
    let found = c.args.found.now.items in
    let last = c.in-Some.last.now in
    let long : length found ≡ vec_len c.args.found.now = search rules in
    let some : 0 < length found = search rules in
    let here : last ≡ slice_index_or found (vec_len c.args.found.now - 1) last = c.in-Some.ensures.value in
    let on : ((last.to == c.args.from) && same_cell last.cell c.args.cell.now) ≡ true = search rules in
    rw long at (push_stretch-longer last c.args.from c.args.to c.args.cell.now found some (rw long here) on)

pub returns-else-goes_on-clause-other : goal.returns-else-goes_on-clause-other
returns-else-goes_on-clause-other c done =
    let found = c.args.found.now.items in
    let last = c.in-Some.last.now in
    let long : length found ≡ vec_len c.args.found.now = search rules in
    let some : 0 < length found = search rules in
    let here : last ≡ slice_index_or found (vec_len c.args.found.now - 1) last = c.in-Some.ensures.value in
    let off : ((last.to == c.args.from) && same_cell last.cell c.args.cell.now) ≡ false = search rules in
    push_stretch-other last c.args.from c.args.to c.args.cell.now found some (rw long here) off
