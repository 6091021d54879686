use Rattle.std.proofs.Common.{List, subst}
use Rattle.kb_codec.specs.Entries.{Entry}
use Rattle.kb_lane.specs.Lanes.{machine_of}
use Rattle.kb_make.specs.Makes.{Sends}
use Rattle.kb_make.proofs.Made.{of_value, summary_made}
use Rattle.kb_make.proofs.making.make.Goals as goal

pub returns : goal.returns
returns c =
    let first = machine_of c.in_ok-lane.lane in
    let last = machine_of c.send_all.new.lane in
    let P : List Entry → Type 0 = λ commands. Sends first commands last c.in_ok-refused.refused in
    of_value c.summary_text.result (λ text told.
    summary_made c.args.seed c.args.accounts c.args.months c.in_ok-refused.refused first last
    c.in_ok-totals.totals
    text.items c.in_ok-lane.ensures.texts (subst P c.new-commands.ensures.commands c.in_ok-refused.ensures)
    c.in_ok-totals.ensures told) c.summary_text.ensures
