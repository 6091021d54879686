-- The first stretch that is left has the day, or none has it.
use Rattle.std.proofs.Common.{◌<◌, ◌≤◌, sym, rules}
use Rattle.kb_tree.proofs.InOrder.{first-ahead, first-here, first-later}
use Rattle.kb_tree.proofs.walking.value_at.Goals as goal

pub returns-then-le : goal.returns-then-le
returns-then-le g c =
    let has : c.from.result ≤ c.args.day = search rules in
    let begins : (g.S.Stretched.stretch c.in_ok-first.first.now).from ≤ c.args.day =
    rw (← c.from.ensures) has in
    let ends : c.args.day < (g.S.Stretched.stretch c.in_ok-first.first.now).to =
    first-ahead g.S.Stretched.stretch c.args.rest.now c.in_ok-first.first.now c.in_ok-first.field-0-1.now
    c.args.day c.in_ok-first.ensures.cases.0 c.requires.ahead in
    rw c.value.ensures (sym (first-here g.S.Stretched.stretch c.args.rest.now c.in_ok-first.first.now
    c.in_ok-first.field-0-1.now c.args.day c.in_ok-first.ensures.cases.0 c.requires.ahead
    c.args.day begins ends))

pub returns-else-le : goal.returns-else-le
returns-else-le g c =
    let after : c.args.day < c.from.result = search rules in
    let later : c.args.day < (g.S.Stretched.stretch c.in_ok-first.first.now).from =
    rw (← c.from.ensures) after in
    sym (first-later g.S.Stretched.stretch c.args.rest.now c.in_ok-first.first.now
    c.in_ok-first.field-0-1.now c.args.day c.in_ok-first.ensures.cases.0 c.requires.ahead c.args.day later)
