-- Up to the first stretch there is nothing, and on its days it has its value.
use Rattle.std.proofs.Common.{◌<◌, ◌≤◌, ◌∙◌, sym, rules, arith}
use Rattle.kb_tree.proofs.InOrder.{first-ends, first-begins, first-here, first-later}
use Rattle.kb_tree.proofs.walking.next_change.Goals as goal

pub returns-then-lt-clause-within : goal.returns-then-lt-clause-within
returns-then-lt-clause-within g c =
    rw c.from-then-lt.ensures (first-begins g.S.Stretched.stretch c.args.rest.now c.in-Some.first.now
    c.in-Some.field-0-1.now c.args.day c.in-Some.ensures.cases.0 c.requires.ahead)

pub returns-else-lt-clause-within : goal.returns-else-lt-clause-within
returns-else-lt-clause-within g c =
    rw c.to.ensures (first-ends g.S.Stretched.stretch c.args.rest.now c.in-Some.first.now
    c.in-Some.field-0-1.now c.args.day c.in-Some.ensures.cases.0 c.requires.ahead)

pub returns-then-lt-clause-steady : goal.returns-then-lt-clause-steady
returns-then-lt-clause-steady g c d low high =
    let before = first-later g.S.Stretched.stretch c.args.rest.now c.in-Some.first.now
    c.in-Some.field-0-1.now c.args.day c.in-Some.ensures.cases.0 c.requires.ahead in
    let ends : d < (g.S.Stretched.stretch c.in-Some.first.now).from = rw (← c.from-then-lt.ensures) high in
    before d ends ∙ sym (before c.args.day (omega (arith, low, ends)))

pub returns-else-lt-clause-steady : goal.returns-else-lt-clause-steady
returns-else-lt-clause-steady g c d low high =
    let here = first-here g.S.Stretched.stretch c.args.rest.now c.in-Some.first.now
    c.in-Some.field-0-1.now c.args.day c.in-Some.ensures.cases.0 c.requires.ahead in
    let begun : c.from.result ≤ c.args.day = search rules in
    let begins : (g.S.Stretched.stretch c.in-Some.first.now).from ≤ c.args.day =
    rw (← c.from.ensures) begun in
    let ends : d < (g.S.Stretched.stretch c.in-Some.first.now).to = rw (← c.to.ensures) high in
    here d (omega (arith, low, begins)) ends ∙ sym (here c.args.day begins (omega (arith, low, ends)))
