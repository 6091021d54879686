use Rattle.std.proofs.Common.{◌≡◌, true, false, sym, ap, ◌∙◌, string_bytes}
use Rattle.toml.specs.View.{view, members_view}
use Rattle.kb_catalog_text.specs.Reads.{first_failing}
use Rattle.kb_catalog_text.proofs.ReadSteps.{first_failing-passed, first_failing-here}
use Rattle.kb_catalog_text.proofs.keys.first_unknown.Goals as goal

pub returns-then-not-knows : goal.returns-then-not-knows
returns-then-not-knows g c =
    let known = g.K.Keys.known c.args.keys.now in
    let fails : known (string_bytes c.in-Some.key.now) ≡ false =
    rw (← c.as_str.ensures.value) (sym c.knows.ensures ∙ c.if-not-knows.true) in
    let here = first_failing-here known (string_bytes c.in-Some.key.now) (view c.in-Some.field-0-1.now)
    (members_view c.next.new.self) fails in
    let all = ap (λ entries. first_failing known (members_view entries)) (sym c.in-Some.ensures.steps)
    ∙ c.loop-key.invariant in
    rw c.as_str-then-not-knows.ensures.value (sym here ∙ all)

pub loop-key-preserved : goal.loop-key-preserved
loop-key-preserved g c =
    let known = g.K.Keys.known c.args.keys.now in
    let passes : known (string_bytes c.in-Some.key.now) ≡ true =
    rw (← c.as_str.ensures.value) (sym c.knows.ensures ∙ c.if-not-knows.false) in
    let here = first_failing-passed known (string_bytes c.in-Some.key.now) (view c.in-Some.field-0-1.now)
    (members_view c.next.new.self) passes in
    let all = ap (λ entries. first_failing known (members_view entries)) (sym c.in-Some.ensures.steps)
    ∙ c.loop-key.invariant in
    sym here ∙ all

pub returns : goal.returns
unfolding first_failing
returns g c = rw c.in-None.ensures.steps.0 at c.loop-key.invariant
