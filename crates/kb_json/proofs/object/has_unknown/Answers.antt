use Rattle.std.proofs.Common.{◌≡◌, true, false, sym, ap, ◌∙◌, string_bytes}
use Rattle.serde_json.specs.View.{view, members_view}
use Rattle.kb_json.specs.Wrongs.{is_known, has_unknown}
use Rattle.kb_json.proofs.MemberSteps.{has_unknown-passed, has_unknown-here}
use Rattle.kb_json.proofs.object.has_unknown.Goals as goal

pub returns-then-not-is_known : goal.returns-then-not-is_known
returns-then-not-is_known c =
    let known = is_known c.args.dated c.args.kind in
    let fails : known (string_bytes c.in-Some.name.now) ≡ false =
    rw (← c.as_str.ensures.value) (sym c.is_known.ensures ∙ c.if-not-is_known.true) in
    let here = has_unknown-here known (string_bytes c.in-Some.name.now) (view c.in-Some.field-0-1.now)
    (members_view c.next.new.self) fails in
    let all = ap (λ entries. has_unknown known (members_view entries)) (sym c.in-Some.ensures.steps)
    ∙ c.loop-name.invariant in
    sym here ∙ all

pub loop-name-preserved : goal.loop-name-preserved
loop-name-preserved c =
    let known = is_known c.args.dated c.args.kind in
    let passes : known (string_bytes c.in-Some.name.now) ≡ true =
    rw (← c.as_str.ensures.value) (sym c.is_known.ensures ∙ c.if-not-is_known.false) in
    let here = has_unknown-passed known (string_bytes c.in-Some.name.now) (view c.in-Some.field-0-1.now)
    (members_view c.next.new.self) passes in
    let all = ap (λ entries. has_unknown known (members_view entries)) (sym c.in-Some.ensures.steps)
    ∙ c.loop-name.invariant in
    sym here ∙ all

pub returns : goal.returns
unfolding has_unknown
returns c = rw c.in-None.ensures.steps.0 at c.loop-name.invariant
