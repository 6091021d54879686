use Rattle.std.proofs.Common.{◌≡◌, ◌-◌, slice_get, Some, None, ap, sym, ◌∙◌, arith}
use Rattle.std.proofs.lemmas.Option.{slice_get_within}
use Rattle.kb_credit.specs.declared.row.Row.{Row}
use Rattle.kb_credit.proofs.AdjustedPlaces.{adjust_at-none, set-adjust_at}
use Rattle.kb_credit.proofs.PaidRows.{nat_abs-member}
use Rattle.kb_credit.proofs.adjustment.adjust_at.Goals as goal

pub returns-in_default : goal.returns-in_default
returns-in_default c =
    let rows = c.args.rows.now in
    let one = c.args.one.now in
    let place : c.from-place.result ≡ one.invoice - 1 = c.from-place.ensures ∙ c.saturating_sub.ensures in
    let none : slice_get rows (one.invoice - 1) ≡ None =
    ap (slice_get rows) (sym place) ∙ sym c.in_default.ensures in
    rw (adjust_at-none (one.invoice - 1) one.amount rows none) c.share.ensures

pub adjust-changed-requires : goal.adjust-changed-requires
adjust-changed-requires c =
    let small = nat_abs-member (λ (row : Row). row.adjusted) c.from-place.result c.in-Some.row.now
    c.args.rows.now
    (sym c.in-Some.ensures) in
    let bounded = c.requires.bounded in
    record { bounded = omega arith }

pub replace-requires : goal.replace-requires
replace-requires c =
    record {
      there = slice_get_within c.args.rows.now c.from-place.result c.in-Some.row.now (sym c.in-Some.ensures);
    }

pub returns : goal.returns
returns c =
    let rows = c.args.rows.now in
    let one = c.args.one.now in
    let place : c.from-place.result ≡ one.invoice - 1 = c.from-place.ensures ∙ c.saturating_sub.ensures in
    let there : slice_get rows (one.invoice - 1) ≡ Some c.in-Some.row.now =
    ap (slice_get rows) (sym place) ∙ sym c.in-Some.ensures in
    let same = set-adjust_at (one.invoice - 1) one.amount c.in-Some.row.now rows there in
    rw (← same, ← place) (rw (← c.adjust-changed.ensures) c.replace.ensures)
