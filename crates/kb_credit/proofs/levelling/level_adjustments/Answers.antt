use Rattle.std.proofs.Common.{◌≡◌, ◌≤ℤ◌, pos, arith, rules, to_z, of_z, to_z-of_z}
use Rattle.std.specs.Int.{w128}
use Rattle.std.specs.Prelude.{FitsSigned}
use Rattle.std.proofs.lemmas.Int.{ints}
use Rattle.kb_credit.proofs.PassSteps.{with_all_made-least, fits}
use Rattle.kb_credit.proofs.levelling.level_adjustments.Goals as goal

pub use_credit-requires : goal.use_credit-requires
use_credit-requires c =
    let bounded = c.requires.bounded in
    let same : to_z w128 (of_z w128 c.args.sums.now.credit) ≡ c.args.sums.now.credit =
    to_z-of_z {w = w128} (fits c.args.sums.now.credit (omega (arith, bounded))) in
    let start : pos 0 ≤ℤ to_z w128 (of_z w128 c.args.sums.now.credit) = rw same c.requires.whole in
    let least = with_all_made-least (to_z w128 (of_z w128 c.args.sums.now.credit)) c.args.invoices.now
    start in
    let is = c.in_ok-left.ensures.credit in
    let left_fits : FitsSigned w128 c.in_ok-left.left = search rules in
    let value : to_z w128 (of_z w128 c.in_ok-left.left) ≡ c.in_ok-left.left = to_z-of_z left_fits in
    record { whole = omega (arith, ints) }
