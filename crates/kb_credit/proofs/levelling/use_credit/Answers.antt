use Rattle.std.proofs.Common.{◌≡◌, ◌+◌, ◌++◌, drop, arith, pos, neg_ℤ, ◌-ℤ◌, ap, sym, ◌∙◌, to_z, of_z}
use Rattle.std.proofs.Common.{to_z-of_z, append-nil}
use Rattle.std.specs.Int.{w128, int_max}
use Rattle.std.specs.Prelude.{FitsSigned}
use Rattle.std.proofs.lemmas.Int.{ints}
use Rattle.std.proofs.lemmas.List.{drop_all}
use Rattle.kb_credit.specs.Private.Passes.{all_used, still_open, taken}
use Rattle.kb_credit.proofs.PassSteps.{drop_one, used_step, still_step, noted_step, opened_step}
use Rattle.kb_credit.proofs.levelling.use_credit.Goals as goal

pub loop-one-preserved : goal.loop-one-preserved
loop-one-preserved c =
    let all = c.args.invoices.now in
    let one = c.one-item.result in
    let left = to_z w128 c.loop-one.left-bits in
    let amount = to_z w128 (of_z w128 c.taken-amount.result) in
    let next = to_z w128 (of_z w128 (left -ℤ amount)) in
    let later = drop (c.loop-one.one-index + 1) all in
    let cut = drop_one all c.loop-one.one-index one c.loop-one-test.true c.one-item.is in
    let value : amount ≡ c.taken-amount.result =
    to_z-of_z {w = w128} (record { sfits = c.taken-amount.type_inv }) in
    let is : amount ≡ taken left one.balance = value ∙ c.taken-amount.ensures.value in
    let whole = c.loop-one.invariant.whole in
    let least = c.taken-amount.ensures.least in
    let most = c.taken-amount.ensures.left in
    let due = c.due.ensures.value in
    let due_least = c.due.ensures.least in
    let at_most = c.taken-amount.ensures.due in
    let due_fits : FitsSigned w128 c.due.result = record { sfits = c.due.type_inv } in
    let taken_fits : FitsSigned w128 c.taken-amount.result = record { sfits = c.taken-amount.type_inv } in
    let moves : next ≡ left -ℤ amount = omega (arith, ints) in
    record {
      still = opened_step one.invoice one.day (int_max (pos 0) one.balance -ℤ amount) _
          c.loop-one.still.items _
          (still_open next later) _
          (still_step one later left amount next c.loop-one.still.items _
          (ap (λ rest. c.loop-one.still.items ++ still_open left rest) (sym cut) ∙ c.loop-one.invariant.still)
          is moves)
          (omega (arith, ints))
          c.in_ok-push_open.ensures;
      noted = noted_step one.invoice (neg_ℤ amount) _ c.loop-one.adjustments.items _ (all_used next later) _
          (used_step one later left amount next c.loop-one.adjustments.items _
          (ap (λ rest. c.loop-one.adjustments.items ++ all_used left rest) (sym cut)
          ∙ c.loop-one.invariant.noted)
          is moves)
          (omega (arith, ints))
          c.in_ok-note.ensures;
      whole = omega (arith, ints);
    }

pub returns-clause-still : goal.returns-clause-still
returns-clause-still c =
    let left = to_z w128 c.loop-one.left-bits in
    let ended = drop_all c.loop-one.one-index c.args.invoices.now c.loop-one-test.false in
    let all = c.loop-one.invariant.still in
    rw c.from_vec.ensures
    (sym (append-nil c.loop-one.still.items)
    ∙ sym (ap (λ rest. c.loop-one.still.items ++ still_open left rest) ended)
    ∙ all
    ∙ ap (λ credit. still_open credit c.args.invoices.now) (to_z-of_z c.ranges.credit))

pub returns-clause-noted : goal.returns-clause-noted
returns-clause-noted c =
    let left = to_z w128 c.loop-one.left-bits in
    let ended = drop_all c.loop-one.one-index c.args.invoices.now c.loop-one-test.false in
    sym (append-nil c.loop-one.adjustments.items)
    ∙ sym (ap (λ rest. c.loop-one.adjustments.items ++ all_used left rest) ended)
    ∙ c.loop-one.invariant.noted
    ∙ ap (λ credit. c.args.adjustments.now.items ++ all_used credit c.args.invoices.now)
    (to_z-of_z c.ranges.credit)
