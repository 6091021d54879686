-- The last of the entries up to a day governs it.
use Rattle.std.proofs.Common.{◌≡◌, ℕ, suc, ◌-◌, refl, sym, subst, arith}
use Rattle.kb_timeline.proofs.BegunEntries.{AreBegun, entry_on-none, entry_on-last, is_before_start-none}
use Rattle.kb_timeline.proofs.BegunEntries.{is_before_start-some}
use Rattle.kb_timeline.proofs.entries.Entries.governing.Goals as goal

pub returns-then-count-eq0-clause-entry : goal.returns-then-count-eq0-clause-entry
returns-then-count-eq0-clause-entry c =
    let begun =
    subst (λ (count : ℕ). AreBegun c.args.self.now c.args.day count) c.if-count-eq0.true
    c.count_begun-count.ensures.begun in
    sym (entry_on-none c.args.self.now c.args.day begun)

pub returns-then-count-eq0-clause-before : goal.returns-then-count-eq0-clause-before
returns-then-count-eq0-clause-before c =
    let begun =
    subst (λ (count : ℕ). AreBegun c.args.self.now c.args.day count) c.if-count-eq0.true
    c.count_begun-count.ensures.begun in (
      (λ none. is_before_start-none c.args.self.now c.args.day c.count_begun-count.ensures.sound.started
          begun),
      (λ before. refl),
    )

pub returns-else-count-eq0-clause-entry : goal.returns-else-count-eq0-clause-entry
returns-else-count-eq0-clause-entry c =
    let place = c.count_begun-count.result - 1 in
    let next : c.count_begun-count.result ≡ suc place = omega arith in
    let begun =
    subst (λ (count : ℕ). AreBegun c.args.self.now c.args.day count) next c.count_begun-count.ensures.begun in
    sym (entry_on-last c.args.self.now c.args.day place (omega arith) begun)

pub returns-else-count-eq0-clause-before : goal.returns-else-count-eq0-clause-before
returns-else-count-eq0-clause-before c =
    let after =
    is_before_start-some c.args.self.now c.args.day c.count_begun-count.result (omega arith) (omega arith)
    c.count_begun-count.ensures.begun in
    ((λ none. absurd (cc)), (λ before. absurd (cc)))
