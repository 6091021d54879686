-- A sorted list has the days that it had, and no others.
use Rattle.std.proofs.Common.{rules, ◌≡◌, ◌∷◌, [], subst, ℕ, List}
use Rattle.std.proofs.lemmas.List.Sorted.{IsNonDecreasingBy-from_sort}
use Rattle.kb_days.specs.Calendar.{end_of_days}
use Rattle.kb_events.specs.Private.Cuts.{KeepsDays}
use Rattle.kb_events.proofs.AmongDays.{KeepsDays-sorted, HasDays-more, AreCuts-sorted}
use Rattle.kb_events.proofs.cutting.cuts.Goals as goal

pub returns : goal.returns
returns c =
    let pushed = c.push_changes.new.days.items in
    let sorted = c.sort.new.self.items in
    let moved = c.sort.ensures.permutation in
    let changes = c.in_ok-push_changes.ensures in
    let first : c.push.new.self.items ≡ end_of_days ∷ [] = search rules in
    let keeps = subst (λ (days : List ℕ). KeepsDays days pushed) first changes.keeps in
    let rising = IsNonDecreasingBy-from_sort (λ (day : ℕ). day) sorted c.in_ok-sort.ensures.sorted in
    record {
      cuts = AreCuts-sorted pushed sorted c.args.facts.now c.args.subscription.now keeps changes.has moved
          rising;
      turned = HasDays-more pushed sorted c.args.turns.now (KeepsDays-sorted pushed sorted moved)
          changes.turned;
    }
