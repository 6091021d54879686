-- The day is told, and stands behind the others.
use Rattle.std.proofs.Common.{rules, ◌≡◌, ◌≤◌, ◌∷◌, [], ◌++◌, subst, sym, ℕ, List}
use Rattle.kb_days.specs.Calendar.{end_of_days}
use Rattle.kb_events.specs.Private.Cuts.{KeepsDays}
use Rattle.kb_events.proofs.AmongDays.{KeepsDays-push}
use Rattle.kb_events.proofs.cutting.push_day.Goals as goal

pub returns-in_ok-push-clause-keeps : goal.returns-in_ok-push-clause-keeps
returns-in_ok-push-clause-keeps c =
    let told : c.args.day ≤ end_of_days = search rules in
    let pushed : c.push.new.self.items ≡ c.args.days.now.items ++ c.args.day ∷ [] = search rules in
    subst (λ (days : List ℕ). KeepsDays c.args.days.now.items days) (sym pushed)
    (KeepsDays-push c.args.days.now.items c.args.day told)
