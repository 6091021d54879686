-- The rules decide for the plan and the phase.
use Rattle.std.proofs.Common.{◌≡◌, Some, subst, sym, ap, ◌∙◌}
use Rattle.kb_catalog.specs.declared.ask.PlanAsk.{PlanAsk}
use Rattle.kb_catalog.specs.declared.rules.PlanCase.{PlanCase}
use Rattle.kb_catalog.specs.declared.words.BillingAlign.{BillingAlign}
use Rattle.kb_catalog.specs.Cases.{first_match, fits_plan}
use Rattle.kb_due.specs.Governing.{Choice}
use Rattle.kb_due.specs.CycleDays.{ask_of}
use Rattle.kb_due.proofs.cycle_day.billing_align.Goals as goal

pub returns : goal.returns
returns c =
    let asked = c.ask_of.ensures ∙ ap (λ (choice : Choice). ask_of choice c.args.phase.now)
    (sym c.choice.view_is) in
    rw (← c.choice.view_is)
    (subst (λ (ask : PlanAsk). first_match (fits_plan ask) (λ (case : PlanCase BillingAlign). case.answer)
    c.choice.inside.version.now.rules.billing_alignment
    ≡ Some c.billing_alignment.result) asked c.billing_alignment.ensures)
