use Rattle.kb_machine.proofs.TextRefusals.{refused_catalog, refused_overdue}
use Rattle.kb_machine.proofs.machine.Machine.plan_text.Goals as goal

pub returns-in-Catalog-clause-refused : goal.returns-in-Catalog-clause-refused
returns-in-Catalog-clause-refused c =
    refused_catalog c.args.self.now c.args.today c.args.command.now c.in-Catalog.text c.plan_catalog.result
    c.in-Catalog.is c.plan_catalog.ensures.refused

pub returns-in-OverdueRules-clause-refused : goal.returns-in-OverdueRules-clause-refused
returns-in-OverdueRules-clause-refused c =
    refused_overdue c.args.self.now c.args.today c.args.command.now c.in-OverdueRules.text
    c.plan_overdue.result c.in-OverdueRules.is c.plan_overdue.ensures.refused
