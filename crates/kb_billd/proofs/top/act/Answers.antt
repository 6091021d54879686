use Rattle.kb_billd.proofs.Founded.{founding_no_input, founding_no_output}
use Rattle.kb_billd.proofs.Untouched.{founds, makes, reports}
use Rattle.kb_billd.proofs.top.act.Goals as goal

pub returns-in-Init-clause-does : goal.returns-in-Init-clause-does
returns-in-Init-clause-does g c = rw c.in-Init.is (founds g.V.Disk.Disk.told (g.C.Clock.day c.args.clock) c.in-Init.init
    (g.I.Source.left c.args.input.now)
    (g.O.Sink.written c.args.output.now) (g.V.Vault.told c.args.vault.now)
    (g.V.Vault.told c.init_on.new.vault)
    (g.M.Market.told c.args.market.now) c.init_on.result c.init_on.ensures.0 c.init_on.ensures.1
    c.init_on.ensures.2)

pub returns-in-Init-clause-input : goal.returns-in-Init-clause-input
returns-in-Init-clause-input g c = λ is. absurd (founding_no_input g.V.Disk.Disk.told c.init_on.ensures.0 c.in-Init.init
    (g.V.Vault.told c.args.vault.now)
    (g.V.Vault.told c.init_on.new.vault)
    c.init_on.result c.init_on.ensures.2 is)

pub returns-in-Init-clause-output : goal.returns-in-Init-clause-output
returns-in-Init-clause-output g c = λ is. absurd (founding_no_output g.V.Disk.Disk.told c.init_on.ensures.0 c.in-Init.init
    (g.V.Vault.told c.args.vault.now)
    (g.V.Vault.told c.init_on.new.vault)
    c.init_on.result c.init_on.ensures.2 is)

pub returns-in-Report-clause-does : goal.returns-in-Report-clause-does
returns-in-Report-clause-does g c = rw c.in-Report.is (reports
    g.V.Disk.Disk.told
    c.in-Report.report (g.I.Source.left c.args.input.now) (g.O.Sink.written c.args.output.now)
    (g.O.Sink.written c.report_by.new.output)
    (g.V.Vault.told c.args.vault.now)
    (g.V.Vault.told
    c.report_by.new.vault)
    (g.M.Market.told c.args.market.now) c.report_by.result c.report_by.ensures.reported)

pub returns-in-Make-clause-does : goal.returns-in-Make-clause-does
returns-in-Make-clause-does g c = rw c.in-Make.is (makes c.in-Make.make (g.I.Source.left c.args.input.now)
    (g.O.Sink.written c.args.output.now) (g.O.Sink.written c.make_accounts.new.output)
    (g.V.Vault.told c.args.vault.now)
    (g.M.Market.told c.args.market.now) c.make_accounts.result c.make_accounts.ensures.made)
