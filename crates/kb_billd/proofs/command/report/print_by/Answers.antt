-- A report of each kind is printed, whole or in part.
use Rattle.kb_reports.specs.ReportLines.{balances_of, arrears_of, states_on}
use Rattle.kb_billd.proofs.Reported.{prints_by}
use Rattle.kb_billd.proofs.command.report.print_by.Goals as goal

pub returns-in-Balances-clause-prints : goal.returns-in-Balances-clause-prints
returns-in-Balances-clause-prints g c =
    rw c.in-Balances.is (prints_by balances_of _ _ _ c.print.result c.print.ensures.printed
    c.print.ensures.part)

pub returns-in-Arrears-clause-prints : goal.returns-in-Arrears-clause-prints
returns-in-Arrears-clause-prints g c =
    rw c.in-Arrears.is (prints_by arrears_of _ _ _ c.print-in-Arrears.result
    c.print-in-Arrears.ensures.printed c.print-in-Arrears.ensures.part)

pub returns-in-States-clause-prints : goal.returns-in-States-clause-prints
returns-in-States-clause-prints g c =
    rw c.in-States.is (prints_by (states_on c.args.day) _ _ _ c.print-in-States.result
    c.print-in-States.ensures.printed c.print-in-States.ensures.part)
