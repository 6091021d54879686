-- A first part of the lines of all accounts by name.
use Rattle.std.proofs.Common.{List, map, subst, sym}
use Rattle.kb_lane.specs.Lanes.{machine_of}
use Rattle.kb_reports.specs.declared.listed.Listed.{Listed}
use Rattle.kb_reports.specs.Listings.{IsListing}
use Rattle.kb_reports.proofs.PrintedAccounts.{part_of_report}
use Rattle.kb_reports.proofs.printing.print.Goals as goal

pub returns-in-Ok-clause-part : goal.returns-in-Ok-clause-part
returns-in-Ok-clause-part g c =
    part_of_report c.print_each.result (g.R.Report.said c.args.report.now) (map machine_of c.args.lanes.now)
    c.deref.result.now (g.O.Sink.written c.args.output.now) (g.O.Sink.written c.print_each.new.output)
    (subst (λ (listed : List Listed). IsListing (map machine_of c.args.lanes.now) listed)
    (sym c.deref.ensures.value) c.in-Ok.ensures)
    c.print_each.ensures.part
