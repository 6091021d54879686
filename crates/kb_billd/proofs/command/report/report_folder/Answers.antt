use Rattle.std.proofs.Common.{inr, length, sym, ◌∙◌}
use Rattle.kb_folder.proofs.Closing.{are_out}
use Rattle.kb_billd.specs.Reports.{said_by}
use Rattle.kb_billd.proofs.Reported.{printing_no_input, printing_output, reports_lanes}
use Rattle.kb_billd.proofs.command.report.report_folder.Goals as goal

pub report_open-requires-clause-outside : goal.report_open-requires-clause-outside
report_open-requires-clause-outside g c κs within = are_out
    g.V.Disk.Disk.told
    c.args.folder.now (length c.in-Ok.lanes.items) (g.V.Vault.told c.args.vault.now)
    (g.V.Vault.told
    c.open_lanes.new.vault)
    c.in-Ok.lanes.items c.in-Ok.ensures.opened

pub returns-in-Ok-clause-reported : goal.returns-in-Ok-clause-reported
returns-in-Ok-clause-reported g c = inr (
  c.report_open.result,
  c.outcome_of.ensures,
  reports_lanes g.V.Disk.Disk.told
      c.args.folder.now (said_by c.args.kind c.args.day)
      (g.V.Vault.told c.args.vault.now)
      (g.V.Vault.told
      c.open_lanes.new.vault)
      (g.V.Vault.told
      c.report_open.new.vault)
      (g.O.Sink.written c.args.output.now) (g.O.Sink.written c.report_open.new.output) c.report_open.result
      c.in-Ok.lanes.items c.in-Ok.ensures.some c.in-Ok.ensures.few c.in-Ok.ensures.opened c.requires.inside
      c.report_open.ensures.prints c.report_open.ensures.back,
)

pub returns-in-Ok-clause-read_no_input : goal.returns-in-Ok-clause-read_no_input
returns-in-Ok-clause-read_no_input g c = λ is. printing_no_input c.report_open.result
    (sym c.outcome_of.ensures ∙ is)

pub returns-in-Ok-clause-output : goal.returns-in-Ok-clause-output
returns-in-Ok-clause-output g c = λ is. c.report_open.ensures.output
    (printing_output c.report_open.result (sym c.outcome_of.ensures ∙ is))
