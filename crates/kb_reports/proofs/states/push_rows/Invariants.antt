-- What was added and what is left give all lines.
use Rattle.std.proofs.Common.{◌≡◌, ◌++◌, drop}
use Rattle.kb_reports.specs.ReportLines.{states_lines}
use Rattle.kb_reports.proofs.states.push_rows.Given as goal

abbrev pub invariant-loop-row : goal.invariant-loop-row
invariant-loop-row l =
    l.text.items ++ states_lines l.account (drop l.row-index l.rows)
    ≡ l.fn.text.items ++ states_lines l.account l.rows
