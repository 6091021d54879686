-- What was added and what is left give the line.
use Rattle.std.proofs.Common.{◌≡◌, ◌++◌, drop, map}
use Rattle.kb_reports.specs.ReportLines.{line_of, rest_of_line}
use Rattle.kb_reports.specs.Private.Fields.{field_bytes}
use Rattle.kb_reports.proofs.line.push_line.Given as goal

abbrev pub invariant-loop-field : goal.invariant-loop-field
invariant-loop-field l =
    l.text.items ++ rest_of_line (map field_bytes (drop l.field-index l.fields))
    ≡ l.fn.text.items ++ line_of l.account (map field_bytes l.fields)
