-- The items so far and the lines that are left are all.
use Rattle.std.proofs.Common.{◌≡◌, ◌++◌, drop, map}
use Rattle.kb_credit.specs.declared.line.Line.{Line}
use Rattle.kb_credit.proofs.lines.with_lines.Given as goal

abbrev pub invariant-loop-line : goal.invariant-loop-line
invariant-loop-line l =
    l.longer ++ map (λ (line : Line). (l.invoice, line)) (drop l.line-index l.lines)
    ≡ l.items ++ map (λ (line : Line). (l.invoice, line)) l.lines
