-- A last output line, as the code has it.
use Rattle.std.specs.Prelude.{ℕ, List}
use Rattle.kb_runs.specs.declared.last_lines.LastLine.{LastLine}
use Rattle.kb_runs.specs.declared.last_lines.LastLine.TheVariants.{Fixed, Made}

-- its bytes
abbrev pub line_bytes : LastLine → List ℕ
line_bytes (Fixed bytes) = bytes.now
line_bytes (Made bytes) = bytes.items
