-- A field of a line, as the code has it.
use Rattle.std.specs.Prelude.{ℕ, List, decimal}
use Rattle.std.specs.Fmt.{signed_decimal}
use Rattle.kb_days.specs.DateText.{date_text}
use Rattle.kb_reports.specs.declared.line.Field.{Field}
use Rattle.kb_reports.specs.declared.line.Field.TheVariants as field

-- its bytes
abbrev pub field_bytes : Field → List ℕ
field_bytes (field.Name name) = name.now
field_bytes (field.Word word) = word.now
field_bytes (field.Sum sum) = signed_decimal sum
field_bytes (field.Count count) = decimal count
field_bytes (field.Day day) = date_text day
