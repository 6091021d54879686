use Rattle.std.proofs.Common.{◌≡◌, map, drop}
use Rattle.std.specs.List.{list_any}
use Rattle.httparse.specs.Spans.{header_bytes}
use Rattle.kb_http.specs.Heads.{is_named}
use Rattle.kb_http.proofs.head.has_field.Given as goal

abbrev pub invariant-loop-field : goal.invariant-loop-field
invariant-loop-field l =
    list_any (is_named l.name) (map (header_bytes l.bytes) (drop l.field-index l.fields))
    ≡ list_any (is_named l.name) (map (header_bytes l.bytes) l.fields)
