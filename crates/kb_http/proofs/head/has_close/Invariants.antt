use Rattle.std.proofs.Common.{◌≡◌, map, drop}
use Rattle.std.specs.List.{list_any}
use Rattle.httparse.specs.Spans.{header_bytes}
use Rattle.kb_http.specs.Heads.{asks_to_close}
use Rattle.kb_http.proofs.head.has_close.Given as goal

abbrev pub invariant-loop-field : goal.invariant-loop-field
invariant-loop-field l =
    list_any asks_to_close (map (header_bytes l.bytes) (drop l.field-index l.fields))
    ≡ list_any asks_to_close (map (header_bytes l.bytes) l.fields)
