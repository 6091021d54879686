use Rattle.std.proofs.Common.{◌≡◌, map, drop, None}
use Rattle.httparse.specs.Spans.{header_bytes}
use Rattle.kb_http.specs.Private.Parts.{told_by}
use Rattle.kb_http.proofs.head.length_told.Given as goal

abbrev pub invariant-loop-field : goal.invariant-loop-field
invariant-loop-field l =
    told_by l.told (map (header_bytes l.bytes) (drop l.field-index l.fields))
    ≡ told_by None (map (header_bytes l.bytes) l.fields)
