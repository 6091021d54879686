use Rattle.std.proofs.Common.{◌∙◌, ◌<◌, ◌≤◌, length, arith}
use Rattle.std.proofs.KnownBytes.{Consumes-trans}
use Rattle.kb_gateway.specs.Exchanges.{max_answer}
use Rattle.kb_gateway.proofs.Beginnings.{begins-byte, first-feed, first-end, first-full}
use Rattle.kb_gateway.proofs.exchange.read_line.Goals as goal

pub returns-then-byte-eq10-clause-first : goal.returns-then-byte-eq10-clause-first
returns-then-byte-eq10-clause-first g c =
    let line = c.bytes.line.items in
    let room : length line < max_answer = omega (arith, c.bytes-test.true, c.len.ensures.value) in
    let byte = rw c.in-Some.is at c.in_ok-byte.ensures.byte in
    rw c.push.ensures.items (first-feed _ _ _ line c.in-Some.byte room c.if-byte-eq10.true
    c.bytes.invariant.heard c.bytes.invariant.begins byte)

pub bytes-preserved : goal.bytes-preserved
bytes-preserved g c =
    let line = c.bytes.line.items in
    let room : length line < max_answer = omega (arith, c.bytes-test.true, c.len.ensures.value) in
    let byte = rw c.in-Some.is at c.in_ok-byte.ensures.byte in
    record {
      few = omega (arith, room, c.push.ensures.len);
      heard = rw c.push.ensures.items (Consumes-trans _ _ _ _ _ c.bytes.invariant.heard byte);
      begins = rw c.push.ensures.items (begins-byte _ _ _ line c.in-Some.byte room c.if-byte-eq10.false
          c.bytes.invariant.heard c.bytes.invariant.begins byte);
      calm = c.in_ok-byte.ensures.calm ∙ c.bytes.invariant.calm;
      output = c.in_ok-byte.ensures.output ∙ c.bytes.invariant.output;
      output_calm = c.in_ok-byte.ensures.output_calm ∙ c.bytes.invariant.output_calm;
    }

pub returns-in-None-clause-first : goal.returns-in-None-clause-first
returns-in-None-clause-first g c =
    let end = c.in_ok-byte.ensures.end c.in-None.is in
    first-end _ _ _ _ c.bytes.invariant.heard c.bytes.invariant.begins end.0 end.1

pub returns-clause-first : goal.returns-clause-first
returns-clause-first g c =
    let line = c.bytes.line.items in
    let full : max_answer ≤ length line = omega (arith, c.bytes-test.false, c.len.ensures.value) in
    first-full _ _ _ full c.bytes.invariant.heard c.bytes.invariant.begins
