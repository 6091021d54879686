use Rattle.std.proofs.Common.{◌∙◌, take, drop, take-append-drop, arith, length-drop}
use Rattle.std.proofs.KnownBytes.{Appends-trans, Appends-kept}
use Rattle.std.proofs.Math.Seq.{take-add}
use Rattle.std.proofs.lemmas.List.{take_rest}
use Rattle.std.proofs.lemmas.Result.{err_from_is_err_and}
use Rattle.kb_ports.proofs.link_writing.send_bytes.Goals as goal

-- what was taken so far, of which the failed call kept all
pub returns-in_err-taken-clause-err : goal.returns-in_err-taken-clause-err
returns-in_err-taken-clause-err g c =
    let taken = c.loop-taken.taken in
    let bytes = c.args.bytes.now in
    let failed = err_from_is_err_and c.from_residual.result c.from_residual.ensures.1 in
    rw failed.1 (
      take taken bytes,
      Appends-kept _ _ _ _ c.loop-taken.invariant.written c.in_err-taken.ensures.bytes,
      (drop taken bytes, take-append-drop taken bytes),
    )

-- what was taken so far, and then what this call took
pub loop-taken-preserved : goal.loop-taken-preserved
loop-taken-preserved g c =
    let taken = c.loop-taken.taken in
    let bytes = c.args.bytes.now in
    let count = rw (take_rest bytes taken) at c.in_ok-taken.ensures.count in
    let more = rw (take_rest bytes taken) at c.in_ok-taken.ensures.bytes in
    record {
      in_range = omega (arith, count, length-drop taken bytes);
      written = rw (take-add taken c.in_ok-taken.field-0 bytes)
          (Appends-trans _ _ _ _ _ c.loop-taken.invariant.written more);
      calm = c.in_ok-taken.ensures.calm ∙ c.loop-taken.invariant.calm;
      input = c.in_ok-taken.ensures.input ∙ c.loop-taken.invariant.input;
      input_calm = c.in_ok-taken.ensures.input_calm ∙ c.loop-taken.invariant.input_calm;
    }
