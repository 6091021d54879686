use Rattle.std.proofs.Common.{◌≤◌, length, arith, length-append}
use Rattle.kb_blocking.proofs.AddedStays.{AreStays-add}
use Rattle.kb_blocking.proofs.blocks.Blocks.add.Goals as goal

pub invariant_of-result : goal.invariant_of-result
invariant_of-result c =
    let few : length c.in_ok-states.states ≤ 4096 =
    rw (c.in_ok-states.ensures, length-append) (rw c.as_slice-2.ensures (omega (arith, c.self.invariant.0)))
    in (
      few,
      rw (c.in_ok-states.ensures, c.in_ok-stays.ensures, c.as_slice.ensures, c.as_slice-2.ensures)
          (AreStays-add c.self.inside.states c.self.inside.stays c.args.state c.self.invariant.1),
    )
