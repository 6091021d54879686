-- The stretches so far, and those of the stays that are left, are all.
use Rattle.std.proofs.Common.{◌≡◌, ◌<◌, ◌++◌, drop, All}
use Rattle.kb_blocking.specs.declared.stretch.Stretch.{Stretch}
use Rattle.kb_blocking.specs.Private.Stretches.{stretches_of}
use Rattle.kb_blocking.proofs.stretch.stretches_of.Given as goal

abbrev pub invariant-loop-stay : goal.invariant-loop-stay
invariant-loop-stay l = record {
  whole : l.stretches.items ++ stretches_of l.chain l.flag (drop l.stay-index l.stays)
      ≡ stretches_of l.chain l.flag l.stays;
  dated : All (λ (stretch : Stretch). 0 < stretch.from) l.stretches.items;
}
