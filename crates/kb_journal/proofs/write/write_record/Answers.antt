use Rattle.std.proofs.Common.{◌≡◌, ◌+◌, ◌∙◌, ℕ, List, [], ◌∷◌, ◌++◌, IsTrue, inl, arith}
use Rattle.kb_disk.specs.Images.{overwritten, Torn, Only}
use Rattle.kb_disk.proofs.Moments.{then_on, weaker}
use Rattle.kb_journal.specs.Format.{framed, IsWithOrWithout}
use Rattle.kb_journal.proofs.Bodies.{length-body-push}
use Rattle.kb_journal.proofs.Torn.{IsStaged, torn_behind, staged, torn_gate, opened}
use Rattle.kb_journal.proofs.Outcomes.{both_ok}
use Rattle.kb_journal.proofs.write.write_record.Goals as goal

pub returns-in-Err-clause-moments : goal.returns-in-Err-clause-moments
returns-in-Err-clause-moments g c lanes lane records keeps =
    weaker g.D.Disk.told.moment g.D.Disk.told.left_since c.args.disk.now c.write_block.new.disk
    (Torn (c.args.gate + 1) _ (g.D.Disk.told.seen c.args.disk.now))
    (IsWithOrWithout lanes lane records c.args.bytes.now)
    (λ image torn. inl (torn_behind lanes lane records c.args.bytes.now c.args.gate keeps.placed _ _ image
    keeps.stands torn))
    (c.write_block.ensures.moments keeps.durable)

pub returns-clause-kept : goal.returns-clause-kept
returns-clause-kept g c lanes lane records keeps =
    let written : g.D.Disk.told.seen c.write_block.new.disk
    ≡ overwritten (g.D.Disk.told.seen c.args.disk.now) (c.args.gate + 1) (framed c.args.bytes.now ++ 0 ∷ []) =
    c.in_default.ensures.written keeps.honest_disk in
    let stage : IsStaged lanes lane records c.args.bytes.now (g.D.Disk.told.seen c.write_block.new.disk) =
    staged lanes lane records c.args.bytes.now c.args.gate keeps.placed _ _ c.requires.sized keeps.stands
    written in
    let middle : IsTrue (g.D.Disk.told.honest c.write_block.new.disk) = c.in_default.ensures.honesty
    ∙ keeps.honest_disk in
    both_ok c.write_through.result
    (g.D.Disk.told.seen c.write_through.new.disk ≡ overwritten
    (g.D.Disk.told.seen c.write_block.new.disk) c.args.gate (1 ∷ []))
    (Only (g.D.Disk.told.seen c.write_through.new.disk) (g.D.Disk.told.images c.write_through.new.disk)) _
    (λ now only. record {
      honest_disk = c.write_through.ensures.honesty ∙ middle;
      stands = opened lanes lane records c.args.bytes.now c.args.gate keeps.placed _ _ stage now;
      durable = only;
      placed = omega (arith, keeps.placed, length-body-push lanes lane records c.args.bytes.now);
    })
    (c.write_through.ensures.written middle) (c.write_through.ensures.durable middle)

pub returns-clause-moments : goal.returns-clause-moments
returns-clause-moments g c lanes lane records keeps =
    let P : List ℕ → Type 0 = IsWithOrWithout lanes lane records c.args.bytes.now in
    let written : g.D.Disk.told.seen c.write_block.new.disk
    ≡ overwritten (g.D.Disk.told.seen c.args.disk.now) (c.args.gate + 1) (framed c.args.bytes.now ++ 0 ∷ []) =
    c.in_default.ensures.written keeps.honest_disk in
    let stage : IsStaged lanes lane records c.args.bytes.now (g.D.Disk.told.seen c.write_block.new.disk) =
    staged lanes lane records c.args.bytes.now c.args.gate keeps.placed _ _ c.requires.sized keeps.stands
    written in
    then_on g.D.Disk.told.moment g.D.Disk.told.left_since c.args.disk.now c.write_block.new.disk
    c.write_through.new.disk P
    (weaker g.D.Disk.told.moment g.D.Disk.told.left_since c.args.disk.now c.write_block.new.disk
    (Torn (c.args.gate + 1) _ (g.D.Disk.told.seen c.args.disk.now)) P
    (λ image torn. inl (torn_behind lanes lane records c.args.bytes.now c.args.gate keeps.placed _ _ image
    keeps.stands torn))
    (c.write_block.ensures.moments keeps.durable))
    (weaker g.D.Disk.told.moment g.D.Disk.told.left_since c.write_block.new.disk c.write_through.new.disk
    (Torn c.args.gate 1 (g.D.Disk.told.seen c.write_block.new.disk)) P
    (λ image torn. torn_gate lanes lane records c.args.bytes.now c.args.gate keeps.placed _ image stage torn)
    (c.write_through.ensures.moments (c.in_default.ensures.durable keeps.honest_disk)))
