use Rattle.std.proofs.Common.{◌∷◌, [], subst, inr}
use Rattle.kb_ports.specs.Notes.{Notes}
use Rattle.kb_folder.proofs.ComeBack.{crashes_begin, crashes_whole}
use Rattle.kb_folder.proofs.lanes.found_lane.Goals as goal

pub returns-in-Ok-made-clause-moments : goal.returns-in-Ok-made-clause-moments
returns-in-Ok-made-clause-moments g c = (
  c.write_lane-disk.result.0,
  subst (λ before. Notes before c.write_lane-disk.result.0
      ((g.V.Vault.told c.back.new.self).came_back c.args.folder.now c.args.lane))
      (c.lane.ensures.same_back c.args.folder.now c.args.lane) c.back.ensures.noted,
  crashes_begin g.V.Disk.Disk.told c.args.lanes c.args.lane (c.args.first.now ∷ c.args.second.now ∷ [])
      ((g.V.Vault.told c.args.vault.now).lane_bytes c.args.folder.now c.args.lane) c.in-Ok.disk
      c.write_lane-disk.result.0 c.in-Ok.ensures.unmoved c.in-Ok.ensures.opens
      c.write_lane-disk.ensures.moments,
  crashes_whole g.V.Disk.Disk.told c.args.lanes c.args.lane (c.args.first.now ∷ c.args.second.now ∷ [])
      ((g.V.Vault.told c.args.vault.now).lane_bytes c.args.folder.now c.args.lane) c.in-Ok.disk
      c.write_lane-disk.result.0 c.in-Ok.ensures.opens
      (rw c.in-Ok-made.is at c.write_lane-disk.ensures.stands)
      (rw c.in-Ok-made.is at c.write_lane-disk.ensures.durable),
)

pub returns-in-Err-NotEmpty-clause-moments : goal.returns-in-Err-NotEmpty-clause-moments
returns-in-Err-NotEmpty-clause-moments g c = inr (
  c.write_lane-disk.result.0,
  subst (λ before. Notes before c.write_lane-disk.result.0
      ((g.V.Vault.told c.back.new.self).came_back c.args.folder.now c.args.lane))
      (c.lane.ensures.same_back c.args.folder.now c.args.lane) c.back.ensures.noted,
  crashes_begin g.V.Disk.Disk.told c.args.lanes c.args.lane (c.args.first.now ∷ c.args.second.now ∷ [])
      ((g.V.Vault.told c.args.vault.now).lane_bytes c.args.folder.now c.args.lane) c.in-Ok.disk
      c.write_lane-disk.result.0 c.in-Ok.ensures.unmoved c.in-Ok.ensures.opens
      c.write_lane-disk.ensures.moments,
)

pub returns-in-Err-DiskFault-clause-moments : goal.returns-in-Err-DiskFault-clause-moments
returns-in-Err-DiskFault-clause-moments g c = inr (
  c.write_lane-disk.result.0,
  subst (λ before. Notes before c.write_lane-disk.result.0
      ((g.V.Vault.told c.back.new.self).came_back c.args.folder.now c.args.lane))
      (c.lane.ensures.same_back c.args.folder.now c.args.lane) c.back.ensures.noted,
  crashes_begin g.V.Disk.Disk.told c.args.lanes c.args.lane (c.args.first.now ∷ c.args.second.now ∷ [])
      ((g.V.Vault.told c.args.vault.now).lane_bytes c.args.folder.now c.args.lane) c.in-Ok.disk
      c.write_lane-disk.result.0 c.in-Ok.ensures.unmoved c.in-Ok.ensures.opens
      c.write_lane-disk.ensures.moments,
)
