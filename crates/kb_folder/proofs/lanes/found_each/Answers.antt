use Rattle.std.proofs.Common.{rules, ◌∷◌, []}
use Rattle.kb_folder.proofs.ComeBack.{all_by_fault, made_one_more, others_one_more}
use Rattle.kb_folder.proofs.lanes.found_each.Goals as goal

pub returns-in-Err-clause-moments : goal.returns-in-Err-clause-moments
returns-in-Err-clause-moments g c =
    all_by_fault g.V.Disk.Disk.told c.args.folder.now c.args.lanes c.loop-lane.lane
    (c.args.first.now ∷ c.args.second.now ∷ []) (g.V.Vault.told c.args.vault.now)
    (g.V.Vault.told c.loop-lane.vault) (g.V.Vault.told c.found_lane.new.vault)
    c.loop-lane.invariant.0.others c.loop-lane.invariant.5 c.found_lane.ensures.others_back c.in-Err.fault
    c.loop-lane.invariant.4 c.in-Err.ensures.moments

pub loop-lane-preserved : goal.loop-lane-preserved
loop-lane-preserved g c = (
  search rules,
  search rules,
  search rules,
  search rules,
  made_one_more g.V.Disk.Disk.told c.args.folder.now c.args.lanes c.loop-lane.lane
      (c.args.first.now ∷ c.args.second.now ∷ []) (g.V.Vault.told c.args.vault.now)
      (g.V.Vault.told c.loop-lane.vault) (g.V.Vault.told c.found_lane.new.vault)
      c.loop-lane.invariant.0.others c.loop-lane.invariant.5 c.found_lane.ensures.others_back
      c.loop-lane.invariant.4 c.in_default.ensures.moments,
  others_one_more g.V.Disk.Disk.told c.args.folder.now c.args.lanes c.loop-lane.lane
      (c.args.first.now ∷ c.args.second.now ∷ []) (g.V.Vault.told c.args.vault.now)
      (g.V.Vault.told c.loop-lane.vault) (g.V.Vault.told c.found_lane.new.vault)
      c.loop-lane.invariant.0.others c.loop-lane.invariant.5 c.found_lane.ensures.others_back,
)
