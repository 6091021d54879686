use Rattle.std.proofs.Common.{length, refl, ◌∙◌}
use Rattle.std.specs.Prelude.{codes}
use Rattle.kb_folder.proofs.Closing.{as_out_as_before}
use Rattle.tests_lanes.proofs.folders.passing.passed.Goals as goal

pub returns-in-Ok : goal.returns-in-Ok
returns-in-Ok g c = record {
  inside = λ lane.
      as_out_as_before g.V.Disk.Disk.told (codes "shop") (length c.in-Ok.lanes.items)
      (g.V.Vault.told c.args.vault.now) (g.V.Vault.told c.open_lanes.new.vault)
      (g.V.Vault.told c.put_back.new.vault)
      c.in-Ok.lanes.items c.in-Ok.lanes.items c.in-Ok.ensures.opened c.put_back.ensures.back refl
      c.requires.inside (codes "shop") lane
      ∙ c.requires.inside lane;
}
