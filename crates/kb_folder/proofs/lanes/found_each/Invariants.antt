use Rattle.std.proofs.Common.{◌≡◌, ◌∷◌, []}
use Rattle.kb_disk.specs.Places.{SameFiles, SameLanes}
use Rattle.kb_folder.specs.Foundings.{FoundsFirst, SameFrom}
use Rattle.kb_folder.proofs.ComeBack.{MadeSoFar}
use Rattle.kb_folder.proofs.lanes.found_each.Given as goal

-- the lanes so far are made and their disks came back, none is out, and no fault is counted
abbrev pub invariant-loop-lane : goal.invariant-loop-lane
invariant-loop-lane g l =
    FoundsFirst l.folder l.lanes l.lane l.lane (l.first ∷ l.second ∷ [])
    (g.V.Vault.told l.initial.vault).lane_bytes
    (g.V.Vault.told l.vault).lane_bytes
    × SameLanes (g.V.Vault.told l.vault).is_out (g.V.Vault.told l.initial.vault).is_out
    × SameFiles (g.V.Vault.told l.vault).file_bytes (g.V.Vault.told l.initial.vault).file_bytes
    × ((g.V.Vault.told l.vault).faults ≡ (g.V.Vault.told l.initial.vault).faults)
    × MadeSoFar g.V.Disk.Disk.told l.folder l.lanes l.lane (l.first ∷ l.second ∷ [])
    (g.V.Vault.told l.initial.vault) (g.V.Vault.told l.vault)
    × SameFrom l.folder l.lane (g.V.Vault.told l.initial.vault).came_back
    (g.V.Vault.told l.vault).came_back
