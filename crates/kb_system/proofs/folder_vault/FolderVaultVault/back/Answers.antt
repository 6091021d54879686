use Rattle.std.proofs.Common.{◌≡◌, List, false, ap, sym, subst, ◌∙◌}
use Rattle.kb_disk.specs.Places.{with_lane}
use Rattle.kb_system.specs.Folders.{PlaceValue, FolderValue, is_among, without}
use Rattle.kb_system.proofs.Amongs.{among_struck}
use Rattle.kb_system.proofs.folder_vault.FolderVaultVault.back.Goals as goal

pub returns-clause-inside : goal.returns-clause-inside
returns-clause-inside g c folder lane =
    let left : c.count_disk.new.self.out ≡ without c.args.self.now.out c.args.folder.now c.args.lane =
    ap (λ (vault : FolderValue). vault.out) c.count_disk.ensures.counted
    ∙ (c.strike.ensures
    ∙ ap (λ (vault : FolderValue). without vault.out c.args.folder.now c.args.lane) c.self.view_is) in
    subst
    (λ (out : List PlaceValue). is_among out folder lane
    ≡ with_lane (is_among c.args.self.now.out) c.args.folder.now c.args.lane false folder lane) (sym left)
    (among_struck c.args.folder.now c.args.lane folder lane c.args.self.now.out)
