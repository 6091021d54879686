use Rattle.std.proofs.Common.{Some, ◌++◌, ◌∷◌, [], sym}
use Rattle.kb_disk.specs.Memory.{seen}
use Rattle.kb_disk.proofs.Lookups.{with_file-found, not_out}
use Rattle.kb_disk.proofs.lane_files.LaneFiles.give_back.Goals as goal

pub unreachable-requires : goal.unreachable-requires
unreachable-requires c =
    not_out c.args.folder.now c.args.lane c.args.self.now (sym c.in-None.ensures) c.requires.outside

pub returns : goal.returns
returns c =
    let found = with_file-found c.args.folder.now c.args.lane
    (λ file. record file { bytes = Some (seen c.args.disk); came_back = file.came_back ++ c.args.disk ∷ [] })
    c.args.self.now c.in-Some.place c.index_mut.result.now (sym c.in-Some.ensures) in
    cc (found, c.self.view_is, c.take_back.ensures, c.index_mut.ensures.value)
