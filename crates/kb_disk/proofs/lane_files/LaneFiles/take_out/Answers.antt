use Rattle.std.proofs.Common.{None, sym}
use Rattle.kb_disk.proofs.Lookups.{with_file-found, with_file-new}
use Rattle.kb_disk.proofs.lane_files.LaneFiles.take_out.Goals as goal

pub returns-in-Some-clause-ok : goal.returns-in-Some-clause-ok
returns-in-Some-clause-ok c =
    let found = with_file-found c.args.folder.now c.args.lane (λ file. record file { bytes = None })
    c.args.self.now c.in-Some.place c.index_mut.result.now (sym c.in-Some.ensures) in
    cc (found, c.self.view_is, c.take_out.ensures, c.index_mut.ensures.value)

pub returns-in_ok-push-in-None-clause-ok : goal.returns-in_ok-push-in-None-clause-ok
returns-in_ok-push-in-None-clause-ok c =
    let new = with_file-new c.args.folder.now c.args.lane (λ file. record file { bytes = None })
    c.args.self.now (sym c.in-None.ensures) in
    cc (new, c.self.view_is, c.in_ok-push-in-None.ensures.items, c.in_ok-new_out-in-None.ensures)
