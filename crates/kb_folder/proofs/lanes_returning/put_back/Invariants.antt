use Rattle.std.proofs.Common.{◌≡◌, ◌++◌, length}
use Rattle.std.specs.Vec.Iter.{into_iter_items, into_iter_len}
use Rattle.kb_gateway.specs.Told.{payments_asked}
use Rattle.kb_folder.specs.Openings.{AreBack, AskedOnceEach, GatewaysAreBack, HaveAttemptsEach}
use Rattle.kb_folder.proofs.lanes_returning.put_back.Given as goal

-- the lanes so far are back
abbrev pub invariant-loop-lane : goal.invariant-loop-lane
invariant-loop-lane g l =
    (l.yielded ++ into_iter_items l.lane-iterator ≡ into_iter_items l.initial.lane-iterator)
    × (into_iter_len l.lane-iterator ≡ length (into_iter_items l.lane-iterator))
    × (length l.yielded ≡ l.number)
    × AreBack g.V.Disk.Disk.told l.folder
    (g.V.Vault.told l.fn.vault)
    (g.V.Vault.told l.vault) l.yielded
    × AskedOnceEach (payments_asked g.M.Gateway.Gateway.told) l.yielded
    × GatewaysAreBack (g.M.Market.told l.fn.market) (g.M.Market.told l.market) l.yielded
    × HaveAttemptsEach l.yielded
