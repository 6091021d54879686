use Rattle.std.proofs.Common.{◌≡◌, ℕ, length}
use Rattle.kb_folder.specs.Openings.{AreOpened, AreServed, AreUnasked}
use Rattle.kb_folder.proofs.opening.open_all.Given as goal

-- so many lanes are open
abbrev pub invariant-loop-number : goal.invariant-loop-number
invariant-loop-number g l =
    AreOpened g.V.Disk.Disk.told l.folder l.count
    (g.V.Vault.told l.fn.vault)
    (g.V.Vault.told l.vault)
    l.lanes.items
    × (length l.lanes.items ≡ l.number)
    × ((g.M.Market.told l.market).faults ≡ (g.M.Market.told l.fn.market).faults)
    × AreServed (λ made place. g.M.Market.serves made l.gateway place) l.lanes.items
    × AreUnasked g.M.Gateway.Gateway.told l.lanes.items
    × ((number : ℕ) → (g.M.Market.told l.market).came_back number
    ≡ (g.M.Market.told l.fn.market).came_back number)
