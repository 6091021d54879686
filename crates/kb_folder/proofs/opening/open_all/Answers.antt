use Rattle.std.proofs.Common.{◌≡◌, ◌+◌, ℕ, [], length, arith, refl, ap, sym, subst, ◌∙◌}
use Rattle.kb_folder.specs.Openings.{AreOpened}
use Rattle.kb_folder.specs.OneLane.{IsLeftIn, IsLaneCause}
use Rattle.kb_folder.proofs.Gateways.{left_after}
use Rattle.kb_folder.proofs.Opened.{none_open, one_more_open, one_longer, stopped_next, cause_of_next}
use Rattle.kb_folder.proofs.Opened.{first_of_next, first_tells, lanes_in, lanes_told}
use Rattle.kb_folder.proofs.opening.open_all.Goals as goal

pub returns-in-Err-clause-stopped : goal.returns-in-Err-clause-stopped
returns-in-Err-clause-stopped g c = rw (c.in-Err.ensures.same ∙ c.requires.none)
    (stopped_next g.V.Disk.Disk.told
    c.args.folder.now 0
    (g.V.Vault.told c.args.vault.now)
    (g.V.Vault.told c.args.vault.now)
    (g.V.Vault.told
    c.open_first.new.vault) []
    (none_open g.V.Disk.Disk.told
    c.args.folder.now 0
    (g.V.Vault.told c.args.vault.now) []
    refl)
    (omega arith) (c.in-Err.ensures.refused 0).0)

pub returns-in-Err-clause-cause : goal.returns-in-Err-clause-cause
returns-in-Err-clause-cause g c =
    let told = (g.V.Vault.told c.args.vault.now).lane_bytes c.args.folder.now 0 in
    cause_of_next {G = g.row.M-Gateway.Denot} g.V.Disk.Disk.told
    c.args.folder.now (lanes_in told)
    (g.V.Vault.told c.args.vault.now)
    (g.V.Vault.told c.args.vault.now)
    (g.V.Vault.told
    c.open_first.new.vault) []
    (none_open {G = g.row.M-Gateway.Denot} g.V.Disk.Disk.told
    c.args.folder.now (lanes_in told)
    (g.V.Vault.told c.args.vault.now) []
    refl)
    (g.M.Market.told c.args.market.now).faults (g.M.Market.told c.args.market.now).faults
    (g.M.Market.told c.open_first.new.market).faults c.in-Err.fault refl (lanes_told told)
    (c.in-Err.ensures.refused (lanes_in told)).1

pub returns-in-Err-clause-in_order : goal.returns-in-Err-clause-in_order
returns-in-Err-clause-in_order g c =
    first_of_next {G = g.row.M-Gateway.Denot} g.V.Disk.Disk.told
    c.args.folder.now 0
    (g.V.Vault.told c.args.vault.now)
    (g.V.Vault.told c.args.vault.now)
    (g.V.Vault.told
    c.open_first.new.vault) []
    (none_open {G = g.row.M-Gateway.Denot} g.V.Disk.Disk.told
    c.args.folder.now 0
    (g.V.Vault.told c.args.vault.now) []
    refl)
    (g.M.Market.told c.args.market.now).faults (g.M.Market.told c.open_first.new.market).faults
    c.in-Err.fault (omega arith)
    (c.in-Err.ensures.refused 0).1

pub returns-in-Err-open_next-clause-stopped : goal.returns-in-Err-open_next-clause-stopped
returns-in-Err-open_next-clause-stopped g c =
    let counted = c.loop-number.invariant.1 in
    let next = c.loop-number-test.true in
    let few = c.in-Ok.ensures.few in
    rw c.in-Err-open_next.ensures.same
    (stopped_next g.V.Disk.Disk.told
    c.args.folder.now c.in-Ok.count
    (g.V.Vault.told c.args.vault.now)
    (g.V.Vault.told c.loop-number.vault)
    (g.V.Vault.told
    c.open_next.new.vault) c.loop-number.lanes.items
    c.loop-number.invariant.0 (omega (arith, counted, next, few))
    (subst
    (λ (n : ℕ). IsLeftIn g.V.Disk.Disk.told c.args.folder.now n
    (g.V.Vault.told c.loop-number.vault)
    (g.V.Vault.told
    c.open_next.new.vault))
    (sym counted) c.in-Err-open_next.ensures.refused.0))

pub returns-in-Err-open_next-clause-cause : goal.returns-in-Err-open_next-clause-cause
returns-in-Err-open_next-clause-cause g c =
    let counted = c.loop-number.invariant.1 in
    let some = c.loop-number.auto.number in
    cause_of_next g.V.Disk.Disk.told
    c.args.folder.now c.in-Ok.count
    (g.V.Vault.told c.args.vault.now)
    (g.V.Vault.told c.loop-number.vault)
    (g.V.Vault.told
    c.open_next.new.vault) c.loop-number.lanes.items
    c.loop-number.invariant.0
    (g.M.Market.told c.args.market.now).faults (g.M.Market.told c.loop-number.market).faults
    (g.M.Market.told c.open_next.new.market).faults c.in-Err-open_next.fault c.loop-number.invariant.2
    (first_tells g.V.Disk.Disk.told
    c.args.folder.now c.in-Ok.count
    (g.V.Vault.told c.args.vault.now)
    (g.V.Vault.told c.loop-number.vault)
    (g.V.Vault.told
    c.open_next.new.vault) c.loop-number.lanes.items
    c.loop-number.invariant.0 c.in-Ok.ensures.few (omega (arith, counted, some)))
    (subst
    (λ (n : ℕ). IsLaneCause c.in-Ok.count n
    ((g.V.Vault.told c.loop-number.vault).lane_bytes c.args.folder.now n)
    (g.V.Vault.told c.loop-number.vault).faults (g.V.Vault.told c.open_next.new.vault).faults
    (g.M.Market.told c.loop-number.market).faults (g.M.Market.told c.open_next.new.market).faults
    c.in-Err-open_next.fault)
    (sym counted) c.in-Err-open_next.ensures.refused.1)

pub returns-in-Err-open_next-clause-in_order : goal.returns-in-Err-open_next-clause-in_order
returns-in-Err-open_next-clause-in_order g c =
    let counted = c.loop-number.invariant.1 in
    first_of_next g.V.Disk.Disk.told
    c.args.folder.now c.in-Ok.count
    (g.V.Vault.told c.args.vault.now)
    (g.V.Vault.told c.loop-number.vault)
    (g.V.Vault.told
    c.open_next.new.vault) c.loop-number.lanes.items
    c.loop-number.invariant.0
    (g.M.Market.told c.loop-number.market).faults (g.M.Market.told c.open_next.new.market).faults
    c.in-Err-open_next.fault
    c.in-Ok.ensures.few
    (subst
    (λ (n : ℕ). IsLaneCause c.in-Ok.count n
    ((g.V.Vault.told c.loop-number.vault).lane_bytes c.args.folder.now n)
    (g.V.Vault.told c.loop-number.vault).faults (g.V.Vault.told c.open_next.new.vault).faults
    (g.M.Market.told c.loop-number.market).faults (g.M.Market.told c.open_next.new.market).faults
    c.in-Err-open_next.fault)
    (sym counted) c.in-Err-open_next.ensures.refused.1)

pub loop-number-preserved : goal.loop-number-preserved
loop-number-preserved g c = (
  one_more_open g.V.Disk.Disk.told
      c.args.folder.now c.in-Ok.count
      (g.V.Vault.told c.args.vault.now)
      (g.V.Vault.told
      c.loop-number.vault)
      (g.V.Vault.told
      c.open_next.new.vault) c.loop-number.lanes.items
      c.loop-number.invariant.0 c.open_next.new.lanes.items c.in_default.ensures.added,
  one_longer g.V.Disk.Disk.told
      c.args.folder.now c.in-Ok.count
      (g.V.Vault.told c.args.vault.now)
      (g.V.Vault.told
      c.loop-number.vault)
      (g.V.Vault.told
      c.open_next.new.vault) c.loop-number.lanes.items
      c.loop-number.invariant.0 c.open_next.new.lanes.items c.in_default.ensures.added
      ∙ ap (λ (n : ℕ). n + 1) c.loop-number.invariant.1,
  c.in_default.ensures.calm ∙ c.loop-number.invariant.2,
  c.in_default.ensures.served c.loop-number.invariant.3,
  c.in_default.ensures.unasked c.loop-number.invariant.4,
  λ number. c.in_default.ensures.same_gateways number ∙ c.loop-number.invariant.5 number,
)

pub returns-clause-opened : goal.returns-clause-opened
returns-clause-opened g c =
    let counted = c.loop-number.invariant.1 in
    let end = c.loop-number-test.false in
    let some = c.in-Ok.ensures.some in
    let within = c.loop-number.auto.number-end some in
    let all : c.in-Ok.count ≡ length c.loop-number.lanes.items = omega (arith, counted, end, within) in
    subst
    (λ (n : ℕ). AreOpened g.V.Disk.Disk.told
    c.args.folder.now n
    (g.V.Vault.told c.args.vault.now)
    (g.V.Vault.told c.loop-number.vault)
    c.loop-number.lanes.items) all c.loop-number.invariant.0

pub returns-in-Err-open_next-clause-gateway_left : goal.returns-in-Err-open_next-clause-gateway_left
returns-in-Err-open_next-clause-gateway_left g c =
    rw (c.in-Err-open_next.ensures.same, c.loop-number.invariant.1)
    (left_after g.M.Gateway.Gateway.told c.loop-number.number (g.M.Market.told c.args.market.now)
    (g.M.Market.told c.loop-number.market) (g.M.Market.told c.open_next.new.market)
    c.loop-number.invariant.5 c.in-Err-open_next.ensures.gateway_left)

pub returns-in-Err-open_next-clause-unasked_so_far : goal.returns-in-Err-open_next-clause-unasked_so_far
returns-in-Err-open_next-clause-unasked_so_far g c =
    rw c.in-Err-open_next.ensures.same c.loop-number.invariant.4
