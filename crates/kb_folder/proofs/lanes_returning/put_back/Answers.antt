use Rattle.std.proofs.Common.{◌≡◌, ◌∷◌, [], ◌+◌, ℕ, length, true, arith, ap, sym, subst, ◌∙◌, append_assoc}
use Rattle.std.proofs.Common.{append-nil, refl, rules}
use Rattle.std.specs.Vec.Iter.{into_iter_items}
use Rattle.kb_gateway.specs.Told.{payments_asked}
use Rattle.kb_folder.specs.Openings.{AreBack, AskedOnceEach, GatewaysAreBack, HaveAttemptsEach}
use Rattle.kb_folder.specs.OneLane.{GatewayIsBack, TakesBack}
use Rattle.kb_folder.proofs.Gateways.{none_gateways, one_more_gateway}
use Rattle.kb_folder.proofs.Places.{length_snoc, next_within, nothing_left}
use Rattle.kb_folder.proofs.Returned.{asked_more, attempts_more, none_back, next_out, one_more_back}
use Rattle.kb_folder.proofs.lanes_returning.put_back.Goals as goal

pub give_back-requires-clause-outside : goal.give_back-requires-clause-outside
give_back-requires-clause-outside g c κs within =
    let at = c.loop-lane in
    let steps : into_iter_items at.lane-iterator ≡ c.in-Some.lane ∷ into_iter_items c.next.new.self =
    c.in-Some.ensures.steps.0 in
    subst (λ (n : ℕ). (g.V.Vault.told at.vault).is_out c.args.folder.now n ≡ true) at.invariant.2
    (next_out g.V.Disk.Disk.told
    c.args.folder.now
    (g.V.Vault.told c.args.vault.now)
    (g.V.Vault.told at.vault)
    (g.V.Vault.told at.vault)
    at.yielded at.invariant.3
    (c.requires.outside (length at.yielded) (next_within at.yielded c.in-Some.lane
    (into_iter_items c.next.new.self)
    c.args.lanes.items (rw (← steps) at.invariant.0 ∙ c.into_iter-lane-iterator.ensures.into_iter_gives.0))))

pub loop-lane-preserved : goal.loop-lane-preserved
loop-lane-preserved g c =
    let at = c.loop-lane in
    let lane = c.in-Some.lane in
    let steps : into_iter_items at.lane-iterator ≡ lane ∷ into_iter_items c.next.new.self =
    c.in-Some.ensures.steps.0 in (
      append_assoc at.yielded (lane ∷ []) _ ∙ rw (← steps) at.invariant.0,
      let was = at.invariant.1 in
          let gone = c.in-Some.ensures.steps.1 in
          let short = ap length steps in
          omega (arith, was, gone, short),
      length_snoc at.yielded lane ∙ ap (λ (n : ℕ). n + 1) at.invariant.2,
      one_more_back g.V.Disk.Disk.told
          c.args.folder.now
          (g.V.Vault.told
          c.args.vault.now)
          (g.V.Vault.told at.vault)
          (g.V.Vault.told
          c.give_back.new.vault)
          at.yielded at.invariant.3 lane
          (subst
          (λ (n : ℕ). TakesBack g.V.Disk.Disk.told
          c.args.folder.now n
          (g.V.Vault.told at.vault)
          (g.V.Vault.told
          c.give_back.new.vault)
          lane.log.journal.disk) (sym at.invariant.2) c.give_back.ensures.back)
          c.give_back.ensures.stands c.give_back.ensures.caused c.give_back.ensures.durable
          c.give_back.ensures.quiet,
      asked_more (payments_asked g.M.Gateway.Gateway.told) at.yielded lane at.invariant.4
          c.give_back.ensures.once,
      one_more_gateway (g.M.Market.told c.args.market.now) (g.M.Market.told at.market)
          (g.M.Market.told c.give_back.new.market) at.yielded lane at.invariant.5
          (subst (λ (n : ℕ). GatewayIsBack n (g.M.Market.told at.market)
          (g.M.Market.told c.give_back.new.market) lane.gateway) (sym at.invariant.2)
          c.give_back.ensures.gateway),
      attempts_more at.yielded lane at.invariant.6 c.give_back.ensures.attempts,
    )

pub loop-lane-init : goal.loop-lane-init
loop-lane-init g c = (
  refl,
  search rules,
  refl,
  none_back {G = g.row.M-Gateway.Denot} g.V.Disk.Disk.told
      c.args.folder.now
      (g.V.Vault.told c.args.vault.now)
      [] refl,
  λ place lane is. absurd (cc),
  none_gateways (g.M.Market.told c.args.market.now) [] refl,
  λ place lane is. absurd (cc),
)

pub returns-clause-back : goal.returns-clause-back
returns-clause-back g c =
    let at = c.loop-lane in
    let none = c.in-None.ensures.steps in
    let empty : into_iter_items at.lane-iterator ≡ [] = nothing_left _ (sym at.invariant.1 ∙ none.0) in
    let all = sym (append-nil at.yielded) ∙ rw empty at at.invariant.0
    ∙ c.into_iter-lane-iterator.ensures.into_iter_gives.0 in
    subst (AreBack g.V.Disk.Disk.told
    c.args.folder.now
    (g.V.Vault.told c.args.vault.now)
    (g.V.Vault.told at.vault)) all
    at.invariant.3

pub returns-clause-once : goal.returns-clause-once
returns-clause-once g c =
    let at = c.loop-lane in
    let none = c.in-None.ensures.steps in
    let empty : into_iter_items at.lane-iterator ≡ [] = nothing_left _ (sym at.invariant.1 ∙ none.0) in
    let all = sym (append-nil at.yielded) ∙ rw empty at at.invariant.0
    ∙ c.into_iter-lane-iterator.ensures.into_iter_gives.0 in
    subst (AskedOnceEach (payments_asked g.M.Gateway.Gateway.told)) all at.invariant.4

pub returns-clause-gateways : goal.returns-clause-gateways
returns-clause-gateways g c =
    let at = c.loop-lane in
    let none = c.in-None.ensures.steps in
    let empty : into_iter_items at.lane-iterator ≡ [] = nothing_left _ (sym at.invariant.1 ∙ none.0) in
    let all = sym (append-nil at.yielded) ∙ rw empty at at.invariant.0
    ∙ c.into_iter-lane-iterator.ensures.into_iter_gives.0 in
    subst (GatewaysAreBack (g.M.Market.told c.args.market.now) (g.M.Market.told at.market)) all at.invariant.5

pub returns-clause-attempts : goal.returns-clause-attempts
returns-clause-attempts g c =
    let at = c.loop-lane in
    let none = c.in-None.ensures.steps in
    let empty : into_iter_items at.lane-iterator ≡ [] = nothing_left _ (sym at.invariant.1 ∙ none.0) in
    let all = sym (append-nil at.yielded) ∙ rw empty at at.invariant.0
    ∙ c.into_iter-lane-iterator.ensures.into_iter_gives.0 in
    subst HaveAttemptsEach all at.invariant.6
