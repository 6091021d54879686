-- Each part is what its call ensures.
use Rattle.std.proofs.Common.{ℕ, List, IfSome, All, subst, ap}
use Rattle.kb_blocking.specs.declared.state.BlockState.{BlockState}
use Rattle.kb_blocking.specs.declared.state.Chain.{Chain}
use Rattle.kb_due.specs.Facts.{FactsValue, chain_of}
use Rattle.kb_events.specs.Private.Cuts.{HasDay}
use Rattle.kb_events.specs.Private.Standing.{AreTurns}
use Rattle.kb_events.proofs.course.course_of.Goals as goal

pub returns : goal.returns
returns c =
    let cuts = c.in_ok-cuts.cuts.items in
    let turning = c.in_ok-turns.turns.items in
    let blocks = ap (λ (facts : FactsValue). facts.blocks) c.facts.view_is in
    record {
      are = c.in_ok-cuts.ensures.cuts;
      turns = subst (λ (states : List BlockState). AreTurns states
          (chain_of c.args.subscription.now c.args.sub) turning) blocks
          (subst (λ (chain : Chain). AreTurns c.facts.inside.blocks.now chain turning) c.chain_of.ensures
          c.in_ok-turns.ensures.exactly);
      rising = c.in_ok-turns.ensures.rising;
      turned = subst (λ (days : List ℕ). All (HasDay cuts) days) c.deref.ensures.value
          c.in_ok-cuts.ensures.turned;
      ends = c.life_end-end.ensures.end;
      cut = subst (λ (days : List ℕ). IfSome c.life_end-end.result (HasDay days)) c.deref-2.ensures.value
          c.life_end-end.ensures.cut;
      named = c.start_of-start.ensures.named;
    }
