use Rattle.kb_histories.proofs.HeldBooks as laws
use Rattle.kb_histories.proofs.machines.plans_are_held.Goals as goal

pub returns : goal.returns
returns c =
    record { versions = laws.versions_stay; stay = laws.plans_stay; replayed = laws.replays_have_plans }
