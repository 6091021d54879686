use Rattle.kb_apply.specs.LaneRuns.{outside_of}
use Rattle.kb_apply.proofs.RunsAlike as laws
use Rattle.kb_apply.proofs.determined.runs_are_determined.Goals as goal

pub returns : goal.returns
returns g c = record {
  determined = laws.runs_are_determined (outside_of g.D.Disk.told g.G.Gateway.told g.C.Clock.day);
}
