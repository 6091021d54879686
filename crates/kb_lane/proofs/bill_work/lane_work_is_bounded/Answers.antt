use Rattle.kb_lane.proofs.WorkBounds as laws
use Rattle.kb_lane.proofs.bill_work.lane_work_is_bounded.Goals as goal

pub returns : goal.returns
returns c = laws.lane_work_is_bounded
