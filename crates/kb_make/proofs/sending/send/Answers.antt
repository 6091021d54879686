use Rattle.std.proofs.Common.{subst}
use Rattle.kb_lane.specs.Lanes.{machine_of}
use Rattle.kb_make.specs.Makes.{Busy, IsDoneWith}
use Rattle.kb_make.proofs.sending.send.Goals as goal

pub returns-clause-idle : goal.returns-clause-idle
returns-clause-idle c = c.in_ok-finish.ensures.idle

pub returns-clause-done : goal.returns-clause-done
returns-clause-done c =
    let P : Busy → Type 0 = λ busy. IsDoneWith c.args.today busy (machine_of c.finish.new.lane) in
    subst P c.in_ok-refused.ensures.sent c.in_ok-finish.ensures.done

pub returns-clause-refused : goal.returns-clause-refused
returns-clause-refused c = c.in_ok-refused.ensures.refused
