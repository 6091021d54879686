use Rattle.kb_lane.proofs.outbox.ask_of.Goals as goal

pub returns-in-Act : goal.returns-in-Act
returns-in-Act c = rw c.in-Act.is (c.asked_by.ensures c.args.today c.in-Act.key)
