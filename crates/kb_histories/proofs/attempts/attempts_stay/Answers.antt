use Rattle.kb_histories.proofs.StayingAttempts as laws
use Rattle.kb_histories.proofs.attempts.attempts_stay.Goals as goal

pub returns : goal.returns
returns c = record { stay = laws.attempts_stay; for_good = laws.final_attempts_stay }
