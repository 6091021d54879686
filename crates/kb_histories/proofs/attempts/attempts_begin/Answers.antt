use Rattle.kb_histories.proofs.BegunAttempts as laws
use Rattle.kb_histories.proofs.attempts.attempts_begin.Goals as goal

pub returns : goal.returns
returns c = record { begun = laws.attempts_begin; free = laws.begun_keys_are_free }
