-- What came of the bills of a lane, in numbers.
use Rattle.std.specs.Prelude.{ℕ, ◌+◌, ◌≤◌, ◌≡◌, List, [], ◌∷◌, refl}
use Rattle.std.specs.List.{fold}
use Rattle.kb_book.specs.declared.refusal.Refusal.TheVariants.{NoAccount}
use Rattle.kb_book.specs.declared.reply.LaneReply.{LaneReply}
use Rattle.kb_book.specs.declared.reply.LaneReply.TheVariants as replies
use Rattle.kb_book.specs.declared.step.Step.{Step}
use Rattle.kb_book.specs.declared.step.Step.TheVariants as steps
use Rattle.kb_lane.specs.declared.tally.Tally.{Tally}

-- the reply to the bill of an account, and the step that ended what was handled after it
abbrev pub Answer : Type 0
Answer = LaneReply × Step

abbrev pub no_tally : Tally
no_tally = record { accepted = 0; refused = 0; disk = 0; full = 0; memory = 0 }

-- what a reply adds: kept ones are accepted too, and a lane that had stopped counts as a disk that failed
abbrev pub of_reply : LaneReply → Tally
of_reply (replies.Accepted answer) = record no_tally { accepted = 1 }
of_reply (replies.Version number) = record no_tally { accepted = 1 }
of_reply (replies.States number) = record no_tally { accepted = 1 }
of_reply (replies.Refused refusal) = record no_tally { refused = 1 }
of_reply replies.DiskFault = record no_tally { disk = 1 }
of_reply (replies.Stopped count) = record no_tally { disk = 1 }
of_reply (replies.Full commands size) = record no_tally { full = 1 }
of_reply replies.NoMemory = record no_tally { memory = 1 }

-- what a step adds
abbrev pub of_step : Step → Tally
of_step steps.Idle = no_tally
of_step steps.Done = no_tally
of_step steps.DiskFault = record no_tally { disk = 1 }
of_step (steps.Stopped count) = record no_tally { disk = 1 }
of_step (steps.Full commands size) = record no_tally { full = 1 }
of_step steps.NoMemory = record no_tally { memory = 1 }

abbrev pub plus : Tally → Tally → Tally
plus one other = record {
  accepted = one.accepted + other.accepted;
  refused = one.refused + other.refused;
  disk = one.disk + other.disk;
  full = one.full + other.full;
  memory = one.memory + other.memory;
}

abbrev pub with_answer : Tally → Answer → Tally
with_answer tally answer = plus (plus tally (of_reply answer.0)) (of_step answer.1)

-- the tally of some accounts
abbrev pub tally_of : List Answer → Tally
tally_of answers = fold with_answer no_tally answers

-- a bill that met a disk that failed, and what was left to do after it; then a refused one on the lane that
-- has stopped
two_accounts : tally_of ((replies.DiskFault, steps.Stopped 4) ∷ (replies.Refused NoAccount, steps.Idle) ∷ [])
    ≡ record { accepted = 0; refused = 1; disk = 2; full = 0; memory = 0 }
two_accounts = refl

-- no number of a tally is more than this
pub record IsAtMost (most : ℕ) (tally : Tally) : Type 0 where
  pub accepted : tally.accepted ≤ most
  pub refused : tally.refused ≤ most
  pub disk : tally.disk ≤ most
  pub full : tally.full ≤ most
  pub memory : tally.memory ≤ most
