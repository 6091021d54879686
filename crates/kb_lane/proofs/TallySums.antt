-- The numbers of a tally stay small.
use Rattle.std.proofs.Common.{ℕ, ◌+◌, ◌≡◌, List, [], ◌∷◌, ◌++◌, arith}
use Rattle.std.proofs.lemmas.List.Sums.{fold-append}
use Rattle.kb_book.specs.declared.reply.LaneReply.{LaneReply}
use Rattle.kb_book.specs.declared.reply.LaneReply.TheVariants as replies
use Rattle.kb_book.specs.declared.step.Step.{Step}
use Rattle.kb_book.specs.declared.step.Step.TheVariants as steps
use Rattle.kb_lane.specs.declared.tally.Tally.{Tally}
use Rattle.kb_lane.specs.Tallies.{Answer, IsAtMost, no_tally, of_reply, of_step, plus, tally_of, with_answer}

-- the numbers of nothing are none
pub none_most : (most : ℕ) → IsAtMost most no_tally
none_most most = record {
  accepted = omega arith;
  refused = omega arith;
  disk = omega arith;
  full = omega arith;
  memory = omega arith;
}

-- a reply adds one at most
pub reply_most : (reply : LaneReply) → IsAtMost 1 (of_reply reply)
reply_most (replies.Accepted answer) =
    record {
      accepted = omega arith;
      refused = omega arith;
      disk = omega arith;
      full = omega arith;
      memory =
          omega arith;
    }
reply_most (replies.Version number) =
    record {
      accepted = omega arith;
      refused = omega arith;
      disk = omega arith;
      full = omega arith;
      memory =
          omega arith;
    }
reply_most (replies.States number) =
    record {
      accepted = omega arith;
      refused = omega arith;
      disk = omega arith;
      full = omega arith;
      memory =
          omega arith;
    }
reply_most (replies.Refused refusal) =
    record {
      accepted = omega arith;
      refused = omega arith;
      disk = omega arith;
      full = omega arith;
      memory =
          omega arith;
    }
reply_most replies.DiskFault =
    record {
      accepted = omega arith;
      refused = omega arith;
      disk = omega arith;
      full = omega arith;
      memory =
          omega arith;
    }
reply_most (replies.Stopped count) =
    record {
      accepted = omega arith;
      refused = omega arith;
      disk = omega arith;
      full = omega arith;
      memory =
          omega arith;
    }
reply_most (replies.Full commands size) =
    record {
      accepted = omega arith;
      refused = omega arith;
      disk = omega arith;
      full = omega arith;
      memory =
          omega arith;
    }
reply_most replies.NoMemory =
    record {
      accepted = omega arith;
      refused = omega arith;
      disk = omega arith;
      full = omega arith;
      memory =
          omega arith;
    }

-- and so does a step
pub step_most : (step : Step) → IsAtMost 1 (of_step step)
step_most steps.Idle = none_most 1
step_most steps.Done = none_most 1
step_most steps.DiskFault =
    record {
      accepted = omega arith;
      refused = omega arith;
      disk = omega arith;
      full = omega arith;
      memory =
          omega arith;
    }
step_most (steps.Stopped count) =
    record {
      accepted = omega arith;
      refused = omega arith;
      disk = omega arith;
      full = omega arith;
      memory =
          omega arith;
    }
step_most (steps.Full commands size) =
    record {
      accepted = omega arith;
      refused = omega arith;
      disk = omega arith;
      full = omega arith;
      memory =
          omega arith;
    }
step_most steps.NoMemory =
    record {
      accepted = omega arith;
      refused = omega arith;
      disk = omega arith;
      full = omega arith;
      memory =
          omega arith;
    }

pub plus_most : (most more : ℕ) (one other : Tally) → IsAtMost most one → IsAtMost more other
    → IsAtMost (most + more) (plus one other)
plus_most most more one other first second = record {
  accepted = omega (arith, first.accepted, second.accepted);
  refused = omega (arith, first.refused, second.refused);
  disk = omega (arith, first.disk, second.disk);
  full = omega (arith, first.full, second.full);
  memory = omega (arith, first.memory, second.memory);
}

-- one answer more
pub tally_more : (answers : List Answer) (answer : Answer)
    → tally_of (answers ++ answer ∷ []) ≡ with_answer (tally_of answers) answer
tally_more answers answer = fold-append with_answer no_tally answers (answer ∷ [])
