use Rattle.std.proofs.Common.{[], ◌∷◌, arith, length-append}
use Rattle.kb_journal.proofs.journal.Journal.append.Goals as goal

pub returns-in-Err-clause-moments : goal.returns-in-Err-clause-moments
returns-in-Err-clause-moments g c =
    rw (← c.self.view_is) (λ records holds. c.write_record.ensures.moments _ _ records holds.kept)

pub returns-clause-moments : goal.returns-clause-moments
returns-clause-moments g c =
    rw (← c.self.view_is) (λ records holds. c.write_record.ensures.moments _ _ records holds.kept)

pub returns-clause-acknowledged : goal.returns-clause-acknowledged
returns-clause-acknowledged g c =
    rw (← c.self.view_is) (λ records holds. record {
      running = holds.running;
      kept = c.in_default.ensures.kept _ _ records holds.kept;
      counted = omega (arith, holds.counted, length-append records (c.args.bytes.now ∷ []));
    })
