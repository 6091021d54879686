use Rattle.std.proofs.Common.{◌≡◌, ◌-◌, [], length, ap, sym, ◌∙◌, List, ℕ, arith, subst}
use Rattle.kb_journal.specs.Private.Records.{told}
use Rattle.kb_journal.specs.Private.Parts.{AreThere}
use Rattle.kb_journal.proofs.Told.{told_none, told_some, first_there, others_there}
use Rattle.kb_journal.proofs.records.RecordsLeftIterator.next.Goals as goal

pub returns-then-self-eq0-clause-steps : goal.returns-then-self-eq0-clause-steps
returns-then-self-eq0-clause-steps c =
    let none : c.args.self.now ≡ [] = sym c.self.view_is
    ∙ ap (λ (n : ℕ). told n c.self.inside.bytes.now) c.if-self-eq0.true ∙ told_none c.self.inside.bytes.now in
    (none, none)

pub split_record-requires : goal.split_record-requires
split_record-requires c = record {
  there = first_there c.self.inside.count c.self.inside.bytes.now (omega (arith, c.if-self-eq0.false))
      c.self.invariant;
}

pub invariant_of-self : goal.invariant_of-self
invariant_of-self c =
    let P : List ℕ → Type 0 = AreThere (c.self.inside.count - 1) in
    subst P (sym c.split_record.ensures.rest)
    (others_there c.self.inside.count c.self.inside.bytes.now (omega (arith, c.if-self-eq0.false))
    c.self.invariant)

pub returns-clause-steps : goal.returns-clause-steps
returns-clause-steps c =
    sym c.self.view_is
    ∙ told_some c.self.inside.count c.self.inside.bytes.now c.split_record.result.0.now
    c.split_record.result.1.now (omega (arith, c.if-self-eq0.false)) c.split_record.ensures.first
    c.split_record.ensures.rest

pub returns-clause-goes : goal.returns-clause-goes
returns-clause-goes c = record {
  on = λ finite. (tt, tt, omega (arith, ap length (returns-clause-steps c)));
  keeps = tt;
  rests = λ finite. tt;
}
