-- The sums of a book that is sound fit.
use Rattle.std.proofs.Common.{arith}
use Rattle.std.proofs.lemmas.Int.{ints}
use Rattle.kb_book.proofs.BoundedSums.{charged-bounded, paid-bounded, credit-bounded, unpaid-bounded}
use Rattle.kb_account.specs.Private.States.{value_of}
use Rattle.kb_account.proofs.book.Book.sums.Goals as goal

pub returns-clause-charged : goal.returns-clause-charged
returns-clause-charged c =
    let fits = charged-bounded (value_of c.self.inside.state) c.self.invariant in
    (omega (arith, ints, c.charged.ensures, fits.0), omega (arith, ints, c.charged.ensures, fits.1))

pub returns-clause-paid : goal.returns-clause-paid
returns-clause-paid c =
    let fits = paid-bounded (value_of c.self.inside.state) c.self.invariant in
    (omega (arith, ints, c.paid.ensures, fits.0), omega (arith, ints, c.paid.ensures, fits.1))

pub returns-clause-credit : goal.returns-clause-credit
returns-clause-credit c =
    let fits = credit-bounded (value_of c.self.inside.state) c.self.invariant in
    (omega (arith, ints, c.credit.ensures, fits.0), omega (arith, ints, c.credit.ensures, fits.1))

pub returns-clause-unpaid : goal.returns-clause-unpaid
returns-clause-unpaid c =
    let fits = unpaid-bounded (value_of c.self.inside.state) c.self.invariant in
    (omega (arith, ints, c.unpaid.ensures, fits.0), omega (arith, ints, c.unpaid.ensures, fits.1))
