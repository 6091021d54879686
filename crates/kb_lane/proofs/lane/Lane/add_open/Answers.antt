use Rattle.std.proofs.Common.{◌≡◌, List, ℕ, All, AllPairs, Some, sym, ap, subst, ◌∙◌}
use Rattle.kb_payment.specs.PaymentSums.{open_keys, IsOpenKey}
use Rattle.kb_machine.specs.Machines.{book_of}
use Rattle.kb_lane.specs.Lanes.{machine_of}
use Rattle.kb_lane.proofs.ToLookUp.{are_open_in}
use Rattle.kb_lane.proofs.lane.Lane.add_open.Goals as goal

pub returns-clause-them : goal.returns-clause-them
returns-clause-them g c =
    let led = sym (c.self.invariant.replayed ∙ ap (λ lane. machine_of lane) c.self.view_is) in
    let there : book_of (machine_of c.args.self.now) c.args.account ≡ Some c.in-Some.book.now
    = ap (λ machine. book_of machine c.args.account) led
    ∙ ap (λ books. book_of (record { texts = c.self.inside.machine.texts; books = books }) c.args.account)
    (sym c.books.ensures) ∙ sym c.in-Some.ensures in
    are_open_in (machine_of c.args.self.now) c.args.account c.in-Some.book.now there
    (subst (λ payments. All (IsOpenKey payments) (open_keys payments)) c.payments.ensures
    (subst (All (IsOpenKey c.payments.result.now)) c.in_ok-keys.ensures.keys c.in_ok-keys.ensures.open))
    (subst (λ payments. AllPairs (λ (one other : List ℕ). one ≡ other → ⊥) (open_keys payments))
    c.payments.ensures
    (subst (AllPairs (λ (one other : List ℕ). one ≡ other → ⊥)) c.in_ok-keys.ensures.keys
    c.in_ok-keys.ensures.apart))
