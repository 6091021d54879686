-- What is due has a key of which there is no attempt yet, and moves nothing.
use Rattle.std.proofs.Common.{◌≡◌, ℕ, List, None, true, arith, ap, ◌∙◌, refl}
use Rattle.std.specs.Arc.{arc_value}
use Rattle.kb_payment.specs.PaymentSums.{PaymentsValue, attempt_of}
use Rattle.kb_payment.specs.PaymentEdits.{purchase_of, amount_of, purchased}
use Rattle.kb_book.specs.Edits.{auto_key}
use Rattle.kb_book.specs.PaymentRows.{balance_at}
use Rattle.kb_book.proofs.FreshKeys.{fresh-due}
use Rattle.kb_account.proofs.PaymentMoves.{new-moved}
use Rattle.kb_account.proofs.state.State.paid_automatically.Goals as goal

pub pay_automatically-requires-clause-fresh : goal.pay_automatically-requires-clause-fresh
pay_automatically-requires-clause-fresh c =
    let payments = arc_value c.args.self.now.payments in
    let fresh = fresh-due payments c.args.self.now.invoices c.args.today c.args.invoice c.requires.sound.owned
    c.requires.sound.invoiced (omega (arith, c.len-count.ensures))
    (omega (arith, c.number-day.ensures.value, c.number-day.ensures.last)) c.requires.due in
    let key : c.in-Ok.key ≡ auto_key c.args.invoice c.args.today =
    c.in-Ok.ensures ∙ ap (λ number. auto_key number c.args.today) c.number-number.ensures.value in
    ap (λ (p : PaymentsValue). attempt_of p c.in-Ok.key) c.deref.ensures
    ∙ ap (λ (k : List ℕ). attempt_of payments k) key
    ∙ fresh

pub returns-clause-moved : goal.returns-clause-moved
returns-clause-moved c =
    let payments = arc_value c.args.self.now.payments in
    let amount = balance_at c.args.self.now.invoices c.args.invoice in
    let fresh = fresh-due payments c.args.self.now.invoices c.args.today c.args.invoice c.requires.sound.owned
    c.requires.sound.invoiced (omega (arith, c.len-count.ensures))
    (omega (arith, c.number-day.ensures.value, c.number-day.ensures.last)) c.requires.due in
    let key : c.in-Ok.key ≡ auto_key c.args.invoice c.args.today =
    c.in-Ok.ensures ∙ ap (λ number. auto_key number c.args.today) c.number-number.ensures.value in
    let made : c.in_ok-payments.payments ≡ purchased payments (auto_key c.args.invoice c.args.today)
    c.args.invoice amount None c.args.today true =
    c.in_ok-payments.ensures.purchased
    ∙ ap (λ (p : PaymentsValue). purchased p c.in-Ok.key c.args.invoice amount None c.args.today true)
    c.deref.ensures
    ∙ ap (λ (k : List ℕ). purchased payments k c.args.invoice amount None c.args.today true) key in
    new-moved payments c.in_ok-payments.payments (auto_key c.args.invoice c.args.today)
    (purchase_of c.args.invoice (amount_of amount None) c.args.today true) made fresh refl
