use Rattle.std.proofs.Common.{◌≡◌, ℕ, List, map, ap, sym, ◌∙◌, subst, All, AllPairs, T, Bor}
use Rattle.std.specs.FinMap.Entries.{is_sorted}
use Rattle.kb_sharing.specs.Keys.{by_words}
use Rattle.kb_payment.specs.declared.attempt.Attempt.{Attempt}
use Rattle.kb_payment.specs.Attempts.{is_open}
use Rattle.kb_payment.specs.PaymentSums.{open_keys, IsOpenKey}
use Rattle.kb_payment.specs.Private.LentEntries.{open_among}
use Rattle.kb_payment.proofs.OpenKeys.{map-filter-map, open_keys_found, open_keys_apart}
use Rattle.kb_payment.proofs.payments.Payments.open_attempts.Goals as goal

pub returns-clause-keys : goal.returns-clause-keys
returns-clause-keys c =
    let lent : open_among c.deref.result.now
    ≡ open_among c.in_ok-entries.entries.items = ap open_among c.deref.ensures.value in
    let told = map-filter-map (λ (lent : Bor (List ℕ) × Bor Attempt). (lent.0.now, lent.1.now))
    (λ (entry : List ℕ × Attempt). entry.0)
    (λ (entry : List ℕ × Attempt). is_open entry.1.status) c.in_ok-entries.entries.items in
    let seen : open_keys
    (map (λ (lent : Bor (List ℕ) × Bor Attempt). (lent.0.now, lent.1.now)) c.in_ok-entries.entries.items)
    ≡ open_keys c.args.self.now
    = ap open_keys (c.in_ok-entries.ensures ∙ c.self.view_is) in
    c.in_ok-open_among.ensures ∙ lent ∙ sym told ∙ seen

pub returns-clause-open : goal.returns-clause-open
returns-clause-open c =
    subst (All (IsOpenKey c.args.self.now)) (sym (returns-clause-keys c))
    (open_keys_found c.args.self.now
    (subst (λ payments. T (is_sorted by_words payments)) c.self.view_is c.self.invariant.0.sorted))

pub returns-clause-apart : goal.returns-clause-apart
returns-clause-apart c =
    subst (AllPairs (λ (one other : List ℕ). one ≡ other → ⊥)) (sym (returns-clause-keys c))
    (open_keys_apart c.args.self.now
    (subst (λ payments. T (is_sorted by_words payments)) c.self.view_is c.self.invariant.0.sorted))
