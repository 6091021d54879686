-- The three maps of payments stay what they always are, edit by edit.
use Rattle.std.proofs.Common.{◌≡◌, ℕ, ◌+◌, ◌-◌, ◌≤◌, sym, ap, subst, ◌∙◌, refl, Bool, true, false, List, []}
use Rattle.std.proofs.Common.{◌∷◌, Option}
use Rattle.std.proofs.Common.{None, Some, pos, ◌||◌, arith}
use Rattle.std.proofs.lemmas.Int.{ints}
use Rattle.std.proofs.lemmas.List.Elements.{All-nil}
use Rattle.std.specs.FinMap.{FinMap, entries, insert, put, empty}
use Rattle.kb_payment.specs.declared.attempt.Attempt.{Attempt}
use Rattle.kb_payment.specs.declared.attempt.Status.{Status}
use Rattle.kb_payment.specs.declared.on_invoice.OnInvoice.{OnInvoice}
use Rattle.kb_payment.specs.Attempts.{is_open, is_success, with_status}
use Rattle.kb_sharing.specs.Keys.{by_words}
use Rattle.kb_payment.specs.PaymentSums.{PaymentsValue, attempt_of, with_attempt, taken_of, open_purchases}
use Rattle.kb_payment.specs.PaymentSums.{has_automatic_since}
use Rattle.kb_payment.specs.PaymentEdits.{max_purchase, purchase_of}
use Rattle.kb_payment.specs.SoundPayments.{IsSound, ArePayments}
use Rattle.kb_payment.specs.Private.KeptSums.{is_since, latest, AreKept}
use Rattle.kb_payment.specs.Private.GivenBack.{IsGiveBack}
use Rattle.kb_payment.proofs.MapEntries.{entries-with, entries-none}
use Rattle.kb_payment.proofs.Purchases.{ArePayments-purchased, AreKept-purchased}
use Rattle.kb_payment.proofs.GiveBacks.{ArePayments-given_back, AreKept-given_back}
use Rattle.kb_payment.proofs.Settlements.{ArePayments-with_status, AreKept-settled_purchase}
use Rattle.kb_payment.proofs.Settlements.{AreKept-settled_standing}
use Rattle.kb_payment.proofs.Settlements.{AreKept-settled_failed}

-- the attempts are sound, and what is kept beside them are their sums
abbrev pub AreMaps : FinMap by_words Attempt → FinMap by_words ℕ → FinMap by_words OnInvoice → Type 0
AreMaps attempts taken invoices =
    ArePayments (entries attempts) × AreKept (entries attempts) (entries taken) (entries invoices)

-- the same facts of equal entries
same_maps : (payments : PaymentsValue) (taken : List (List ℕ × ℕ)) (invoices : List (List ℕ × OnInvoice))
    → (new : FinMap by_words Attempt) (new_taken : FinMap by_words ℕ)
    (new_invoices : FinMap by_words OnInvoice)
    → entries new ≡ payments → entries new_taken ≡ taken → entries new_invoices ≡ invoices
    → ArePayments payments → AreKept payments taken invoices → AreMaps new new_taken new_invoices
same_maps payments taken invoices new new_taken new_invoices is is_taken is_invoices are kept = (
  subst ArePayments (sym is) are,
  subst (λ p. AreKept p (entries new_taken) (entries new_invoices)) (sym is)
      (subst (λ t. AreKept payments t (entries new_invoices)) (sym is_taken)
      (subst (λ n. AreKept payments taken n) (sym is_invoices) kept)),
)

-- no attempt, and nothing kept
pub AreMaps-none : (attempts : FinMap by_words Attempt) (taken : FinMap by_words ℕ)
    (invoices : FinMap by_words OnInvoice)
    → attempts ≡ empty → taken ≡ empty → invoices ≡ empty → AreMaps attempts taken invoices
AreMaps-none attempts taken invoices is is_taken is_invoices =
    same_maps [] [] [] attempts taken invoices (entries-none attempts is) (entries-none taken is_taken)
    (entries-none invoices is_invoices)
    (record {
      sorted = tt;
      sound = All-nil (λ (entry : List ℕ × Attempt). IsSound [] entry.1);
      covered = λ key. tt;
      single = λ invoice. omega (arith, ints);
    })
    (record { taken_sums = λ key. refl; opened = λ invoice. refl; automatic = λ invoice day. refl })

-- what is seen of the attempts once one is put in
pub seen-with : (now : PaymentsValue) (attempts new : FinMap by_words Attempt) (key : List ℕ)
    (attempt : Attempt)
    → entries attempts ≡ now → new ≡ insert attempts key attempt → entries new ≡ with_attempt now key attempt
seen-with now attempts new key attempt seen is =
    entries-with attempts new key attempt is ∙ ap (λ p. with_attempt p key attempt) seen

module _ (now : PaymentsValue) (attempts : FinMap by_words Attempt) (taken : FinMap by_words ℕ)
    (invoices : FinMap by_words OnInvoice) (new : FinMap by_words Attempt) (new_taken : FinMap by_words ℕ)
    (new_invoices : FinMap by_words OnInvoice) (seen : entries attempts ≡ now)
    (maps : AreMaps attempts taken invoices)
    (key : List ℕ) where
  are : ArePayments now
  are = subst ArePayments seen maps.0

  kept_now : AreKept now (entries taken) (entries invoices)
  kept_now = subst (λ p. AreKept p (entries taken) (entries invoices)) seen maps.1

  pub AreMaps-purchased : (invoice amount day : ℕ) (auto : Bool) (kept : OnInvoice) (last : Option ℕ)
      → attempt_of now key ≡ None → open_purchases now invoice ≡ pos 0
      → amount ≤ max_purchase → kept.has_open ≡ true → kept.automatic ≡ latest auto day last
      → ((asked : ℕ) → is_since last asked ≡ has_automatic_since now invoice asked)
      → new ≡ insert attempts key (purchase_of invoice amount day auto) → new_taken ≡ taken
      → new_invoices ≡ insert invoices (invoice ∷ []) kept → AreMaps new new_taken new_invoices
  AreMaps-purchased invoice amount day auto kept last fresh idle bounded opens automatics before is is_taken
      is_invoices =
      same_maps (with_attempt now key (purchase_of invoice amount day auto)) (entries taken)
      (put by_words (invoice ∷ []) kept (entries invoices)) new new_taken new_invoices
      (seen-with now attempts new key (purchase_of invoice amount day auto) seen is)
      (ap entries is_taken)
      (entries-with invoices new_invoices (invoice ∷ []) kept is_invoices)
      (ArePayments-purchased now key invoice amount day auto are fresh idle bounded)
      (AreKept-purchased now (entries taken) (entries invoices) key invoice amount day auto kept last kept_now
      fresh idle opens automatics before)

  pub AreMaps-given_back : (of : List ℕ) (attempt : Attempt) (before : ℕ) → IsGiveBack now key of attempt
      → pos before ≡ taken_of now of
      → new ≡ insert attempts key attempt → new_taken ≡ insert taken of (before + attempt.amount)
      → new_invoices ≡ invoices → AreMaps new new_taken new_invoices
  AreMaps-given_back of attempt before gives was is is_taken is_invoices =
      same_maps (with_attempt now key attempt) (put by_words of (before + attempt.amount) (entries taken))
      (entries invoices) new new_taken new_invoices
      (seen-with now attempts new key attempt seen is)
      (entries-with taken new_taken of (before + attempt.amount) is_taken)
      (ap entries is_invoices)
      (subst (λ a. ArePayments (with_attempt now key a)) (sym gives.is)
      (ArePayments-given_back attempt.kind attempt.status now key of gives.purchase attempt.amount attempt.day
      are gives.covered gives.gives (subst (IsSound now) gives.is gives.sound)))
      (subst (λ a. AreKept (with_attempt now key a)
      (put by_words of (before + attempt.amount) (entries taken))
      (entries invoices)) (sym gives.is)
      (AreKept-given_back attempt.kind attempt.status now (entries taken) (entries invoices) key of
      gives.purchase attempt.amount attempt.day before kept_now gives.covered.fresh gives.gives was))

  pub AreMaps-settled_purchase : (old : Attempt) (status : Status) (kept : OnInvoice)
      → attempt_of now key ≡ Some old → is_open old.status ≡ true → old.of ≡ None
      → kept.has_open ≡ is_open status
      → ((asked : ℕ) → is_since kept.automatic asked ≡ has_automatic_since now old.invoice asked)
      → new ≡ insert attempts key (with_status old status) → new_taken ≡ taken
      → new_invoices ≡ insert invoices (old.invoice ∷ []) kept → AreMaps new new_taken new_invoices
  AreMaps-settled_purchase old status kept there opened none opens automatics is is_taken is_invoices =
      same_maps (with_attempt now key (with_status old status)) (entries taken)
      (put by_words (old.invoice ∷ []) kept (entries invoices)) new new_taken new_invoices
      (seen-with now attempts new key (with_status old status) seen is)
      (ap entries is_taken)
      (entries-with invoices new_invoices (old.invoice ∷ []) kept is_invoices)
      (ArePayments-with_status now key old status are there opened)
      (AreKept-settled_purchase now key old status are there opened (entries taken) (entries invoices) kept
      kept_now none opens automatics)

  pub AreMaps-settled_standing : (old : Attempt) (status : Status) (of : List ℕ)
      → attempt_of now key ≡ Some old → is_open old.status ≡ true → old.of ≡ Some of
      → (is_success status || is_open status) ≡ true
      → new ≡ insert attempts key (with_status old status) → new_taken ≡ taken → new_invoices ≡ invoices
      → AreMaps new new_taken new_invoices
  AreMaps-settled_standing old status of there opened some counts is is_taken is_invoices =
      same_maps (with_attempt now key (with_status old status)) (entries taken) (entries invoices) new
      new_taken new_invoices
      (seen-with now attempts new key (with_status old status) seen is)
      (ap entries is_taken)
      (ap entries is_invoices)
      (ArePayments-with_status now key old status are there opened)
      (AreKept-settled_standing now key old status are there opened (entries taken) (entries invoices) of
      kept_now
      some counts)

  pub AreMaps-settled_failed : (old : Attempt) (status : Status) (of : List ℕ) (before : ℕ)
      → attempt_of now key ≡ Some old → is_open old.status ≡ true → old.of ≡ Some of
      → (is_success status || is_open status) ≡ false → pos before ≡ taken_of now of
      → new ≡ insert attempts key (with_status old status) → new_taken ≡ insert taken of (before - old.amount)
      → new_invoices ≡ invoices → AreMaps new new_taken new_invoices
  AreMaps-settled_failed old status of before there opened some fails was is is_taken is_invoices =
      same_maps (with_attempt now key (with_status old status))
      (put by_words of (before - old.amount) (entries taken))
      (entries invoices) new new_taken new_invoices
      (seen-with now attempts new key (with_status old status) seen is)
      (entries-with taken new_taken of (before - old.amount) is_taken)
      (ap entries is_invoices)
      (ArePayments-with_status now key old status are there opened)
      (AreKept-settled_failed now key old status are there opened (entries taken) (entries invoices) of before
      kept_now some fails was)
