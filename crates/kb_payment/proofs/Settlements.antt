-- A settlement of an open attempt leaves payments as they always are.
use Rattle.std.proofs.Common.{◌≡◌, ℕ, ◌-◌, sym, ap, subst, ◌∙◌, refl, Bool, true, false, T, List, [], ◌∷◌}
use Rattle.std.proofs.Common.{Option, None, Some}
use Rattle.std.proofs.Common.{pos, ◌+ℤ◌, ◌≤ℤ◌, ◌≤◌, is_some, ◌&&◌, ◌||◌, arith, IsSomeAnd, ◌==◌, bytes_eq}
use Rattle.std.proofs.Common.{if◌then◌else◌, nat_le}
use Rattle.std.specs.Cmp.Lexicographic.{nat_list_cmp_total}
use Rattle.std.specs.FinMap.{put}
use Rattle.std.proofs.lemmas.Int.{ints}
use Rattle.std.proofs.lemmas.Bool.{eq-eqb, and_right}
use Rattle.std.proofs.lemmas.Slice.Eq.{bytes_eq-Decides}
use Rattle.kb_payment.specs.declared.attempt.Attempt.{Attempt}
use Rattle.kb_payment.specs.declared.attempt.Kind.{Kind}
use Rattle.kb_payment.specs.declared.attempt.Kind.TheVariants.{Purchase, Refund, Chargeback}
use Rattle.kb_payment.specs.declared.attempt.Status.{Status}
use Rattle.kb_payment.specs.declared.attempt.Status.TheVariants.{Unknown, Pending, Success, PaymentFailure}
use Rattle.kb_payment.specs.declared.attempt.Status.TheVariants.{PluginFailure}
use Rattle.kb_payment.specs.declared.on_invoice.OnInvoice.{OnInvoice}
use Rattle.kb_payment.specs.Attempts.{is_open, is_success, is_purchase, is_paid_purchase, names, taken_by}
use Rattle.kb_payment.specs.Attempts.{open_by, is_automatic, with_status}
use Rattle.kb_sharing.specs.Keys.{by_words}
use Rattle.kb_payment.specs.PaymentSums.{PaymentsValue, attempt_of, with_attempt, taken_of, open_purchases}
use Rattle.kb_payment.specs.PaymentSums.{has_automatic_since}
use Rattle.kb_payment.specs.SoundPayments.{IsSoundAs, IsSound, ArePayments}
use Rattle.kb_payment.specs.Private.KeptSums.{is_since, AreKept}
use Rattle.kb_payment.proofs.PutEntries.{same_keys, All-find, list_any-put_old}
use Rattle.kb_payment.proofs.PutSums.{sum-put_old, weight-found}
use Rattle.kb_payment.proofs.TakenSums.{open_by-low, taken_by-low}
use Rattle.kb_payment.proofs.KeptPayments.{ArePayments-settled}
use Rattle.kb_payment.proofs.KeptBeside.{HaveSameSums, AreKept-same, AreKept-put_taken, AreKept-put_invoice}

-- an open attempt is no success
pub open_unpaid : (status : Status) → is_open status ≡ true → is_success status ≡ false
open_unpaid Unknown is = refl
open_unpaid Pending is = refl
open_unpaid Success is = absurd (subst T (sym is) tt)
open_unpaid PaymentFailure is = refl
open_unpaid PluginFailure is = refl

unpaid_of_open : (attempt : Attempt) → is_open attempt.status ≡ true → is_paid_purchase attempt ≡ false
unpaid_of_open attempt is = ap (is_purchase attempt.kind &&◌) (open_unpaid attempt.status is)
    ∙ and_right (is_purchase attempt.kind) false refl

-- it is sound with any status, since a chargeback is never open
sound_as : (kind : Kind) (payments : PaymentsValue) (attempt : Attempt) (status : Status)
    → is_open attempt.status ≡ true
    → IsSoundAs kind payments attempt → IsSoundAs kind payments (with_status attempt status)
sound_as Purchase payments attempt status is sound = sound
sound_as Refund payments attempt status is sound = sound
sound_as Chargeback payments attempt status is sound =
    absurd (subst T (sym (ap is_open (sym sound.1) ∙ is)) tt)

-- it is among the attempts, so it is sound
pub sound_found : (payments : PaymentsValue) (key : List ℕ) (old : Attempt) → ArePayments payments
    → attempt_of payments key ≡ Some old → IsSound payments old
sound_found payments key old are there =
    All-find same_keys (λ (entry : List ℕ × Attempt). IsSound payments entry.1)
    key old payments are.sound there

-- an open attempt counts whatever it becomes, so it takes and holds open no more than before
counts_open : (status : Status) → is_open status ≡ true → (is_success status || is_open status) ≡ true
counts_open Unknown is = refl
counts_open Pending is = refl
counts_open Success is = refl
counts_open PaymentFailure is = absurd (subst T (sym is) tt)
counts_open PluginFailure is = absurd (subst T (sym is) tt)

takes_less : (named counts : Bool) (amount : ℕ)
    → (if named && counts then pos amount else pos 0) ≤ℤ (if named && true then pos amount else pos 0)
takes_less true true amount = omega (arith, ints)
takes_less true false amount = omega (arith, ints)
takes_less false counts amount = omega (arith, ints)

taken_by-settled : (of : List ℕ) (attempt : Attempt) (status : Status) → is_open attempt.status ≡ true
    → taken_by of (with_status attempt status) ≤ℤ taken_by of attempt
taken_by-settled of attempt status is =
    subst (λ b. taken_by of (with_status attempt status)
    ≤ℤ (if names of attempt.of && b then pos attempt.amount else pos 0))
    (sym (counts_open attempt.status is))
    (takes_less (names of attempt.of) (is_success status || is_open status) attempt.amount)

opens_less : (here purchase opens : Bool)
    → (if here && (purchase && opens) then pos 1 else pos 0)
    ≤ℤ (if here && (purchase && true) then pos 1 else pos 0)
opens_less true true true = omega (arith, ints)
opens_less true true false = omega (arith, ints)
opens_less true false opens = omega (arith, ints)
opens_less false purchase opens = omega (arith, ints)

open_by-settled : (invoice : ℕ) (attempt : Attempt) (status : Status) → is_open attempt.status ≡ true
    → open_by invoice (with_status attempt status) ≤ℤ open_by invoice attempt
open_by-settled invoice attempt status is =
    subst (λ b. open_by invoice (with_status attempt status)
    ≤ℤ (if (attempt.invoice == invoice) && (is_purchase attempt.kind && b) then pos 1 else pos 0))
    (sym is) (opens_less (attempt.invoice == invoice) (is_purchase attempt.kind) (is_open status))

-- payments stay what they always are
pub ArePayments-with_status : (payments : PaymentsValue) (key : List ℕ) (old : Attempt) (status : Status)
    → ArePayments payments → attempt_of payments key ≡ Some old → is_open old.status ≡ true
    → ArePayments (with_attempt payments key (with_status old status))
ArePayments-with_status payments key old status are there is =
    ArePayments-settled payments key old (with_status old status) are there (unpaid_of_open old is)
    (sound_as old.kind payments old status is (sound_found payments key old are there)) refl
    (λ of. taken_by-settled of old status is)
    (λ invoice. open_by-settled invoice old status is)

-- a purchase names none, and a refund or a chargeback names one
pub purchase_named : (kind : Kind) (payments : PaymentsValue) (attempt : Attempt)
    → IsSoundAs kind payments attempt
    → attempt.of ≡ None → is_purchase kind ≡ true
purchase_named Purchase payments attempt sound none = refl
purchase_named Refund payments attempt sound none =
    absurd (subst (λ (o : Option (List ℕ)). IsSomeAnd o (λ key. IsSomeAnd (attempt_of payments key) (λ found.
    (is_paid_purchase found ≡ true) × (found.invoice ≡ attempt.invoice)))) none sound)
purchase_named Chargeback payments attempt sound none =
    absurd (subst (λ (o : Option (List ℕ)). IsSomeAnd o (λ key. IsSomeAnd (attempt_of payments key) (λ found.
    (is_paid_purchase found ≡ true) × (found.invoice ≡ attempt.invoice)))) none sound.0)

pub give_back_named : (kind : Kind) (payments : PaymentsValue) (attempt : Attempt) (of : List ℕ)
    → IsSoundAs kind payments attempt → attempt.of ≡ Some of → is_purchase kind ≡ false
give_back_named Purchase payments attempt of sound some =
    absurd (subst (λ o. T (is_some o)) (sym some ∙ sound.0) tt)
give_back_named Refund payments attempt of sound some = refl
give_back_named Chargeback payments attempt of sound some = refl

module _ (payments : PaymentsValue) (key : List ℕ) (old : Attempt) (status : Status)
    (are : ArePayments payments)
    (there : attempt_of payments key ≡ Some old) (opened : is_open old.status ≡ true) where
  -- sums over all attempts after the settlement
  pub taken_of-settled : (of : List ℕ) → taken_of (with_attempt payments key (with_status old status)) of
      +ℤ taken_by of old ≡ taken_of payments of +ℤ taken_by of (with_status old status)
  taken_of-settled of =
      sum-put_old by_words (taken_by of) nat_list_cmp_total same_keys key (with_status old status) old
      payments are.sorted there

  pub open_purchases-settled : (invoice : ℕ)
      → open_purchases (with_attempt payments key (with_status old status)) invoice
      +ℤ open_by invoice old ≡ open_purchases payments invoice +ℤ open_by invoice (with_status old status)
  open_purchases-settled invoice =
      sum-put_old by_words (open_by invoice) nat_list_cmp_total same_keys key (with_status old status) old
      payments are.sorted there

  automatics-settled : (invoice asked : ℕ)
      → has_automatic_since (with_attempt payments key (with_status old status)) invoice asked
      ≡ has_automatic_since payments invoice asked
  automatics-settled invoice asked =
      list_any-put_old by_words (λ (a : Attempt). is_automatic invoice a && nat_le asked a.day)
      nat_list_cmp_total key
      (with_status old status) old payments are.sorted there refl

  -- of a purchase: what is kept of its invoice says whether it is open still
  pub AreKept-settled_purchase : (taken : List (List ℕ × ℕ)) (invoices : List (List ℕ × OnInvoice))
      (kept : OnInvoice)
      → AreKept payments taken invoices → old.of ≡ None → kept.has_open ≡ is_open status
      → ((asked : ℕ) → is_since kept.automatic asked ≡ has_automatic_since payments old.invoice asked)
      → AreKept (with_attempt payments key (with_status old status)) taken
      (put by_words (old.invoice ∷ []) kept invoices)
  AreKept-settled_purchase taken invoices kept is none opens automatics =
      AreKept-put_invoice payments (with_attempt payments key (with_status old status)) taken invoices
      old.invoice kept is
      takes (ap (λ b. if b then pos 1 else pos 0) opens ∙ sym here)
      (λ asked. automatics asked ∙ sym (automatics-settled old.invoice asked))
      others
    where
      purchase : is_purchase old.kind ≡ true
      purchase = purchase_named old.kind payments old (sound_found payments key old are there) none

      untaken : (of : List ℕ) (s : Status) → taken_by of (with_status old s) ≡ pos 0
      untaken of s =
          ap (λ o. if names of o && (is_success s || is_open s) then pos old.amount else pos 0) none

      takes : (of : List ℕ)
          → taken_of (with_attempt payments key (with_status old status)) of ≡ taken_of payments of
      takes of =
          let sums = taken_of-settled of in
          let before = untaken of old.status in
          let after = untaken of status in
          omega (arith, ints)

      opens_at : (invoice : ℕ) (s : Status) (same : Bool) → (old.invoice == invoice) ≡ same
          → open_by invoice (with_status old s) ≡ (if same && is_open s then pos 1 else pos 0)
      opens_at invoice s same at =
          ap (λ b. if b && (is_purchase old.kind && is_open s) then pos 1 else pos 0) at
          ∙ ap (λ b. if same && (b && is_open s) then pos 1 else pos 0) purchase

      here : open_purchases (with_attempt payments key (with_status old status)) old.invoice
          ≡ (if is_open status then pos 1 else pos 0)
      here =
          let same = eq-eqb old.invoice old.invoice refl in
          let sums = open_purchases-settled old.invoice in
          let most = are.single old.invoice in
          let there_one =
          weight-found by_words (open_by old.invoice) (open_by-low old.invoice) key old payments there in
          let before = opens_at old.invoice old.status true same
          ∙ ap (λ b. if b then pos 1 else pos 0) opened in
          let after = opens_at old.invoice status true same in
          omega (arith, ints)

      others : (invoice : ℕ) → (old.invoice == invoice) ≡ false
          → HaveSameSums payments (with_attempt payments key (with_status old status)) invoice
      others invoice other = record {
        opens =
            let sums = open_purchases-settled invoice in
            let before = opens_at invoice old.status false other in
            let after = opens_at invoice status false other in
            omega (arith, ints);
        automatics = automatics-settled invoice;
      }

  -- no open purchase begins or ends with a refund or a chargeback
  give_back_sums : (of : List ℕ) → old.of ≡ Some of → (invoice : ℕ)
      → HaveSameSums payments (with_attempt payments key (with_status old status)) invoice
  give_back_sums of some invoice = record {
    opens =
        let sums = open_purchases-settled invoice in
        let before = none old.status in
        let after = none status in
        omega (arith, ints);
    automatics = automatics-settled invoice;
  }
    where
      none : (s : Status) → open_by invoice (with_status old s) ≡ pos 0
      none s =
          ap (λ b. if (old.invoice == invoice) && (b && is_open s) then pos 1 else pos 0)
          (give_back_named old.kind payments old of (sound_found payments key old are there) some)
          ∙ ap (λ b. if b then pos 1 else pos 0) (and_right (old.invoice == invoice) false refl)

  -- of a refund that has not failed: nothing that is kept changes
  pub AreKept-settled_standing : (taken : List (List ℕ × ℕ)) (invoices : List (List ℕ × OnInvoice))
      (of : List ℕ)
      → AreKept payments taken invoices → old.of ≡ Some of → (is_success status || is_open status) ≡ true
      → AreKept (with_attempt payments key (with_status old status)) taken invoices
  AreKept-settled_standing taken invoices of is some counts =
      AreKept-same payments (with_attempt payments key (with_status old status)) taken invoices is
      (λ asked.
      let sums = taken_of-settled asked in
      let same = ap (λ b. if names asked old.of && b then pos old.amount else pos 0)
      (counts ∙ sym (counts_open old.status opened)) in
      omega (arith, ints))
      (give_back_sums of some)

  -- of one that has failed: its amount may be given back again
  pub AreKept-settled_failed : (taken : List (List ℕ × ℕ)) (invoices : List (List ℕ × OnInvoice))
      (of : List ℕ) (before : ℕ)
      → AreKept payments taken invoices → old.of ≡ Some of → (is_success status || is_open status) ≡ false
      → pos before ≡ taken_of payments of
      → AreKept (with_attempt payments key (with_status old status))
      (put by_words of (before - old.amount) taken) invoices
  AreKept-settled_failed taken invoices of before is some fails was =
      AreKept-put_taken payments (with_attempt payments key (with_status old status)) taken invoices of
      (before - old.amount) is
      (let sums = taken_of-settled of in
      let most = weight-found by_words (taken_by of) (taken_by-low of) key old payments there in
      let now = took of old.status
      ∙ ap (λ b. if bytes_eq of of && b then pos old.amount else pos 0) (counts_open old.status opened)
      ∙ ap (λ b. if b && true then pos old.amount else pos 0) ((bytes_eq-Decides of of).1 refl) in
      let later = failed of in
      omega (arith, ints))
      (λ asked other.
      let sums = taken_of-settled asked in
      let now = took asked old.status
      ∙ ap (λ b. if b && (is_success old.status || is_open old.status) then pos old.amount else pos 0)
      other in
      let later = failed asked in
      omega (arith, ints))
      (give_back_sums of some)
    where
      took : (asked : List ℕ) (s : Status) → taken_by asked (with_status old s)
          ≡ (if bytes_eq asked of && (is_success s || is_open s) then pos old.amount else pos 0)
      took asked s =
          ap (λ o. if names asked o && (is_success s || is_open s) then pos old.amount else pos 0) some

      failed : (asked : List ℕ) → taken_by asked (with_status old status) ≡ pos 0
      failed asked =
          ap (λ b. if names asked old.of && b then pos old.amount else pos 0) fails
          ∙ ap (λ b. if b then pos old.amount else pos 0) (and_right (names asked old.of) false refl)

  -- the amount that is given free was taken
  pub taken-enough : (of : List ℕ) (before : ℕ) → old.of ≡ Some of → pos before ≡ taken_of payments of
      → old.amount ≤ before
  taken-enough of before some was =
      let most = weight-found by_words (taken_by of) (taken_by-low of) key old payments there in
      let now = ap
      (λ o. if names of o && (is_success old.status || is_open old.status) then pos old.amount else pos
      0) some
      ∙ ap (λ b. if bytes_eq of of && b then pos old.amount else pos 0) (counts_open old.status opened)
      ∙ ap (λ b. if b && true then pos old.amount else pos 0) ((bytes_eq-Decides of of).1 refl) in
      omega (arith, ints)
