-- What is kept beside the attempts stays the sums over all of them.
use Rattle.std.proofs.Common.{◌≡◌, ℕ, sym, ap, subst, ◌∙◌, refl, Bool, true, false, cond, T, List, [], ◌∷◌}
use Rattle.std.proofs.Common.{get_or, Option, Some}
use Rattle.std.proofs.Common.{pos, bytes_eq, ◌==◌, unwrap_or, if◌then◌else◌}
use Rattle.std.specs.Cmp.Lexicographic.{nat_list_cmp_total}
use Rattle.std.specs.FinMap.{find, put}
use Rattle.std.specs.FinMap.Entries.{find-put}
use Rattle.std.proofs.lemmas.Bool.{eq-eqb, false_from_ne_true, eqb-true}
use Rattle.std.proofs.lemmas.Map.Text.{is_eq-slice_cmp}
use Rattle.std.proofs.lemmas.Slice.Eq.{bytes_eq-Decides}
use Rattle.kb_payment.specs.declared.on_invoice.OnInvoice.{OnInvoice}
use Rattle.kb_sharing.specs.Keys.{by_words}
use Rattle.kb_payment.specs.PaymentSums.{PaymentsValue, taken_of, open_purchases, has_automatic_since}
use Rattle.kb_payment.specs.Private.KeptSums.{is_open_on, is_since, automatic_on, AreKept}

-- a number finds itself alone
pub tied_numbers : (asked key : ℕ) → bytes_eq (asked ∷ []) (key ∷ []) ≡ (key == asked)
tied_numbers asked key = by_test (key == asked) refl
  where
    by_test : (same : Bool) → (key == asked) ≡ same → bytes_eq (asked ∷ []) (key ∷ []) ≡ same
    by_test true is =
        (bytes_eq-Decides (asked ∷ []) (key ∷ [])).1 (ap (λ n. n ∷ []) (sym (eqb-true key asked is)))
    by_test false is = false_from_ne_true (bytes_eq (asked ∷ []) (key ∷ [])) (λ tied.
        let one : asked
        ≡ key = ap (λ xs. get_or xs 0 0) ((bytes_eq-Decides (asked ∷ []) (key ∷ [])).0 tied) in
        absurd (subst T (sym (eq-eqb key asked (sym one)) ∙ is) tt))

-- what stands at the key after a value is put in at it, and at every other one
found_key : {X : Type 0} (key asked : List ℕ) (value : X) (entries : List (List ℕ × X))
    → find by_words asked (put by_words key value entries)
    ≡ cond (bytes_eq asked key) (Some value) (find by_words asked entries)
found_key key asked value entries =
    find-put by_words nat_list_cmp_total asked key value entries
    ∙ ap (λ b. cond b (Some value) (find by_words asked entries)) (is_eq-slice_cmp asked key)

found_number : {X : Type 0} (key asked : ℕ) (value : X) (entries : List (List ℕ × X))
    → find by_words (asked ∷ []) (put by_words (key ∷ []) value entries)
    ≡ cond (key == asked) (Some value) (find by_words (asked ∷ []) entries)
found_number key asked value entries =
    found_key (key ∷ []) (asked ∷ []) value entries
    ∙ ap (λ b. cond b (Some value) (find by_words (asked ∷ []) entries)) (tied_numbers asked key)

-- the sums over all attempts are the same
pub record HaveSameSums (old new : PaymentsValue) (invoice : ℕ) : Type 0 where
  pub opens : open_purchases new invoice ≡ open_purchases old invoice
  pub automatics : (day : ℕ) → has_automatic_since new invoice day ≡ has_automatic_since old invoice day

-- only what is kept of one invoice changes
pub AreKept-put_invoice : (old new : PaymentsValue) (taken : List (List ℕ × ℕ))
    (invoices : List (List ℕ × OnInvoice))
    → (invoice : ℕ) (kept : OnInvoice) → AreKept old taken invoices
    → ((key : List ℕ) → taken_of new key ≡ taken_of old key)
    → (if kept.has_open then pos 1 else pos 0) ≡ open_purchases new invoice
    → ((day : ℕ) → is_since kept.automatic day ≡ has_automatic_since new invoice day)
    → ((other : ℕ) → (invoice == other) ≡ false → HaveSameSums old new other)
    → AreKept new taken (put by_words (invoice ∷ []) kept invoices)
AreKept-put_invoice old new taken invoices invoice kept are takes opens automatics others = record {
  taken_sums = λ key. are.taken_sums key ∙ sym (takes key);
  opened = λ asked. subst
      (λ (o : Option OnInvoice). (if is_open_on o then pos 1 else pos 0) ≡ open_purchases new asked)
      (sym (found_number invoice asked kept invoices)) (open_by_test asked (invoice == asked) refl);
  automatic = λ asked day. subst
      (λ (o : Option OnInvoice). is_since (automatic_on o) day ≡ has_automatic_since new asked day)
      (sym (found_number invoice asked kept invoices)) (since_by_test asked day (invoice == asked) refl);
}
  where
    open_by_test : (asked : ℕ) (same : Bool) → (invoice == asked) ≡ same
        → (if is_open_on (cond same (Some kept) (find by_words (asked ∷ []) invoices)) then pos 1 else pos 0)
        ≡ open_purchases new asked
    open_by_test asked true is = opens ∙ ap (open_purchases new) (eqb-true invoice asked is)
    open_by_test asked false is = are.opened asked ∙ sym (others asked is).opens

    since_by_test : (asked day : ℕ) (same : Bool) → (invoice == asked) ≡ same
        → is_since (automatic_on (cond same (Some kept) (find by_words (asked ∷ []) invoices))) day
        ≡ has_automatic_since new asked day
    since_by_test asked day true is =
        automatics day ∙ ap (λ n. has_automatic_since new n day) (eqb-true invoice asked is)
    since_by_test asked day false is = are.automatic asked day ∙ sym ((others asked is).automatics day)

-- only what is taken of one purchase changes
pub AreKept-put_taken : (old new : PaymentsValue) (taken : List (List ℕ × ℕ))
    (invoices : List (List ℕ × OnInvoice))
    → (of : List ℕ) (amount : ℕ) → AreKept old taken invoices
    → pos amount ≡ taken_of new of
    → ((key : List ℕ) → bytes_eq key of ≡ false → taken_of new key ≡ taken_of old key)
    → ((invoice : ℕ) → HaveSameSums old new invoice)
    → AreKept new (put by_words of amount taken) invoices
AreKept-put_taken old new taken invoices of amount are takes others same = record {
  taken_sums = λ key. subst (λ (o : Option ℕ). pos (unwrap_or o 0) ≡ taken_of new key)
      (sym (found_key of key amount taken)) (by_test key (bytes_eq key of) refl);
  opened = λ invoice. are.opened invoice ∙ sym (same invoice).opens;
  automatic = λ invoice day. are.automatic invoice day ∙ sym ((same invoice).automatics day);
}
  where
    by_test : (key : List ℕ) (tied : Bool) → bytes_eq key of ≡ tied
        → pos (unwrap_or (cond tied (Some amount) (find by_words key taken)) 0) ≡ taken_of new key
    by_test key true is = takes ∙ ap (taken_of new) (sym ((bytes_eq-Decides key of).0 is))
    by_test key false is = are.taken_sums key ∙ sym (others key is)

-- nothing of it changes
pub AreKept-same : (old new : PaymentsValue) (taken : List (List ℕ × ℕ))
    (invoices : List (List ℕ × OnInvoice))
    → AreKept old taken invoices → ((key : List ℕ) → taken_of new key ≡ taken_of old key)
    → ((invoice : ℕ) → HaveSameSums old new invoice) → AreKept new taken invoices
AreKept-same old new taken invoices are takes same = record {
  taken_sums = λ key. are.taken_sums key ∙ sym (takes key);
  opened = λ invoice. are.opened invoice ∙ sym (same invoice).opens;
  automatic = λ invoice day. are.automatic invoice day ∙ sym ((same invoice).automatics day);
}
