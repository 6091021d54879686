-- The payments that are to be looked up are open, none of them is there twice, and the outbox has none of
-- them.
use Rattle.std.proofs.Common.{◌≡◌, ℕ, arith, Bool, true, false, true≢false, not, ◌||◌, bytes_eq, List, []}
use Rattle.std.proofs.Common.{◌∷◌, map, flat_map, All, AllPairs, Option, Some, None, refl, sym, ap, ◌∙◌}
use Rattle.std.specs.List.{list_any}
use Rattle.std.proofs.lemmas.Bool.{and_from}
use Rattle.std.proofs.lemmas.List.Elements.{All-nil, All-cons, All-head, All-tail, All-append, All-map}
use Rattle.std.proofs.lemmas.List.Elements.{All-filter, filter_passes}
use Rattle.std.proofs.lemmas.List.Kept.{AllPairs-filter, AllPairs-cons}
use Rattle.std.proofs.lemmas.Slice.Eq.{bytes_eq-Decides}
use Rattle.kb_payment.specs.PaymentSums.{open_keys, IsOpenKey}
use Rattle.kb_gateway.specs.declared.order.Asked.{Asked}
use Rattle.kb_book.specs.Books.{BookValue}
use Rattle.kb_machine.specs.Machines.{MachineValue, book_of}
use Rattle.kb_lane.specs.declared.work.Work.{Work}
use Rattle.kb_lane.specs.declared.work.Work.TheVariants.{Ask, Check}
use Rattle.kb_lane.specs.Asking.{asked_for, asks_in, attempt_asked, AreApart}
use Rattle.kb_lane.specs.Lanes.{LaneValue, machine_of}
use Rattle.kb_lane.specs.LookingUp.{open_in, open_payments, to_look_up, is_ask}
use Rattle.kb_lane.specs.Private.Looking.{IsOpen, IsBeside, AreOpenIn, AreToLookUp}
use Rattle.kb_lane.proofs.Pairs.{pairs_append, pairs_head, pairs_tail}

abbrev Other : Asked → Asked → Type 0
Other one other = one ≡ other → ⊥

-- each is of its account
own-account : (account : List ℕ) (found : Option BookValue)
    → All (λ (one : Asked). one.account ≡ account) (open_in account found)
own-account account None = All-nil (λ (one : Asked). one.account ≡ account)
own-account account (Some book) = All-map (λ (one : Asked). one.account ≡ account)
    (λ key. asked_for (account, key)) (open_keys book.payments) (λ k d inside. refl)

module _ (machine : MachineValue) where
  abbrev found : List ℕ → List Asked
  found account = open_in account (book_of machine account)

  opened-all : (names : List (List ℕ)) → All (AreOpenIn machine) names
      → All (λ (one : Asked). IsOpen (attempt_asked machine one)) (flat_map found names)
  opened-all [] each = All-nil (λ (one : Asked). IsOpen (attempt_asked machine one))
  opened-all (name ∷ later) each =
      All-append (λ (one : Asked). IsOpen (attempt_asked machine one)) (found name) (flat_map found later)
      (All-head (AreOpenIn machine) name later each).0
      (opened-all later (All-tail (AreOpenIn machine) name later each))

  -- those of other accounts are of other accounts
  other-accounts : (account : List ℕ) (names : List (List ℕ))
      → All (λ (name : List ℕ). account ≡ name → ⊥) names
      → All (λ (one : Asked). account ≡ one.account → ⊥) (flat_map found names)
  other-accounts account [] others = All-nil (λ (one : Asked). account ≡ one.account → ⊥)
  other-accounts account (name ∷ later) others =
      All-append (λ (one : Asked). account ≡ one.account → ⊥) (found name) (flat_map found later)
      (λ k d inside same. All-head (λ (name : List ℕ). account ≡ name → ⊥) name later others
      (same ∙ own-account name (book_of machine name) k d inside))
      (other-accounts account later (All-tail (λ (name : List ℕ). account ≡ name → ⊥) name later others))

  apart-all : (names : List (List ℕ)) → AllPairs (λ (one other : List ℕ). one ≡ other → ⊥) names
      → All (AreOpenIn machine) names → AreApart (flat_map found names)
  apart-all [] apart each = λ i j d below inside. absurd (omega (arith, below, inside))
  apart-all (name ∷ later) apart each =
      pairs_append Other (found name) (flat_map found later) (All-head (AreOpenIn machine) name later each).1
      (apart-all later (pairs_tail (λ (one other : List ℕ). one ≡ other → ⊥) name later apart)
      (All-tail (AreOpenIn machine) name later each))
      (λ k d inside i e within same. other-accounts name later
      (pairs_head (λ (one other : List ℕ). one ≡ other → ⊥) name later apart) i e within
      (sym (own-account name (book_of machine name) k d inside) ∙ ap (λ (one : Asked). one.account) same))

-- what no entry of an outbox asks for is none of what it asks for
beside-one : (one : Asked) (outbox : List Work) → list_any (is_ask one) outbox ≡ false
    → IsBeside (asks_in outbox) one
beside-one one [] none = All-nil (λ (other : Asked). other ≡ one → ⊥)
beside-one one (Check account ∷ later) none = beside-one one later none
beside-one one (Ask account key ∷ later) none =
    All-cons (λ (other : Asked). other ≡ one → ⊥) (record { account = account; key = key }) (asks_in later)
    (λ same. true≢false (sym (and_from (bytes_eq account one.account) (bytes_eq key one.key)
    ((bytes_eq-Decides account one.account).1 (ap (λ (it : Asked). it.account) same))
    ((bytes_eq-Decides key one.key).1 (ap (λ (it : Asked). it.key) same)))
    ∙ either-false (is_ask one (Ask account key)) (list_any (is_ask one) later) none))
    (beside-one one later (other-false (is_ask one (Ask account key)) (list_any (is_ask one) later) none))
  where
    either-false : (this that : Bool) → (this || that) ≡ false → this ≡ false
    either-false true that or = or
    either-false false that or = refl

    other-false : (this that : Bool) → (this || that) ≡ false → that ≡ false
    other-false true that or = absurd (true≢false or)
    other-false false that or = or

not-false : (test : Bool) → not test ≡ true → test ≡ false
not-false true is = absurd (true≢false (sym is))
not-false false is = refl

module _ {D G : Type 0} (lane : LaneValue D G) where
  abbrev test : Asked → Bool
  test one = not (list_any (is_ask one) lane.outbox)

  pub are_to_look_up : AllPairs (λ (one other : List ℕ). one ≡ other → ⊥)
      (map (λ (entry : List ℕ × BookValue). entry.0) (machine_of lane).books)
      → All (AreOpenIn (machine_of lane)) (map (λ (entry : List ℕ × BookValue). entry.0)
      (machine_of lane).books)
      → AreToLookUp lane (to_look_up lane)
  are_to_look_up apart each = record {
    opened = All-filter test (λ (one : Asked). IsOpen (attempt_asked (machine_of lane) one))
        (open_payments (machine_of lane)) (opened-all (machine_of lane) _ each);
    apart = AllPairs-filter Other test (open_payments (machine_of lane))
        (apart-all (machine_of lane) _ apart each);
    beside = λ k d inside. beside-one _ lane.outbox
        (not-false _ (filter_passes test (open_payments (machine_of lane)) k d inside));
  }

-- what a book tells of its open keys holds of the open payments of its account
open-key : (machine : MachineValue) (account : List ℕ) (book : BookValue) (key : List ℕ)
    → book_of machine account ≡ Some book → IsOpenKey book.payments key
    → IsOpen (attempt_asked machine (asked_for (account, key)))
open-key machine account book key there is = rw (there, is.1) is.2

pub are_open_in : (machine : MachineValue) (account : List ℕ) (book : BookValue)
    → book_of machine account ≡ Some book → All (IsOpenKey book.payments) (open_keys book.payments)
    → AllPairs (λ (one other : List ℕ). one ≡ other → ⊥) (open_keys book.payments)
    → AreOpenIn machine account
are_open_in machine account book there each apart = rw there (
  All-map (λ (one : Asked). IsOpen (attempt_asked machine one)) (λ key. asked_for (account, key))
      (open_keys book.payments) (λ k d inside. open-key machine account book _ there (each k d inside)),
  map-apart (open_keys book.payments) apart,
)
  where
    map-apart : (keys : List (List ℕ)) → AllPairs (λ (one other : List ℕ). one ≡ other → ⊥) keys
        → AreApart (map (λ key. asked_for (account, key)) keys)
    map-apart [] apart = λ i j d below inside. absurd (omega (arith, below, inside))
    map-apart (key ∷ later) apart =
        AllPairs-cons Other (asked_for (account, key)) (map (λ key. asked_for (account, key)) later)
        (All-map (Other (asked_for (account, key))) (λ key. asked_for (account, key)) later
        (λ k d inside same. pairs_head (λ (one other : List ℕ). one ≡ other → ⊥) key later apart k d inside
        (ap (λ (it : Asked). it.key) same)))
        (map-apart later (pairs_tail (λ (one other : List ℕ). one ≡ other → ⊥) key later apart))

pub none_open_in : (machine : MachineValue) (account : List ℕ) → book_of machine account ≡ None
    → AreOpenIn machine account
none_open_in machine account none = rw none (
  All-nil (λ (one : Asked). IsOpen (attempt_asked machine one)),
  λ i j d below inside. absurd (omega (arith, below, inside)),
)
