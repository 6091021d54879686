-- The prices of a table, currency by currency.
use Rattle.std.proofs.Common.{◌≡◌, ℕ, Bool, true, false, List, [], ◌∷◌, ◌++◌, Option, Some, None, Ok, Err}
use Rattle.std.proofs.Common.{append_assoc, refl, ap}
use Rattle.toml.specs.Data.{Data, Members, member}
use Rattle.kb_catalog.specs.declared.phase.Price.{Price}
use Rattle.kb_catalog_text.specs.declared.key_fault.KeyFault.{KeyFault}
use Rattle.kb_catalog_text.specs.Kinds.{amount_in}
use Rattle.kb_catalog_text.specs.Reads.{Read, and_then, first_failing, keys_read, read_as}
use Rattle.kb_catalog_text.specs.CatalogEntries.{amounts_in}

-- where all keys are known, none fails
pub none_failing : (known : List ℕ → Bool) (entries : Members) → keys_read known entries ≡ Ok tt
    → first_failing known entries ≡ None
unfolding keys_read
none_failing known entries read = by_key (first_failing known entries) refl
  where
    by_key : (key : Option (List ℕ)) → first_failing known entries ≡ key → first_failing known entries ≡ None
    by_key None is = is
    by_key (Some key) is = let other = rw is at read in absurd (cc)

-- where no key fails, the first one doesn't, and none of the others does
pub first_failing-none : (known : List ℕ → Bool) (key : List ℕ) (value : Data) (later : Members)
    → first_failing known (member key value later) ≡ None → (known key ≡ true)
    × (first_failing known later ≡ None)
unfolding first_failing
first_failing-none known key value later none = by_test (known key) refl
  where
    by_test : (passes : Bool) → known key ≡ passes → (known key ≡ true) × (first_failing known later ≡ None)
    by_test true is = (is, rw is at none)
    by_test false is = let other = rw is at none in absurd (cc)

-- what is read with nothing before it
pub none_before : (read : Read (List Price)) → and_then read (λ rest. Ok ([] ++ rest)) ≡ read
none_before (Ok prices) = refl
none_before (Err fault) = refl

-- the prices that are read before the others
pub amounts_in-more : (key : List ℕ) (value : Data) (later : Members) (before : List Price) (amount : ℕ)
    → read_as amount_in key value ≡ Ok amount
    → and_then (amounts_in (member key value later)) (λ rest. Ok (before ++ rest))
    ≡ and_then (amounts_in later) (λ rest. Ok ((before ++ record { currency = key; amount = amount } ∷ [])
    ++ rest))
unfolding amounts_in
amounts_in-more key value later before amount is = rw is (by_rest (amounts_in later))
  where
    by_rest : (rest : Read (List Price))
        → and_then (and_then rest (λ rest. Ok (record { currency = key; amount = amount } ∷ rest)))
        (λ rest. Ok (before ++ rest))
        ≡ and_then rest (λ rest. Ok ((before ++ record { currency = key; amount = amount } ∷ []) ++ rest))
    by_rest (Ok rest) = ap Ok (rw (append_assoc before (record { currency = key; amount = amount } ∷ []) rest)
        refl)
    by_rest (Err fault) = refl

-- the first price that isn't read
pub amounts_in-fault : (key : List ℕ) (value : Data) (later : Members) (before : List Price)
    (fault : KeyFault) → read_as amount_in key value ≡ Err fault
    → and_then (amounts_in (member key value later)) (λ rest. Ok (before ++ rest)) ≡ Err fault
unfolding amounts_in
amounts_in-fault key value later before fault is = rw is refl
