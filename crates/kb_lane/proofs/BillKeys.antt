-- The key of a bill is a name.
use Rattle.std.proofs.Common.{◌≡◌, ℕ, zero, suc, EachIndex, slice_index, ◌+◌, ◌<◌, ◌≤◌, Bool, true, ◌&&◌}
use Rattle.std.proofs.Common.{List, [], ◌∷◌, ◌++◌, length, codes, decimal, nat_lt, nat_le, IsTrue, refl, sym}
use Rattle.std.proofs.Common.{ap, ap₂, subst, ◌∙◌, arith, length-append}
use Rattle.std.proofs.lemmas.Bool.{and_parts}
use Rattle.std.proofs.lemmas.Bool.Decides.{nat_tests}
use Rattle.std.proofs.lemmas.Fmt.{decimal_digit}
use Rattle.std.proofs.lemmas.List.Folds.{list_all-append}
use Rattle.std.specs.Fmt.{IsBoundedDecimal}
use Rattle.std.specs.List.{list_all}
use Rattle.kb_days.specs.Names.{IsName, is_name_byte}
use Rattle.kb_days.specs.DateText.{date_text}
use Rattle.kb_book.specs.Edits.{auto_key}
use Rattle.kb_account.proofs.AutoKeyNames.{key_named}
use Rattle.kb_lane.specs.Bills.{bill_key}

-- the number naught has a decimal
naught : IsBoundedDecimal 0
naught =
    let is : decimal 0 ≡ 48 ∷ [] = decimal_digit 0 (omega arith) in
    let one : length (decimal 0) ≡ 1 = ap length is in
    record {
      nonempty = omega (arith, one);
      len_u64 = omega (arith, one);
      len_u32 = λ low. omega (arith, one);
      len_u16 = λ low. omega (arith, one);
      len_u8 = λ low. omega (arith, one);
      all_digits = subst AreDigits (sym is) digit;
    }
  where
    AreDigits : List ℕ → Type 0
    AreDigits text = EachIndex text (λ k. (48 ≤ slice_index text k) × (slice_index text k ≤ 57))

    digit : AreDigits (48 ∷ [])
    digit zero low = (omega arith, omega arith)
    digit (suc k) low = absurd (omega (arith, low))

-- a date is part of the key of an automatic payment, which is a name
module _ (day : ℕ) where
  payment-named : IsName (auto_key 0 day)
  payment-named = key_named (auto_key 0 day) 0 day (omega arith) naught refl

  abbrev before : List ℕ
  before = codes "auto-" ++ decimal 0 ++ codes "-"

  abbrev size-test : Bool
  size-test = nat_lt 0 (length (auto_key 0 day)) && nat_le (length (auto_key 0 day)) 64

  parts : (size-test ≡ true) × (list_all is_name_byte (auto_key 0 day) ≡ true)
  parts = and_parts size-test (list_all is_name_byte (auto_key 0 day)) payment-named

  date-all : list_all is_name_byte (date_text day) ≡ true
  date-all = (and_parts (list_all is_name_byte before) (list_all is_name_byte (date_text day))
      (sym (list_all-append is_name_byte before (date_text day)) ∙ parts.1)).1

  date-short : length (date_text day) ≤ 57
  date-short =
      let few : nat_le (length (auto_key 0 day)) 64 ≡ true
      = (and_parts (nat_lt 0 (length (auto_key 0 day))) (nat_le (length (auto_key 0 day)) 64) parts.0).1 in
      let least : length (auto_key 0 day) ≤ 64 = grind (arith, nat_tests, few) in
      omega (
        arith,
        least,
        naught.nonempty,
        length-append before (date_text day),
        length-append (codes "auto-" ++ decimal 0) (codes "-"),
        length-append (codes "auto-") (decimal 0),
      )

  pub bill_named : (bytes : List ℕ) → bytes ≡ bill_key day → IsName bytes
  bill_named bytes is = subst (λ (l : List ℕ). IsName l) (sym is) named
    where
      size : length (bill_key day) ≡ 5 + length (date_text day)
      size = length-append (codes "bill-") (date_text day)

      first : nat_lt 0 (length (bill_key day)) ≡ true
      first = let some : 0 < length (bill_key day) = omega (arith, size) in grind (arith, nat_tests, some)

      last : nat_le (length (bill_key day)) 64 ≡ true
      last = let few : length (bill_key day) ≤ 64 = omega (arith, size, date-short) in grind
          (arith, nat_tests, few)

      all : list_all is_name_byte (bill_key day) ≡ true
      all =
          let prefix : list_all is_name_byte (codes "bill-") ≡ true = refl in
          list_all-append is_name_byte (codes "bill-") (date_text day) ∙ ap₂ (λ a b. a && b) prefix date-all

      named : IsName (bill_key day)
      named = subst (λ (test : Bool). IsTrue test) (sym
          (ap₂ (λ a b. a && b) (ap₂ (λ a b. a && b) first last) all)) refl
