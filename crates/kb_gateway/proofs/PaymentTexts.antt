-- Two payments have different texts, so that no two are given one id by their text.
use Rattle.std.proofs.Common.{◌≡◌, ℕ, true, ◌&&◌, T, List, [], ◌∷◌, ◌++◌, ap, sym, subst, ◌∙◌, refl, get_or}
use Rattle.std.proofs.Common.{drop, append_assoc, nat_lt, nat_le, length}
use Rattle.std.specs.List.{list_all}
use Rattle.std.proofs.lemmas.Bool.{and_parts}
use Rattle.kb_days.specs.Names.{is_name_byte, IsName}
use Rattle.kb_gateway.specs.GatewayIds.{payment_text}

-- a colon is in no name
no_colon : (byte : ℕ) → is_name_byte byte ≡ true → 58 ≡ byte → ⊥
no_colon byte is same = subst T (sym (ap is_name_byte same ∙ is)) tt

-- so the first colon ends the account
split : (account key other_account other_key : List ℕ) → list_all is_name_byte account ≡ true
    → list_all is_name_byte other_account ≡ true → account ++ 58 ∷ key ≡ other_account ++ 58 ∷ other_key
    → (account ≡ other_account) × (key ≡ other_key)
split [] key [] other_key is other same = (refl, ap (drop 1) same)
split [] key (byte ∷ others) other_key is other same =
    absurd (no_colon byte (and_parts (is_name_byte byte) (list_all is_name_byte others) other).0
    (ap (λ xs. get_or xs 0 0) same))
split (byte ∷ bytes) key [] other_key is other same =
    absurd (no_colon byte (and_parts (is_name_byte byte) (list_all is_name_byte bytes) is).0
    (sym (ap (λ xs. get_or xs 0 0) same)))
split (byte ∷ bytes) key (other_byte ∷ others) other_key is other same =
    let later = split bytes key others other_key (and_parts (is_name_byte byte)
    (list_all is_name_byte bytes) is).1
    (and_parts (is_name_byte other_byte) (list_all is_name_byte others) other).1 (ap (drop 1) same) in
    ((λ i. ap (λ xs. get_or xs 0 0) same i ∷ later.0 i), later.1)

name_bytes : (name : List ℕ) → IsName name → list_all is_name_byte name ≡ true
name_bytes name is =
    (and_parts (nat_lt 0 (length name) && nat_le (length name) 64) (list_all is_name_byte name) is).1

pub payment_text-apart : (account key other_account other_key : List ℕ) → IsName account
    → IsName other_account
    → payment_text account key ≡ payment_text other_account other_key
    → (account ≡ other_account) × (key ≡ other_key)
payment_text-apart account key other_account other_key is other same =
    split account key other_account other_key (name_bytes account is) (name_bytes other_account other)
    (sym (append_assoc account (58 ∷ []) key) ∙ ap (drop 11) same
    ∙ append_assoc other_account (58 ∷ []) other_key)
