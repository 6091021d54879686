-- Payments as a map from key to attempt, and what they add up to.
use Rattle.std.specs.Prelude.{ℕ, Bool, true, false, List, map, ℤ, pos, ◌+ℤ◌, ◌≡◌, ◌==◌, nat_le, ◌&&◌, Option}
use Rattle.std.specs.Prelude.{Some}
use Rattle.std.specs.Prelude.{if◌then◌else◌}
use Rattle.std.specs.FinMap.{find, put}
use Rattle.std.specs.List.{filter, list_any}
use Rattle.kb_sharing.specs.Keys.{by_words}
use Rattle.kb_sharing.specs.Sums.{sum_of}
use Rattle.kb_payment.specs.declared.attempt.Attempt.{Attempt}
use Rattle.kb_payment.specs.Attempts.{paid_by, taken_by, open_by, is_open, is_automatic}

-- what contracts see of payments: each payment key with its attempt, in order of the keys
abbrev pub PaymentsValue : Type 0
PaymentsValue = List (List ℕ × Attempt)

-- the attempt of a key
abbrev pub attempt_of : PaymentsValue → List ℕ → Option Attempt
attempt_of payments key = find by_words key payments

-- a key has an attempt from now on, in its place among the others; one that it has already is replaced
abbrev pub with_attempt : PaymentsValue → List ℕ → Attempt → PaymentsValue
with_attempt payments key attempt = put by_words key attempt payments

-- what is paid on the invoice of a number: its successful purchases less their successful refunds and
-- chargebacks
abbrev pub paid_on : PaymentsValue → ℕ → ℤ
paid_on payments invoice = sum_of (λ (entry : List ℕ × Attempt). paid_by invoice entry.1) payments

-- what is given back of the purchase of a key, or may yet be
abbrev pub taken_of : PaymentsValue → List ℕ → ℤ
taken_of payments key = sum_of (λ (entry : List ℕ × Attempt). taken_by key entry.1) payments

-- how many purchases on the invoice of a number are open
abbrev pub open_purchases : PaymentsValue → ℕ → ℤ
open_purchases payments invoice = sum_of (λ (entry : List ℕ × Attempt). open_by invoice entry.1) payments

-- the invoice of a number has an automatic payment of a day or later
abbrev pub has_automatic_since : PaymentsValue → ℕ → ℕ → Bool
has_automatic_since payments invoice day =
    list_any (λ (entry : List ℕ × Attempt). is_automatic invoice entry.1 && nat_le day entry.1.day) payments

-- the keys of the open attempts, in order
abbrev pub open_keys : PaymentsValue → List (List ℕ)
open_keys payments =
    map (λ entry. entry.0) (filter (λ (entry : List ℕ × Attempt). is_open entry.1.status) payments)

-- a key has an attempt, which is open
abbrev pub IsOpenKey : PaymentsValue → List ℕ → Type 0
IsOpenKey payments key = (attempt : Attempt) × (attempt_of payments key ≡ Some attempt)
    × (is_open attempt.status ≡ true)

-- the final attempts stay as they are
abbrev pub StayFinal : PaymentsValue → PaymentsValue → Type 0
StayFinal old new = (key : List ℕ) (attempt : Attempt) → attempt_of old key ≡ Some attempt
    → is_open attempt.status ≡ false → attempt_of new key ≡ Some attempt

-- what is paid moves by an amount on one invoice, and stays on all others
abbrev pub Moves : PaymentsValue → PaymentsValue → ℕ → ℤ → Type 0
Moves old new invoice amount = (asked : ℕ)
    → paid_on new asked ≡ paid_on old asked +ℤ (if invoice == asked then amount else pos 0)
