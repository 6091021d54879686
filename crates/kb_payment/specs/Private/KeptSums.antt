-- What is kept beside the attempts, so that no edit looks at all of them.
use Rattle.std.specs.Prelude.{ℕ, Bool, true, false, max, nat_le, pos, List, [], ◌∷◌, Option, None, Some, ◌≡◌}
use Rattle.std.specs.Prelude.{unwrap_or}
use Rattle.std.specs.Prelude.{if◌then◌else◌}
use Rattle.std.specs.FinMap.{find}
use Rattle.kb_payment.specs.declared.on_invoice.OnInvoice.{OnInvoice}
use Rattle.kb_sharing.specs.Keys.{by_words}
use Rattle.kb_payment.specs.PaymentSums.{PaymentsValue, taken_of, open_purchases, has_automatic_since}

-- an invoice has an open purchase, by what is kept of it
abbrev pub is_open_on : Option OnInvoice → Bool
is_open_on None = false
is_open_on (Some kept) = kept.has_open

-- it has an automatic payment of a day or later, by what is kept of it
abbrev pub is_since : Option ℕ → ℕ → Bool
is_since None day = false
is_since (Some last) day = nat_le day last

abbrev pub automatic_on : Option OnInvoice → Option ℕ
automatic_on None = None
automatic_on (Some kept) = kept.automatic

-- the day of the latest automatic payment, with a purchase of a day more
abbrev pub latest : Bool → ℕ → Option ℕ → Option ℕ
latest false day last = last
latest true day None = Some day
latest true day (Some last) = Some (max day last)

-- what is kept of purchases by their keys, and of invoices by words of their number alone, are the sums over
-- all attempts
pub record AreKept (payments : PaymentsValue) (taken : List (List ℕ × ℕ))
    (invoices : List (List ℕ × OnInvoice)) : Type 0 where
  pub taken_sums : (key : List ℕ) → pos (unwrap_or (find by_words key taken) 0) ≡ taken_of payments key
  pub opened : (invoice : ℕ)
      → (if is_open_on (find by_words (invoice ∷ []) invoices) then pos 1 else pos 0)
      ≡ open_purchases payments invoice
  pub automatic : (invoice day : ℕ)
      → is_since (automatic_on (find by_words (invoice ∷ []) invoices)) day
      ≡ has_automatic_since payments invoice day
