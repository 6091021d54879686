-- Payment keys that are the platform's own.
use Rattle.std.specs.Prelude.{ℕ, ◌≡◌, true, List}
use Rattle.kb_payment.specs.declared.attempt.Attempt.{Attempt}
use Rattle.kb_book.specs.PaymentRows.{is_own_key}
use Rattle.kb_book.specs.Edits.{auto_key}

-- an attempt under a key that is the platform's own is the automatic payment which the key names
abbrev pub IsOwned : List ℕ → Attempt → Type 0
IsOwned key attempt =
    is_own_key key ≡ true → (key ≡ auto_key attempt.invoice attempt.day) × (attempt.auto ≡ true)
