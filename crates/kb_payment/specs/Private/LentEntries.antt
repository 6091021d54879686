-- Entries that are lent.
use Rattle.std.specs.Prelude.{ℕ, List, map}
use Rattle.std.specs.List.{filter}
use Rattle.std.specs.Borrow.{Bor}
use Rattle.kb_payment.specs.declared.attempt.Attempt.{Attempt}
use Rattle.kb_payment.specs.Attempts.{is_open}

-- the keys of the open attempts among some
abbrev pub open_among : List (Bor (List ℕ) × Bor Attempt) → List (List ℕ)
open_among entries =
    map (λ entry. entry.0.now)
    (filter (λ (entry : Bor (List ℕ) × Bor Attempt). is_open entry.1.now.status) entries)
