-- The account of a command.
use Rattle.std.proofs.Common.{◌≡◌, Bool, true, false, List, ℕ, None, Some, refl, if◌then◌else◌}

-- a command with an account is no text
pub no_text : (text : Bool) (told account : List ℕ) → Some account ≡ (if text then None else Some told)
    → (text ≡ false) × (account ≡ told)
no_text true told account is = absurd (cc)
no_text false told account is = (refl, cc)
