-- The parts of a summary's line.
use Rattle.std.specs.Prelude.{ℕ, List, ◌++◌, codes, decimal}
use Rattle.std.specs.Fmt.{signed_decimal}
use Rattle.kb_make.specs.declared.totals.Totals.{Totals}

-- how many there are of each kind
abbrev pub counts_text : Totals → ℕ → List ℕ
counts_text totals refused =
    codes "accounts " ++ decimal totals.accounts
    ++ codes " commands " ++ decimal totals.commands
    ++ codes " refused " ++ decimal refused
    ++ codes " invoices " ++ decimal totals.invoices

-- what was charged and paid
abbrev pub sums_text : Totals → List ℕ
sums_text totals =
    codes " charged " ++ signed_decimal totals.charged
    ++ codes " paid " ++ signed_decimal totals.paid

-- and what is left of it
abbrev pub balances_text : Totals → List ℕ
balances_text totals =
    codes " credit " ++ signed_decimal totals.credit
    ++ codes " unpaid " ++ signed_decimal totals.unpaid
