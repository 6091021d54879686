-- The summary of what the commands of a seed make.
use Rattle.std.specs.Prelude.{ℕ, ◌≡◌, pos, List, [], ◌∷◌, ◌++◌, codes, decimal, refl}
use Rattle.std.specs.Fmt.{signed_decimal, digits}
use Rattle.kb_base.specs.Lines.{line_feed}
use Rattle.kb_machine.specs.Machines.{MachineValue}
use Rattle.kb_make.specs.declared.totals.Totals.{Totals}
use Rattle.kb_make.specs.Totals.{totals_of}
use Rattle.kb_make.specs.Makes.{Makes}

-- its text: what all accounts add up to, and how many commands were refused
abbrev pub summary_text : Totals → ℕ → List ℕ
summary_text totals refused =
    codes "accounts " ++ decimal totals.accounts
    ++ codes " commands " ++ decimal totals.commands
    ++ codes " refused " ++ decimal refused
    ++ codes " invoices " ++ decimal totals.invoices
    ++ codes " charged " ++ signed_decimal totals.charged
    ++ codes " paid " ++ signed_decimal totals.paid
    ++ codes " credit " ++ signed_decimal totals.credit
    ++ codes " unpaid " ++ signed_decimal totals.unpaid
    ++ line_feed ∷ []

one_account : summary_text (record {
  accounts = 1;
  commands = 6;
  invoices = 1;
  charged = pos 742;
  paid = pos 742;
  credit = pos 0;
  unpaid = pos 0;
}) 0 ≡ codes "accounts 1 commands 6 refused 0 invoices 1 charged 742 paid 742 credit 0 unpaid 0" ++ 10 ∷ []
unfolding digits
one_account = refl

-- The summary of what the commands of a seed make, for so many accounts and months.
pub record IsSummary (seed accounts months : ℕ) (text : List ℕ) : Type 0 where
  pub last : MachineValue
  pub refused : ℕ
  pub made : Makes seed accounts months last refused
  pub told : text ≡ summary_text (totals_of (last ∷ [])) refused
