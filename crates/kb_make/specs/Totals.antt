-- What the accounts of lanes add up to.
use Rattle.std.specs.Prelude.{ℕ, List, length, map, sum_by}
use Rattle.std.specs.List.{flat_map}
use Rattle.kb_sharing.specs.Sums.{sum_of}
use Rattle.kb_book.specs.Books.{BookValue}
use Rattle.kb_account.specs.declared.view.sums.Sums.{Sums}
use Rattle.kb_account.specs.Sums.{sums_of}
use Rattle.kb_machine.specs.Machines.{MachineValue}
use Rattle.kb_make.specs.declared.totals.Totals.{Totals}

-- what each account adds up to, lane after lane
abbrev pub sums_in : List MachineValue → List Sums
sums_in lanes =
    flat_map (λ (machine : MachineValue). map (λ (entry : List ℕ × BookValue). sums_of entry.1) machine.books)
    lanes

-- and all of them together
abbrev pub total_of : List Sums → Totals
total_of sums = record {
  accounts = length sums;
  commands = sum_by (λ (one : Sums). one.commands) sums;
  invoices = sum_by (λ (one : Sums). one.invoices) sums;
  charged = sum_of (λ (one : Sums). one.charged) sums;
  paid = sum_of (λ (one : Sums). one.paid) sums;
  credit = sum_of (λ (one : Sums). one.credit) sums;
  unpaid = sum_of (λ (one : Sums). one.unpaid) sums;
}

abbrev pub totals_of : List MachineValue → Totals
totals_of lanes = total_of (sums_in lanes)
