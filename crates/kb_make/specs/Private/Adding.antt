-- Totals to which one account after another is added.
use Rattle.std.specs.Prelude.{◌+◌, ◌+ℤ◌, ℕ, pos, List, [], ◌∷◌, map}
use Rattle.kb_account.specs.declared.view.sums.Sums.{Sums}
use Rattle.kb_book.specs.Books.{BookValue}
use Rattle.kb_account.specs.Sums.{sums_of}
use Rattle.kb_machine.specs.Machines.{MachineValue}
use Rattle.kb_make.specs.declared.totals.Totals.{Totals}

-- those of no account
abbrev pub no_totals : Totals
no_totals = record {
  accounts = 0;
  commands = 0;
  invoices = 0;
  charged = pos 0;
  paid = pos 0;
  credit = pos 0;
  unpaid = pos 0;
}

-- with one account more
abbrev pub plus : Totals → Sums → Totals
plus totals sums = record {
  accounts = totals.accounts + 1;
  commands = totals.commands + sums.commands;
  invoices = totals.invoices + sums.invoices;
  charged = totals.charged +ℤ sums.charged;
  paid = totals.paid +ℤ sums.paid;
  credit = totals.credit +ℤ sums.credit;
  unpaid = totals.unpaid +ℤ sums.unpaid;
}

-- with several more
abbrev pub plus_all : Totals → List Sums → Totals
plus_all totals [] = totals
plus_all totals (one ∷ later) = plus_all (plus totals one) later

-- what each account of a lane adds up to
abbrev pub sums_in_lane : MachineValue → List Sums
sums_in_lane machine = map (λ (entry : List ℕ × BookValue). sums_of entry.1) machine.books
