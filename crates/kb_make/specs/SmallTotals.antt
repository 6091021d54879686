-- Two small accounts, and what they add up to.
use Rattle.std.specs.Prelude.{◌≡◌, [], ◌∷◌, pos, None, refl}
use Rattle.kb_account.specs.declared.view.sums.Sums.{Sums}
use Rattle.kb_make.specs.Totals.{total_of}

-- 1000 charged by one invoice, and paid but for 400
abbrev owing : Sums
owing = record {
  commands = 3;
  invoices = 1;
  charged = pos 1000;
  paid = pos 600;
  credit = pos 0;
  unpaid = pos 400;
  unpaid_count = 1;
  earliest = None;
  overdue = None;
}

-- 710 charged by two invoices, of which 290 were paid back
abbrev ahead : Sums
ahead = record {
  commands = 5;
  invoices = 2;
  charged = pos 710;
  paid = pos 1000;
  credit = pos 290;
  unpaid = pos 0;
  unpaid_count = 0;
  earliest = None;
  overdue = None;
}

-- credit isn't set against what another account owes
both_together : total_of (owing ∷ ahead ∷ []) ≡ record {
  accounts = 2;
  commands = 8;
  invoices = 3;
  charged = pos 1710;
  paid = pos 1600;
  credit = pos 290;
  unpaid = pos 400;
}
both_together = refl

of_no_account : total_of [] ≡ record {
  accounts = 0;
  commands = 0;
  invoices = 0;
  charged = pos 0;
  paid = pos 0;
  credit = pos 0;
  unpaid = pos 0;
}
of_no_account = refl
