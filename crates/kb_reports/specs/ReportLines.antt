-- The lines of reports: what each says of an account.
use Rattle.std.specs.Prelude.{ℕ, ◌≡◌, pos, List, [], ◌∷◌, ◌++◌, codes, decimal, Option, Some, None, unwrap_or}
use Rattle.std.specs.Prelude.{refl}
use Rattle.std.specs.List.{flat_map}
use Rattle.std.specs.Fmt.{signed_decimal, digits}
use Rattle.kb_base.specs.Lines.{line_feed}
use Rattle.kb_days.specs.DateText.{date_text, civil_text}
use Rattle.kb_days.specs.Dates.{march}
use Rattle.kb_days.specs.Calendar.{month_start, month_of, day_of_month, month_after, month_length}
use Rattle.kb_due.specs.declared.entitlement.Entitlement.TheVariants as states
use Rattle.kb_book.specs.Worlds.{WorldValue}
use Rattle.kb_book.specs.Books.{BookValue}
use Rattle.kb_account.specs.declared.view.sums.Sums.{Sums}
use Rattle.kb_account.specs.declared.view.states.StateRow.{StateRow}
use Rattle.kb_account.specs.Sums.{sums_of, states_of}
use Rattle.kb_json.specs.Words.{state_word}

-- the byte between the fields of a line
abbrev pub tab : ℕ
tab = 9

-- fields, each behind a tab, and then a line feed
abbrev pub rest_of_line : List (List ℕ) → List ℕ
rest_of_line [] = line_feed ∷ []
rest_of_line (field ∷ later) = tab ∷ field ++ rest_of_line later

-- a line: a first field, and the others
abbrev pub line_of : List ℕ → List (List ℕ) → List ℕ
line_of first others = first ++ rest_of_line others

three_fields : line_of (codes "a") (codes "b" ∷ codes "c" ∷ [])
    ≡ codes "a" ++ 9 ∷ codes "b" ++ 9 ∷ codes "c" ++ 10 ∷ []
three_fields = refl

-- What `balances` says of an account: what it was charged and has paid, its credit, and what it owes.
abbrev pub balances_line : List ℕ → Sums → List ℕ
balances_line account sums = line_of account (signed_decimal sums.charged ∷ signed_decimal sums.paid
    ∷ signed_decimal sums.credit ∷ signed_decimal sums.unpaid ∷ [])

abbrev pub balances_of : List ℕ → WorldValue → BookValue → List ℕ
balances_of account world book = balances_line account (sums_of book)

-- What `arrears` says of an account that has an unpaid invoice, of which this is the earliest day: its
-- overdue state, how many invoices are unpaid, what it owes, and that day.
abbrev pub arrears_line : List ℕ → Sums → Option ℕ → List ℕ
arrears_line account sums None = []
arrears_line account sums (Some day) = line_of account (unwrap_or sums.overdue (codes "CLEAR")
    ∷ decimal sums.unpaid_count ∷ signed_decimal sums.unpaid ∷ date_text day ∷ [])

abbrev pub arrears_of : List ℕ → WorldValue → BookValue → List ℕ
arrears_of account world book = arrears_line account (sums_of book) (sums_of book).earliest

-- What `states` says of a subscription of an account on a day: its bundle, its name, and how it stands.
abbrev pub states_line : List ℕ → StateRow → List ℕ
states_line account row = line_of account (row.bundle ∷ row.subscription ∷ state_word row.state ∷ [])

-- and of all of them, in order of creation
abbrev pub states_lines : List ℕ → List StateRow → List ℕ
states_lines account rows = flat_map (states_line account) rows

abbrev pub states_on : ℕ → List ℕ → WorldValue → BookValue → List ℕ
states_on day account world book = states_lines account (states_of world book day)

-- For the examples: an account that was charged 613, has paid 1000 and has a credit of 387; and one that
-- owes an invoice of 1 March.
abbrev paid_too_much : Sums
paid_too_much = record {
  commands = 5;
  invoices = 2;
  charged = pos 613;
  paid = pos 1000;
  credit = pos 387;
  unpaid = pos 0;
  unpaid_count = 0;
  earliest = None;
  overdue = None;
}

abbrev owing : Sums
owing = record {
  commands = 3;
  invoices = 1;
  charged = pos 1000;
  paid = pos 0;
  credit = pos 0;
  unpaid = pos 1000;
  unpaid_count = 1;
  earliest = Some (march 1);
  overdue = Some (codes "WARNING");
}

its_balance : balances_line (codes "a1") paid_too_much
    ≡ codes "a1" ++ 9 ∷ codes "613" ++ 9 ∷ codes "1000" ++ 9 ∷ codes "387" ++ 9 ∷ codes "0" ++ 10 ∷ []
unfolding digits
its_balance = refl

no_arrears : arrears_line (codes "a1") paid_too_much paid_too_much.earliest ≡ []
no_arrears = refl

some_arrears : arrears_line (codes "a2") owing owing.earliest
    ≡ codes "a2" ++ 9 ∷ codes "WARNING" ++ 9 ∷ codes "1" ++ 9 ∷ codes "1000" ++ 9
    ∷ codes "2024-03-01" ++ 10 ∷ []
unfolding digits date_text civil_text day_of_month month_of month_after month_start month_length
some_arrears = refl

an_active_one : states_lines (codes "a1")
    (record { bundle = codes "b1"; subscription = codes "s1"; state = states.Active } ∷ [])
    ≡ codes "a1" ++ 9 ∷ codes "b1" ++ 9 ∷ codes "s1" ++ 9 ∷ codes "ACTIVE" ++ 10 ∷ []
an_active_one = refl
