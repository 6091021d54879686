-- The items of invoices add up, after each command.
use Rattle.std.proofs.Common.{◌≡◌, ℕ, zero, suc, ◌+◌, ◌≤◌, ◌<◌, Bool, true, false, not, ◌==◌, List, [], ◌∷◌}
use Rattle.std.proofs.Common.{◌++◌, length, map, All, Option, None, Some, ℤ, pos, negsuc, neg_ℤ, ◌+ℤ◌, ◌-ℤ◌}
use Rattle.std.proofs.Common.{if◌then◌else◌, refl, ap, ap₂, sym, subst, ◌∙◌, arith, length-append}
use Rattle.std.proofs.Common.{append_assoc, append-nil}
use Rattle.std.specs.List.{filter, fold}
use Rattle.std.proofs.lemmas.Bool.{eq-eqb, ne_eqb}
use Rattle.std.proofs.lemmas.Int.{ints}
use Rattle.std.proofs.lemmas.List.{map-append, length-map}
use Rattle.std.proofs.lemmas.List.Elements.{filter-append, All-nil, All-cons, All-head, All-tail, All-append}
use Rattle.std.proofs.lemmas.List.Elements.{All-map, All-weaker}
use Rattle.kb_days.specs.Calendar.{first_day, charged_days}
use Rattle.kb_sharing.specs.Sums.{sum_of}
use Rattle.kb_sharing.proofs.MemberSums.{sum_of-append}
use Rattle.kb_credit.specs.declared.line.Line.{Line}
use Rattle.kb_credit.specs.declared.line.Line.TheVariants.{Charge, Credit, Cba}
use Rattle.kb_credit.specs.declared.row.Row.{Row}
use Rattle.kb_credit.specs.Items.{amount_of, is_adjustment}
use Rattle.kb_credit.specs.InvoiceRows.{InvoicesValue, credit}
use Rattle.kb_credit.specs.InvoiceEdits.{no_invoices, levelled}
use Rattle.kb_credit.specs.Levelling.{made_on, with_made, used_on, with_used, levelled_rows, adjustment}
use Rattle.kb_credit.specs.Levelling.{made_items, used_items}
use Rattle.kb_credit.proofs.ClosedForm.{length-levelled_rows}
use Rattle.kb_payment.specs.PaymentSums.{PaymentsValue}
use Rattle.kb_codec.specs.declared.command.Command.{Command}
use Rattle.kb_codec.specs.declared.command.Command.TheVariants as kinds
use Rattle.kb_codec.specs.declared.action.Action.TheVariants as actions
use Rattle.kb_codec.specs.Senders.{account_of, key_of}
use Rattle.kb_due.specs.declared.cell.Cell.{Cell}
use Rattle.kb_due.specs.Facts.{FactsValue}
use Rattle.kb_due.specs.DueDays.{due_at, fee_at}
use Rattle.kb_tree.specs.declared.item.NewItem.{NewItem}
use Rattle.kb_tree.specs.declared.item.NewItem.TheVariants.{Bill, Repair}
use Rattle.kb_tree.specs.Items.{charges_on, cell_at}
use Rattle.kb_tree.specs.Repairs.{new_items}
use Rattle.kb_tree.specs.Issues.{SubscriptionItems, Issue, line_of, lines_of, issue_from}
use Rattle.kb_book.specs.Worlds.{WorldValue}
use Rattle.kb_book.specs.Books.{BookValue}
use Rattle.kb_book.specs.Dues.{facts_of}
use Rattle.kb_book.specs.Commands.{begun, own_lines}
use Rattle.kb_book.specs.Steps.{with_invoice, with_paid, paid_from, keep, accepted_over, billed_outcome}
use Rattle.kb_book.specs.Steps.{issue_over}
use Rattle.kb_book.proofs.BegunBooks.{begun-edited}
use Rattle.kb_book.proofs.BilledRows.{billed_rows}
use Rattle.kb_book.proofs.NotedRows.{length-paid_from}
use Rattle.kb_account.specs.Prepares.{opening_book}
use Rattle.kb_codec.specs.Entries.{History}
use Rattle.kb_machine.specs.Machines.{MachineValue, no_machine, with_book, opening}
use Rattle.kb_machine.specs.Histories.{entry_after, replay}
use Rattle.kb_histories.proofs.FoundEntries.{found-put}
use Rattle.kb_histories.proofs.JudgedTexts.{judged-leaves}
use Rattle.kb_histories.specs.AddUp.{lines_on, total_on, adjusted_on, AddUpFrom, IsNumber, InvoicesAddUp}
use Rattle.kb_histories.specs.AddUp.{AllAddUp, InvoicesStayAddedUp, ReplaysAddUp}

-- two parts amount to what each does
lines_on-append : (number : ℕ) (one other : List (ℕ × Line))
    → lines_on number (one ++ other) ≡ lines_on number one ++ lines_on number other
lines_on-append number one other =
    ap (map (λ (item : ℕ × Line). item.1)) (filter-append (λ (item : ℕ × Line). item.0 == number) one other)
    ∙ map-append (λ (item : ℕ × Line). item.1) (filter (λ (item : ℕ × Line). item.0 == number) one)
    (filter (λ (item : ℕ × Line). item.0 == number) other)

module _ (kind : Line → Bool) where
  -- what the lines of a kind amount to
  abbrev sum_on : ℕ → List (ℕ × Line) → ℤ
  sum_on number items = sum_of amount_of (filter kind (lines_on number items))

  sum_on-append : (number : ℕ) (one other : List (ℕ × Line))
      → sum_on number (one ++ other) ≡ sum_on number one +ℤ sum_on number other
  sum_on-append number one other =
      ap (λ lines. sum_of amount_of (filter kind lines)) (lines_on-append number one other)
      ∙ ap (sum_of amount_of) (filter-append kind (lines_on number one) (lines_on number other))
      ∙ sum_of-append amount_of (filter kind (lines_on number one)) (filter kind (lines_on number other))

-- no line is on an invoice past those of all items
lines_on-past : (count number : ℕ) (items : List (ℕ × Line))
    → All (λ (item : ℕ × Line). item.0 ≤ count) items → count < number → lines_on number items ≡ []
lines_on-past count number [] below past = refl
lines_on-past count number (item ∷ later) below past =
    let low : item.0 ≤ count = All-head (λ (item : ℕ × Line). item.0 ≤ count) item later below in
    let other : (item.0 == number) ≡ false = ne_eqb item.0 number (λ same. omega (arith, low, past)) in
    let rest = lines_on-past count number later
    (All-tail (λ (item : ℕ × Line). item.0 ≤ count) item later below) past in
    rw other rest

-- nor before them
lines_on-before : (from number : ℕ) (items : List (ℕ × Line))
    → All (λ (item : ℕ × Line). from ≤ item.0) items → number < from → lines_on number items ≡ []
lines_on-before from number [] above before = refl
lines_on-before from number (item ∷ later) above before =
    let high : from ≤ item.0 = All-head (λ (item : ℕ × Line). from ≤ item.0) item later above in
    let other : (item.0 == number) ≡ false = ne_eqb item.0 number (λ same. omega (arith, high, before)) in
    let rest = lines_on-before from number later
    (All-tail (λ (item : ℕ × Line). from ≤ item.0) item later above) before in
    rw other rest

-- the lines of one invoice are all on it, and on no other
lines_on-own : (number : ℕ) (lines : List Line) → lines_on number (map (λ line. (number, line)) lines) ≡ lines
lines_on-own number [] = refl
lines_on-own number (line ∷ later) =
    let same : (number == number) ≡ true = eq-eqb number number refl in
    let rest = lines_on-own number later in
    rw same (ap (λ (all : List Line). line ∷ all) rest)

lines_on-other : (number own : ℕ) (lines : List Line) → (own == number) ≡ false
    → lines_on number (map (λ line. (own, line)) lines) ≡ []
lines_on-other number own [] other = refl
lines_on-other number own (line ∷ later) other = rw other (lines_on-other number own later other)

-- lines that adjust nothing
filter-plain : (lines : List Line) → All (λ line. is_adjustment line ≡ false) lines
    → filter (λ line. not (is_adjustment line)) lines ≡ lines
filter-plain [] plain = refl
filter-plain (line ∷ later) plain =
    let here : is_adjustment line ≡ false = All-head (λ line. is_adjustment line ≡ false) line later plain in
    let rest = filter-plain later (All-tail (λ line. is_adjustment line ≡ false) line later plain) in
    rw here (ap (λ (all : List Line). line ∷ all) rest)

none-adjust : (lines : List Line) → All (λ line. is_adjustment line ≡ false) lines
    → filter is_adjustment lines ≡ []
none-adjust [] plain = refl
none-adjust (line ∷ later) plain =
    let here : is_adjustment line ≡ false = All-head (λ line. is_adjustment line ≡ false) line later plain in
    rw here (none-adjust later (All-tail (λ line. is_adjustment line ≡ false) line later plain))

-- rows add up by other items that amount to the same on them
AddUp-same : (items other : List (ℕ × Line)) (number : ℕ) (rows : List Row)
    → ((place : ℕ) → number ≤ place → place < number + length rows
    → (total_on place other ≡ total_on place items) × (adjusted_on place other ≡ adjusted_on place items))
    → AddUpFrom items number rows → AddUpFrom other number rows
AddUp-same items other number [] same add = tt
AddUp-same items other number (row ∷ rows) same add =
    let here = same number (omega arith) (omega arith) in (
      here.0 ∙ add.0,
      here.1 ∙ add.1,
      AddUp-same items other (number + 1) rows (λ place low high. same place (omega arith) (omega arith))
          add.2,
    )

-- and with another row behind them
AddUp-push : (items : List (ℕ × Line)) (number : ℕ) (rows : List Row) (row : Row)
    → AddUpFrom items number rows
    → total_on (number + length rows) items ≡ row.total
    → adjusted_on (number + length rows) items ≡ row.adjusted
    → AddUpFrom items number (rows ++ row ∷ [])
AddUp-push items number [] row add total adjusted =
    let e : number + 0 ≡ number = omega arith in (
      subst (λ n. total_on n items ≡ row.total) e total,
      subst (λ n. adjusted_on n items ≡ row.adjusted) e adjusted,
      tt,
    )
AddUp-push items number (first ∷ rows) row add total adjusted =
    let e : number + suc (length rows) ≡ number + 1 + length rows = omega arith in (
      add.0,
      add.1,
      AddUp-push items (number + 1) rows row add.2 (subst (λ n. total_on n items ≡ row.total) e total)
          (subst (λ n. adjusted_on n items ≡ row.adjusted) e adjusted),
    )

-- what is paid is no item
AddUp-paid : (payments : PaymentsValue) (items : List (ℕ × Line)) (number paid : ℕ) (rows : List Row)
    → AddUpFrom items number rows → AddUpFrom items number (paid_from payments paid rows)
AddUp-paid payments items number paid [] add = tt
AddUp-paid payments items number paid (row ∷ rows) add =
    (add.0, add.1, AddUp-paid payments items (number + 1) (paid + 1) rows add.2)

-- an adjustment in front of others is on its own invoice alone
adjusted_on-adjustment : (number invoice : ℕ) (amount : ℤ) (later : List (ℕ × Line))
    → adjusted_on number (adjustment invoice amount later)
    ≡ (if invoice == number then amount else pos 0) +ℤ adjusted_on number later
adjusted_on-adjustment number invoice (pos zero) later = by_test (invoice == number)
  where
    by_test : (same : Bool)
        → adjusted_on number later ≡ (if same then pos 0 else pos 0) +ℤ adjusted_on number later
    by_test true = omega (arith, ints)
    by_test false = omega (arith, ints)
adjusted_on-adjustment number invoice (pos (suc n)) later = by_test (invoice == number)
  where
    by_test : (same : Bool)
        → sum_of amount_of (filter is_adjustment (map (λ (item : ℕ × Line). item.1)
        (if same then (invoice, Cba (pos (suc n))) ∷ filter (λ (item : ℕ × Line). item.0 == number) later
        else filter (λ (item : ℕ × Line). item.0 == number) later)))
        ≡ (if same then pos (suc n) else pos 0) +ℤ adjusted_on number later
    by_test true = refl
    by_test false = omega (arith, ints)
adjusted_on-adjustment number invoice (negsuc n) later = by_test (invoice == number)
  where
    by_test : (same : Bool)
        → sum_of amount_of (filter is_adjustment (map (λ (item : ℕ × Line). item.1)
        (if same then (invoice, Cba (negsuc n)) ∷ filter (λ (item : ℕ × Line). item.0 == number) later
        else filter (λ (item : ℕ × Line). item.0 == number) later)))
        ≡ (if same then negsuc n else pos 0) +ℤ adjusted_on number later
    by_test true = refl
    by_test false = omega (arith, ints)

-- and in no total
total_on-adjustment : (number invoice : ℕ) (amount : ℤ) (later : List (ℕ × Line))
    → total_on number (adjustment invoice amount later) ≡ total_on number later
total_on-adjustment number invoice (pos zero) later = refl
total_on-adjustment number invoice (pos (suc n)) later = by_test (invoice == number)
  where
    by_test : (same : Bool)
        → sum_of amount_of (filter (λ line. not (is_adjustment line)) (map (λ (item : ℕ × Line). item.1)
        (if same then (invoice, Cba (pos (suc n))) ∷ filter (λ (item : ℕ × Line). item.0 == number) later
        else filter (λ (item : ℕ × Line). item.0 == number) later)))
        ≡ total_on number later
    by_test true = refl
    by_test false = refl
total_on-adjustment number invoice (negsuc n) later = by_test (invoice == number)
  where
    by_test : (same : Bool)
        → sum_of amount_of (filter (λ line. not (is_adjustment line)) (map (λ (item : ℕ × Line). item.1)
        (if same then (invoice, Cba (negsuc n)) ∷ filter (λ (item : ℕ × Line). item.0 == number) later
        else filter (λ (item : ℕ × Line). item.0 == number) later)))
        ≡ total_on number later
    by_test true = refl
    by_test false = refl

-- it has its number
adjustment-numbers : (P : ℕ × Line → Type 0) (invoice : ℕ) (amount : ℤ) (later : List (ℕ × Line))
    → ((line : Line) → P (invoice, line)) → All P later → All P (adjustment invoice amount later)
adjustment-numbers P invoice (pos zero) later own all = all
adjustment-numbers P invoice (pos (suc n)) later own all =
    All-cons P (invoice, Cba (pos (suc n))) later (own (Cba (pos (suc n)))) all
adjustment-numbers P invoice (negsuc n) later own all =
    All-cons P (invoice, Cba (negsuc n)) later (own (Cba (negsuc n))) all

-- the items of a pass are on the invoices of its rows
abbrev IsAmong : ℕ → ℕ → ℕ × Line → Type 0
IsAmong number past item = (number ≤ item.0) × (item.0 < past)

made-among : (number : ℕ) (rows : List Row)
    → All (IsAmong number (number + length rows)) (made_items number rows)
made-among number [] = All-nil (IsAmong number (number + 0))
made-among number (row ∷ rows) =
    adjustment-numbers (IsAmong number (number + suc (length rows))) number (made_on row)
    (made_items (number + 1) rows) (λ line. (omega arith, omega arith))
    (All-weaker (IsAmong (number + 1) (number + 1 + length rows))
    (IsAmong number (number + suc (length rows)))
    (λ item is. (omega (arith, is.0), omega (arith, is.1))) (made_items (number + 1) rows)
    (made-among (number + 1) rows))

used-among : (left : ℤ) (number : ℕ) (rows : List Row)
    → All (IsAmong number (number + length rows)) (used_items left number rows)
used-among left number [] = All-nil (IsAmong number (number + 0))
used-among left number (row ∷ rows) =
    let rest = used_items (left -ℤ used_on left row) (number + 1) rows in
    adjustment-numbers (IsAmong number (number + suc (length rows))) number (neg_ℤ (used_on left row)) rest
    (λ line. (omega arith, omega arith))
    (All-weaker (IsAmong (number + 1) (number + 1 + length rows))
    (IsAmong number (number + suc (length rows)))
    (λ item is. (omega (arith, is.0), omega (arith, is.1))) rest
    (used-among (left -ℤ used_on left row) (number + 1) rows))

-- a row that is adjusted adds up with the adjustment, and the rows behind it as before
AddUp-adjusted : (items more : List (ℕ × Line)) (number : ℕ) (amount : ℤ) (row : Row) (rows : List Row)
    → All (λ (item : ℕ × Line). number + 1 ≤ item.0) more → total_on number items ≡ row.total
    → adjusted_on number items ≡ row.adjusted → AddUpFrom (items ++ more) (number + 1) rows
    → total_on number more ≡ pos 0
    → AddUpFrom (items ++ adjustment number amount more) number
    (record row { adjusted = row.adjusted +ℤ amount } ∷ rows)
AddUp-adjusted items more number amount row rows above total adjusted later none =
    let own : (number == number) ≡ true = eq-eqb number number refl in
    let quiet : adjusted_on number more ≡ pos 0 =
    ap (λ lines. sum_of amount_of (filter is_adjustment lines))
    (lines_on-before (number + 1) number more above (omega arith)) in
    let plain : Line → Bool = λ line. not (is_adjustment line) in
    let both = sum_on-append plain number items (adjustment number amount more) in
    let same = total_on-adjustment number number amount more in
    let sums = sum_on-append is_adjustment number items (adjustment number amount more) in
    let first = adjusted_on-adjustment number number amount more in
    let given : (if number == number then amount else pos 0) ≡ amount = rw own refl in (
      omega (arith, ints, both, same, none, total),
      omega (arith, ints, sums, first, given, quiet, adjusted),
      AddUp-same (items ++ more) (items ++ adjustment number amount more) (number + 1) rows
          (λ place low high.
          let other : (number == place) ≡ false = ne_eqb number place (λ same. omega (arith, low)) in
          let nothing : (if number == place then amount else pos 0) ≡ pos 0 = rw other refl in (
            omega (
              arith,
              ints,
              sum_on-append plain place items (adjustment number amount more),
              sum_on-append plain place items more,
              total_on-adjustment place number amount more,
            ),
            omega (
              arith,
              ints,
              sum_on-append is_adjustment place items (adjustment number amount more),
              sum_on-append is_adjustment place items more,
              adjusted_on-adjustment place number amount more,
              nothing,
            ),
          ))
          later,
    )

-- the items of a pass are in no total
total_on-made : (place number : ℕ) (rows : List Row) → total_on place (made_items number rows) ≡ pos 0
total_on-made place number [] = refl
total_on-made place number (row ∷ rows) =
    total_on-adjustment place number (made_on row) (made_items (number + 1) rows)
    ∙ total_on-made place (number + 1) rows

total_on-used : (place : ℕ) (left : ℤ) (number : ℕ) (rows : List Row)
    → total_on place (used_items left number rows) ≡ pos 0
total_on-used place left number [] = refl
total_on-used place left number (row ∷ rows) =
    total_on-adjustment place number (neg_ℤ (used_on left row))
    (used_items (left -ℤ used_on left row) (number + 1) rows)
    ∙ total_on-used place (left -ℤ used_on left row) (number + 1) rows

-- the first pass
AddUp-made : (items : List (ℕ × Line)) (number : ℕ) (rows : List Row) → AddUpFrom items number rows
    → AddUpFrom (items ++ made_items number rows) number (map with_made rows)
AddUp-made items number [] add = tt
AddUp-made items number (row ∷ rows) add =
    AddUp-adjusted items (made_items (number + 1) rows) number (made_on row) row (map with_made rows)
    (All-weaker (IsAmong (number + 1) (number + 1 + length rows)) (λ (item : ℕ × Line). number + 1 ≤ item.0)
    (λ item is. is.0) (made_items (number + 1) rows) (made-among (number + 1) rows))
    add.0 add.1 (AddUp-made items (number + 1) rows add.2) (total_on-made number (number + 1) rows)

-- the second one
AddUp-used : (items : List (ℕ × Line)) (left : ℤ) (number : ℕ) (rows : List Row)
    → AddUpFrom items number rows
    → AddUpFrom (items ++ used_items left number rows) number (with_used left rows)
AddUp-used items left number [] add = tt
AddUp-used items left number (row ∷ rows) add =
    let rest = left -ℤ used_on left row in
    let more = used_items rest (number + 1) rows in
    AddUp-adjusted items more number (neg_ℤ (used_on left row)) row (with_used rest rows)
    (All-weaker (IsAmong (number + 1) (number + 1 + length rows)) (λ (item : ℕ × Line). number + 1 ≤ item.0)
    (λ item is. is.0) more (used-among rest (number + 1) rows))
    add.0 add.1 (AddUp-used items rest (number + 1) rows add.2)
    (total_on-used number rest (number + 1) rows)

-- both passes
add-levelled : (invoices : InvoicesValue) → InvoicesAddUp invoices → InvoicesAddUp (levelled invoices)
add-levelled invoices add =
    let rows = invoices.rows in
    let made = map with_made rows in
    let first = made_items 1 rows in
    let second = used_items (credit made) 1 made in
    let count = length-levelled_rows rows in
    let many = length-map rows with_made in
    let last = length (levelled_rows rows) in
    record {
      rows =
          subst (λ (items : List (ℕ × Line)). AddUpFrom items 1 (levelled_rows rows))
          (append_assoc invoices.items first second)
          (AddUp-used (invoices.items ++ first) (credit made) 1 made
          (AddUp-made invoices.items 1 rows add.rows));
      items =
          All-append (λ item. IsNumber last item.0) invoices.items (first ++ second)
          (All-weaker (λ item. IsNumber (length rows) item.0) (λ item. IsNumber last item.0)
          (λ item is. (is.0, omega (arith, is.1, count))) invoices.items add.items)
          (All-append (λ item. IsNumber last item.0) first second
          (All-weaker (IsAmong 1 (1 + length rows)) (λ item. IsNumber last item.0)
          (λ item is. (is.0, omega (arith, is.1, count))) first (made-among 1 rows))
          (All-weaker (IsAmong 1 (1 + length made)) (λ item. IsNumber last item.0)
          (λ item is. (is.0, omega (arith, is.1, count, many))) second (used-among (credit made) 1 made)));
    }

-- noting what is paid
add-paid : (payments : PaymentsValue) (invoices : InvoicesValue) → InvoicesAddUp invoices
    → InvoicesAddUp (with_paid payments invoices)
add-paid payments invoices add = record {
  rows = AddUp-paid payments invoices.items 1 1 invoices.rows add.rows;
  items =
      subst (λ count. All (λ item. IsNumber count item.0) invoices.items)
      (sym (length-paid_from payments 1 invoices.rows)) add.items;
}

-- another invoice
add-issued : (invoices : InvoicesValue) (today : ℕ) (lines : List Line)
    → All (λ line. is_adjustment line ≡ false) lines → InvoicesAddUp invoices
    → InvoicesAddUp (with_invoice invoices today lines)
add-issued invoices today [] plain add = add
add-issued invoices today (line ∷ later) plain add =
    let lines = line ∷ later in
    let rows = invoices.rows in
    let number = length rows + 1 in
    let more : List (ℕ × Line) = map (λ line. (number, line)) lines in
    let row : Row = record { day = today; total = sum_of amount_of lines; adjusted = pos 0; paid = pos 0 } in
    let all : List (ℕ × Line) = invoices.items ++ more in
    let rest : Line → Bool = λ line. not (is_adjustment line) in
    let low = All-weaker (λ item. IsNumber (length rows) item.0) (λ item. item.0 ≤ length rows)
    (λ item is. is.1) invoices.items add.items in
    let none = lines_on-past (length rows) number invoices.items low (omega arith) in
    let own = lines_on-own number lines in
    let e : number ≡ 1 + length rows = omega arith in
    let total : total_on number all ≡ sum_of amount_of lines =
    ap (λ lines. sum_of amount_of (filter rest lines))
    (lines_on-append number invoices.items more ∙ ap₂ (λ (a b : List Line). a ++ b) none own)
    ∙ ap (sum_of amount_of) (filter-plain lines plain) in
    let adjusted : adjusted_on number all ≡ pos 0 =
    ap (λ lines. sum_of amount_of (filter is_adjustment lines))
    (lines_on-append number invoices.items more ∙ ap₂ (λ (a b : List Line). a ++ b) none own)
    ∙ ap (sum_of amount_of) (none-adjust lines plain) in
    let count = length-append rows (row ∷ []) in
    record {
      rows =
          AddUp-push all 1 rows row
          (AddUp-same invoices.items all 1 rows
          (λ place least most.
          let other : (number == place) ≡ false = ne_eqb number place (λ same. omega (arith, most)) in
          let quiet = lines_on-other place number lines other in
          let same : lines_on place all ≡ lines_on place invoices.items =
          lines_on-append place invoices.items more
          ∙ ap (λ back. lines_on place invoices.items ++ back) quiet
          ∙ append-nil (lines_on place invoices.items) in (
            ap (λ lines. sum_of amount_of (filter rest lines)) same,
            ap (λ lines. sum_of amount_of (filter is_adjustment lines)) same,
          ))
          add.rows)
          (subst (λ n. total_on n all ≡ sum_of amount_of lines) e total)
          (subst (λ n. adjusted_on n all ≡ pos 0) e adjusted);
      items =
          let last = length (rows ++ row ∷ []) in
          All-append (λ item. IsNumber last item.0) invoices.items more
          (All-weaker (λ item. IsNumber (length rows) item.0) (λ item. IsNumber last item.0)
          (λ item is. (is.0, omega (arith, is.1, count))) invoices.items add.items)
          (All-map (λ item. IsNumber last item.0) (λ line. (number, line)) lines
          (λ place default within. (omega arith, omega (arith, count))));
    }

-- all of it
add-billed : (payments : PaymentsValue) (invoices : InvoicesValue) (today : ℕ) (lines : List Line)
    → All (λ line. is_adjustment line ≡ false) lines → InvoicesAddUp invoices
    → InvoicesAddUp (billed_rows payments invoices today lines)
add-billed payments invoices today lines plain add =
    add-levelled (with_paid payments (with_invoice invoices today lines))
    (add-paid payments (with_invoice invoices today lines) (add-issued invoices today lines plain add))

-- the lines of items adjust nothing
lines_of-plain : (sub : ℕ) (recurring : Bool) (cells : ℕ → Option Cell) (items : List NewItem)
    → All (λ line. is_adjustment line ≡ false) (lines_of sub recurring cells items)
lines_of-plain sub recurring cells [] = All-nil (λ line. is_adjustment line ≡ false)
lines_of-plain sub recurring cells (item ∷ later) =
    All-cons (λ line. is_adjustment line ≡ false) (line_of sub recurring cells item)
    (lines_of sub recurring cells later) (one item) (lines_of-plain sub recurring cells later)
  where
    one : (item : NewItem) → is_adjustment (line_of sub recurring cells item) ≡ false
    one (Bill from to cell) = refl
    one (Repair of from to) = refl

-- nor do those of all subscriptions
issue-plain : (facts : FactsValue) (billed : Option ℕ) (day count number sub : ℕ)
    (charges : List SubscriptionItems)
    → All (λ line. is_adjustment line ≡ false) (issue_from facts billed day count number sub charges).lines
issue-plain facts billed day count number sub [] = All-nil (λ line. is_adjustment line ≡ false)
issue-plain facts billed day count number sub (items ∷ later) =
    let fees = new_items (charges_on items.fees) (fee_at facts sub billed) day count in
    let recurring = new_items (charges_on items.recurring) (due_at facts sub billed) day count in
    let fee_lines = lines_of sub false (cell_at items.fees) fees in
    let due_lines = lines_of sub true (cell_at items.recurring) recurring in
    let next = number + length (fee_lines ++ due_lines) in
    All-append (λ line. is_adjustment line ≡ false) (fee_lines ++ due_lines)
    (issue_from facts billed day count next (sub + 1) later).lines
    (All-append (λ line. is_adjustment line ≡ false) fee_lines due_lines
    (lines_of-plain sub false (cell_at items.fees) fees)
    (lines_of-plain sub true (cell_at items.recurring) recurring))
    (issue-plain facts billed day count next (sub + 1) later)

-- nor does that of a command
own_lines-plain : (command : Command) → All (λ line. is_adjustment line ≡ false) (own_lines command)
own_lines-plain (kinds.Act account key (actions.Charge c)) =
    All-cons (λ line. is_adjustment line ≡ false) (Charge (pos c.amount)) [] refl
    (All-nil (λ line. is_adjustment line ≡ false))
own_lines-plain (kinds.Act account key (actions.Credit c)) =
    All-cons (λ line. is_adjustment line ≡ false) (Credit (neg_ℤ (pos c.amount))) [] refl
    (All-nil (λ line. is_adjustment line ≡ false))
own_lines-plain command = All-nil (λ line. is_adjustment line ≡ false)

-- so the invoices of a book add up after an accepted command
pub add-accepted : (world : WorldValue) (book : BookValue) (today : ℕ) (command : Command)
    → InvoicesAddUp book.invoices
    → InvoicesAddUp (accepted_over world book today command first_day charged_days).1.invoices
add-accepted world book today command add = by_key (key_of command)
  where
    edited : BookValue
    edited = begun world book today command

    issue : Issue
    issue = issue_over world edited first_day charged_days

    billed : InvoicesAddUp (billed_outcome edited today issue (own_lines command)).1.invoices
    billed =
        add-billed edited.payments edited.invoices today (issue.lines ++ own_lines command)
        (All-append (λ line. is_adjustment line ≡ false) issue.lines (own_lines command)
        (issue-plain (facts_of world edited) edited.billed first_day charged_days
        (length edited.invoices.items + 1) 0 edited.charges)
        (own_lines-plain command))
        (subst InvoicesAddUp (sym (begun-edited world book today command).invoices) add)

    by_key : (key : Option (List ℕ))
        → InvoicesAddUp (keep command key (billed_outcome edited today issue (own_lines command))).1.invoices
    by_key None = billed
    by_key (Some key) = billed

-- with one more book
add-put : (machine : MachineValue) (own : List ℕ) (value : BookValue) → AllAddUp machine
    → InvoicesAddUp value.invoices → AllAddUp (with_book machine own value)
add-put machine own value are add = record {
  added =
      λ account book. found-put account own value machine.books
      (λ found. found ≡ Some book → InvoicesAddUp book.invoices)
      (λ other there. are.added account book there)
      (λ same there. let one : value ≡ book = cc in
      subst (λ (one : BookValue). InvoicesAddUp one.invoices) one add);
}

-- a book that is opened has no invoice
add-none : InvoicesAddUp no_invoices
add-none = record { rows = tt; items = All-nil (λ item. IsNumber 0 item.0) }

-- each command leaves all of them so
pub invoices_stay_added_up : InvoicesStayAddedUp
invoices_stay_added_up machine today command are =
    judged-leaves machine today AllAddUp are command (λ texts more. record { added = are.added })
    (λ name request c.
    add-put machine (account_of command) _ are
    (add-accepted machine.texts.world (opening_book (opening name request c)) today (opening name request c)
    add-none))
    (λ book there none.
    add-put machine (account_of command) _ are
    (add-accepted machine.texts.world book today command (are.added (account_of command) book there)))

-- and so does each history
added-after : (later : History) (machine : MachineValue) → AllAddUp machine
    → AllAddUp (fold entry_after machine later)
added-after [] machine are = are
added-after (entry ∷ later) machine are =
    added-after later (entry_after machine entry) (invoices_stay_added_up machine entry.0 entry.1 are)

pub replays_add_up : ReplaysAddUp
unfolding replay
replays_add_up history = added-after history no_machine (record { added = λ account book there. absurd (cc) })
