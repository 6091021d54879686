-- What charges the days of subscriptions is shown on invoices, after each command.
use Rattle.std.proofs.Common.{◌≡◌, ℕ, zero, suc, ◌+◌, ◌≤◌, ◌⊎◌, inl, inr, Bool, true, false, ◌==◌, ◌||◌}
use Rattle.std.proofs.Common.{List, [], ◌∷◌, ◌++◌, length, map, All, Option, Some, None, IsSome, nat_eq}
use Rattle.std.proofs.Common.{if◌then◌else◌, ℤ, pos, negsuc, neg_ℤ, ◌-ℤ◌, refl, ap, sym, subst, ◌∙◌, arith}
use Rattle.std.proofs.Common.{length-append, append_assoc, append-nil, true≢false, get_or}
use Rattle.std.specs.List.{fold}
use Rattle.std.proofs.lemmas.Bool.{eq-eqb}
use Rattle.std.proofs.lemmas.Option.{none-some}
use Rattle.std.proofs.lemmas.List.Elements.{All-nil, All-cons, All-head, All-tail, All-append, All-map}
use Rattle.std.proofs.lemmas.List.Elements.{All-weaker}
use Rattle.std.proofs.lemmas.List.Folds.{list_any-append}
use Rattle.kb_base.specs.Runs.{Stretch, runs, IsStretch}
use Rattle.kb_base.proofs.Covered.{each-run, IsStretch-first, nat_eq-same}
use Rattle.kb_days.specs.Calendar.{first_day, charged_days}
use Rattle.kb_credit.specs.declared.line.Line.{Line}
use Rattle.kb_credit.specs.declared.line.Line.TheVariants as lines
use Rattle.kb_credit.specs.declared.row.Row.{Row}
use Rattle.kb_credit.specs.InvoiceRows.{InvoicesValue, credit}
use Rattle.kb_credit.specs.Levelling.{made_on, with_made, used_on, adjustment, made_items, used_items}
use Rattle.kb_credit.specs.Levelling.{level_items}
use Rattle.kb_due.specs.declared.cell.Cell.{Cell}
use Rattle.kb_due.specs.Facts.{FactsValue}
use Rattle.kb_due.specs.DueDays.{due_at, fee_at}
use Rattle.kb_tree.specs.declared.item.NewItem.{NewItem}
use Rattle.kb_tree.specs.declared.item.NewItem.TheVariants.{Bill, Repair}
use Rattle.kb_tree.specs.Items.{Numbered, Charge, charges_on, cell_at, item_cell, numbered}
use Rattle.kb_tree.specs.Amounts.{cost_if}
use Rattle.kb_tree.specs.Repairs.{new_items, new_repairs, new_bills, wrong_among, repair_of, bill_of}
use Rattle.kb_tree.specs.Covers.{IsBelow}
use Rattle.kb_tree.specs.Numbers.{AreBelow}
use Rattle.kb_tree.specs.Private.LeftCharges.{missing_runs}
use Rattle.kb_tree.specs.Issues.{SubscriptionItems, Issue, no_items, line_of, lines_of, issue_from}
use Rattle.kb_tree.proofs.WrongCharges.{wrong_among-holds}
use Rattle.kb_payment.specs.PaymentSums.{PaymentsValue}
use Rattle.kb_codec.specs.Entries.{History}
use Rattle.kb_codec.specs.Senders.{account_of, key_of}
use Rattle.kb_codec.specs.declared.action.OpenAccount.{OpenAccount}
use Rattle.kb_codec.specs.declared.command.Command.{Command}
use Rattle.kb_codec.specs.declared.command.Command.TheVariants as kinds
use Rattle.kb_codec.specs.declared.action.Action.TheVariants as actions
use Rattle.kb_book.specs.BilledBooks.{KnowsCells, AreCharged}
use Rattle.kb_book.specs.Commands.{begun, own_lines}
use Rattle.kb_book.specs.Steps.{Outcome, with_invoice, paid_from, keep, accepted_over, billed_outcome}
use Rattle.kb_book.specs.Steps.{issue_over}
use Rattle.kb_book.specs.Worlds.{WorldValue}
use Rattle.kb_book.specs.Books.{BookValue}
use Rattle.kb_book.specs.Dues.{facts_of}
use Rattle.kb_book.proofs.BegunBooks.{IsEdited, AreKept, HaveOneMore, begun-edited}
use Rattle.kb_book.proofs.BilledRows.{billed_rows}
use Rattle.kb_book.proofs.ChargedSubscriptions.{below-higher, AreBelow-higher}
use Rattle.kb_account.specs.Prepares.{opening_book}
use Rattle.kb_machine.specs.Machines.{MachineValue, no_machine, with_book, opening}
use Rattle.kb_machine.specs.Histories.{entry_after, replay}
use Rattle.kb_histories.proofs.FoundEntries.{found-put}
use Rattle.kb_histories.proofs.JudgedTexts.{judged-leaves}
use Rattle.kb_histories.proofs.BilledBooks.{were-below, were-charged, books_stay_billed}
use Rattle.kb_histories.specs.BilledMachines.{WasBilled, AreBilled}
use Rattle.kb_histories.specs.Shown.{line_at, IsShown, IsOfBill, AreRising, IsCoverShown, AllShown, cover_of}
use Rattle.kb_histories.specs.Shown.{cover_at, has_number, IsOfItem, AreOfItems, AreShown, AreShownIn}
use Rattle.kb_histories.specs.Shown.{ItemsStayShown, ReplaysAreShown}

-- a line stays at its number, with others behind it
line_at-more : (invoiced more : List (ℕ × Line)) (number : ℕ) (line : Line)
    → line_at invoiced number ≡ Some line → line_at (invoiced ++ more) number ≡ Some line
line_at-more invoiced more zero line is = is
line_at-more [] more (suc place) line is = absurd (none-some line is)
line_at-more (item ∷ invoiced) more (suc zero) line is = is
line_at-more (item ∷ invoiced) more (suc (suc place)) line is =
    line_at-more invoiced more (suc place) line is

-- lines stand among items, from a number on
abbrev Stand : List (ℕ × Line) → ℕ → List Line → Type 0
Stand invoiced number [] = Unit {0}
Stand invoiced number (line ∷ later) =
    (line_at invoiced number ≡ Some line) × Stand invoiced (number + 1) later

-- the first line behind others
line_at-behind : (front back : List (ℕ × Line)) (invoice : ℕ) (line : Line)
    → line_at (front ++ (invoice, line) ∷ back) (suc (length front)) ≡ Some line
line_at-behind [] back invoice line = refl
line_at-behind (item ∷ front) back invoice line = line_at-behind front back invoice line

-- those of an invoice stand behind the items before them
stand-issued : (front back : List (ℕ × Line)) (invoice : ℕ) (lines : List Line) (number : ℕ)
    → number ≡ length front + 1
    → Stand (front ++ (map (λ line. (invoice, line)) lines ++ back)) number lines
stand-issued front back invoice [] number is = tt
stand-issued front back invoice (line ∷ later) number is =
    let tagged : List (ℕ × Line) = map (λ line. (invoice, line)) later in
    let e : suc (length front) ≡ number = omega (arith, is) in
    let one : List (ℕ × Line) = (invoice, line) ∷ [] in (
      subst (λ n. line_at (front ++ (invoice, line) ∷ (tagged ++ back)) n ≡ Some line) e
          (line_at-behind front (tagged ++ back) invoice line),
      subst (λ (all : List (ℕ × Line)). Stand all (number + 1) later)
          (append_assoc front one (tagged ++ back))
          (stand-issued (front ++ one) back invoice later (number + 1)
          (omega (arith, is, length-append front one))),
    )

-- of two parts each stands
stand-first : (invoiced : List (ℕ × Line)) (number : ℕ) (one other : List Line)
    → Stand invoiced number (one ++ other) → Stand invoiced number one
stand-first invoiced number [] other stand = tt
stand-first invoiced number (line ∷ one) other stand =
    (stand.0, stand-first invoiced (number + 1) one other stand.1)

stand-second : (invoiced : List (ℕ × Line)) (number : ℕ) (one other : List Line)
    → Stand invoiced number (one ++ other) → Stand invoiced (number + length one) other
stand-second invoiced number [] other stand =
    let e : number ≡ number + 0 = omega arith in subst (λ n. Stand invoiced n other) e stand
stand-second invoiced number (line ∷ one) other stand =
    let e : number + 1 + length one ≡ number + suc (length one) = omega arith in
    subst (λ n. Stand invoiced n other) e (stand-second invoiced (number + 1) one other stand.1)

-- a bill's cell stays, with more items behind it
cell_at-more : (items more : List Numbered) (number : ℕ) → IsSome (cell_at items number)
    → cell_at (items ++ more) number ≡ cell_at items number
cell_at-more [] more number some = absurd (true≢false (sym some))
cell_at-more (item ∷ later) more number some =
    by_test (item.0 == number) some (cell_at-more later more number)
  where
    by_test : (same : Bool) → IsSome (if same then item_cell item.1 else cell_at later number)
        → (IsSome (cell_at later number) → cell_at (later ++ more) number ≡ cell_at later number)
        → (if same then item_cell item.1 else cell_at (later ++ more) number)
        ≡ (if same then item_cell item.1 else cell_at later number)
    by_test true here rest = refl
    by_test false here rest = rest here

module _ (sub : ℕ) (recurring : Bool) (items more : List Numbered) where
  -- so an item has the same line
  line_of-more : (item : NewItem) → IsOfBill items item
      → line_of sub recurring (cell_at items) item ≡ line_of sub recurring (cell_at (items ++ more)) item
  line_of-more (Bill from to cell) of = refl
  line_of-more (Repair number from to) of =
      ap (λ (found : Option Cell). lines.Repair sub number from to (neg_ℤ (pos (cost_if found from to))))
      (sym (cell_at-more items more number of))

  -- and repairs the same bill
  IsOfBill-more : (item : NewItem) → IsOfBill items item → IsOfBill (items ++ more) item
  IsOfBill-more (Bill from to cell) of = tt
  IsOfBill-more (Repair number from to) of = subst IsSome (sym (cell_at-more items more number of)) of

  -- the lines of new items show them
  news-shown : (invoiced : List (ℕ × Line)) (number : ℕ) (news : List NewItem)
      → All (IsOfBill items) news → Stand invoiced number (lines_of sub recurring (cell_at items) news)
      → All (IsShown invoiced sub recurring (items ++ more)) (numbered number news)
  news-shown invoiced number [] of stand = All-nil (IsShown invoiced sub recurring (items ++ more))
  news-shown invoiced number (item ∷ later) of stand =
      All-cons (IsShown invoiced sub recurring (items ++ more)) (number, item) (numbered (number + 1) later)
      (stand.0
      ∙ ap (λ (line : Line). Some line) (line_of-more item (All-head (IsOfBill items) item later of)))
      (news-shown invoiced (number + 1) later (All-tail (IsOfBill items) item later of) stand.1)

  news-bills : (number : ℕ) (news : List NewItem) → All (IsOfBill items) news
      → All (λ (item : Numbered). IsOfBill (items ++ more) item.1) (numbered number news)
  news-bills number [] of = All-nil (λ (item : Numbered). IsOfBill (items ++ more) item.1)
  news-bills number (item ∷ later) of =
      All-cons (λ (item : Numbered). IsOfBill (items ++ more) item.1) (number, item)
      (numbered (number + 1) later) (IsOfBill-more item (All-head (IsOfBill items) item later of))
      (news-bills (number + 1) later (All-tail (IsOfBill items) item later of))

-- the numbers of new items rise
numbered-rising : (least first : ℕ) (news : List NewItem) → least ≤ first
    → AreRising least (numbered first news)
numbered-rising least first [] low = tt
numbered-rising least first (item ∷ later) low =
    (low, numbered-rising (first + 1) (first + 1) later (omega arith))

-- also behind lower ones
added-rising : (least first : ℕ) (items : List Numbered) (news : List NewItem) → AreRising least items
    → All (IsBelow first) items → least ≤ first → AreRising least (items ++ numbered first news)
added-rising least first [] news rising below low = numbered-rising least first news low
added-rising least first (item ∷ later) news rising below low = (
  rising.0,
  added-rising (item.0 + 1) first later news rising.1 (All-tail (IsBelow first) item later below)
      (one item (All-head (IsBelow first) item later below)),
)
  where
    one : (item : Numbered) → IsBelow first item → item.0 + 1 ≤ first
    one (number, Bill from to cell) below = omega (arith, below)
    one (number, Repair of from to) below = omega (arith, below.0)

-- where the cell of each charge is known, new repairs are of bills
new-of-bills : (items : List Numbered) (due : ℕ → Option Cell) (day count : ℕ) → KnowsCells items
    → All (IsOfBill items) (new_items (charges_on items) due day count)
unfolding new_repairs new_bills
new-of-bills items due day count knows =
    let key = λ (d : ℕ). wrong_among (charges_on items d) (due d) in
    let repaired = runs nat_eq key day count in
    let billed = missing_runs (charges_on items) due day count in
    All-append (IsOfBill items) (map repair_of repaired) (map bill_of billed)
    (All-map (IsOfBill items) repair_of repaired
    (All-weaker (IsStretch key day (day + count)) (λ stretch. IsOfBill items (repair_of stretch))
    one repaired (each-run nat_eq nat_eq-same key day count)))
    (All-map (IsOfBill items) bill_of billed (λ k default within. tt))
  where
    one : (stretch : Stretch ℕ)
        → IsStretch (λ (d : ℕ). wrong_among (charges_on items d) (due d)) day (day + count) stretch
        → IsOfBill items (repair_of stretch)
    one stretch is =
        let found = wrong_among-holds
        (λ (charge : Charge). cell_at items charge.number ≡ Some charge.cell)
        (charges_on items stretch.from) (due stretch.from) stretch.value (knows stretch.from)
        (IsStretch-first (λ (d : ℕ). wrong_among (charges_on items d) (due d)) day (day + count) stretch
        is) in
        let at : cell_at items stretch.value ≡ Some found.0.cell =
        ap (cell_at items) (sym found.1) ∙ found.2 in
        rw at refl

module _ (before more : List (ℕ × Line)) where
  abbrev all : List (ℕ × Line)
  all = before ++ more

  -- a cover with new items, whose lines stand from their number on
  cover-added : (sub : ℕ) (recurring : Bool) (items : List Numbered) (first : ℕ) (news : List NewItem)
      → 1 ≤ first → IsCoverShown before sub recurring items → All (IsBelow first) items
      → All (IsOfBill items) news → Stand all first (lines_of sub recurring (cell_at items) news)
      → IsCoverShown all sub recurring (items ++ numbered first news)
  cover-added sub recurring items first news some shown below of stand =
      let added = numbered first news in
      let with_added = items ++ added in
      record {
        lines =
            All-append (IsShown all sub recurring with_added) items added
            (λ place default within.
            kept (get_or items place default) (shown.lines place default within)
            (shown.of_bills place default within))
            (news-shown sub recurring items added all first news of stand);
        of_bills =
            All-append (λ (item : Numbered). IsOfBill with_added item.1) items added
            (All-weaker (λ (item : Numbered). IsOfBill items item.1)
            (λ (item : Numbered). IsOfBill with_added item.1)
            (λ item is. IsOfBill-more sub recurring items added item.1 is) items shown.of_bills)
            (news-bills sub recurring items added first news of);
        in_order = added-rising 1 first items news shown.in_order below some;
      }
    where
      kept : (item : Numbered) → IsShown before sub recurring items item → IsOfBill items item.1
          → IsShown all sub recurring (items ++ numbered first news) item
      kept item is bill =
          line_at-more before more item.0 (line_of sub recurring (cell_at items) item.1) is
          ∙ ap (λ (line : Line). Some line)
          (line_of-more sub recurring items (numbered first news) item.1 bill)

-- as many lines as items
length-lines_of : (sub : ℕ) (recurring : Bool) (cells : ℕ → Option Cell) (items : List NewItem)
    → length (lines_of sub recurring cells items) ≡ length items
length-lines_of sub recurring cells [] = refl
length-lines_of sub recurring cells (item ∷ later) = ap suc (length-lines_of sub recurring cells later)

-- all subscriptions are shown with their new items
module _ (was facts : FactsValue) (once billed : Option ℕ) (before more : List (ℕ × Line)) where
  abbrev issue : ℕ → ℕ → List SubscriptionItems → Issue
  issue number sub charges = issue_from facts billed first_day charged_days number sub charges

  issue-shown : (number sub : ℕ) (charges : List SubscriptionItems) → 1 ≤ number
      → AllShown before sub charges → AreCharged was once sub charges → All (AreBelow number) charges
      → Stand (before ++ more) number (issue number sub charges).lines
      → AllShown (before ++ more) sub (issue number sub charges).charges
  issue-shown number sub [] some shown charged below stand = tt
  issue-shown number sub (items ∷ later) some shown charged below stand =
      let fees = new_items (charges_on items.fees) (fee_at facts sub billed) first_day charged_days in
      let recurring =
      new_items (charges_on items.recurring) (due_at facts sub billed) first_day charged_days in
      let fee_lines = lines_of sub false (cell_at items.fees) fees in
      let due_lines = lines_of sub true (cell_at items.recurring) recurring in
      let own = fee_lines ++ due_lines in
      let next = number + length own in
      let low : AreBelow number items = All-head (AreBelow number) items later below in
      let count = length-lines_of sub false (cell_at items.fees) fees in
      let behind : number + length fee_lines ≡ number + length fees = omega (arith, count) in
      let here = stand-first (before ++ more) number own (issue next (sub + 1) later).lines stand in
      let rest = stand-second (before ++ more) number own (issue next (sub + 1) later).lines stand in (
        cover-added before more sub false items.fees number fees some shown.0 low.fees
            (new-of-bills items.fees (fee_at facts sub billed) first_day charged_days charged.0.fee_cells)
            (stand-first (before ++ more) number fee_lines due_lines here),
        cover-added before more sub true items.recurring (number + length fees) recurring
            (omega (arith, some)) shown.1
            (below-higher number (number + length fees) items.recurring (omega arith) low.recurring)
            (new-of-bills items.recurring (due_at facts sub billed) first_day charged_days
            charged.0.recurring_cells)
            (subst (λ n. Stand (before ++ more) n due_lines) behind
            (stand-second (before ++ more) number fee_lines due_lines here)),
        issue-shown next (sub + 1) later (omega (arith, some)) shown.2 charged.1
            (All-weaker (AreBelow number) (AreBelow next)
            (λ one is. AreBelow-higher number next one (omega arith) is) later
            (All-tail (AreBelow number) items later below))
            rest,
      )

-- what is there in a cover is there after it
abbrev Keeps : List SubscriptionItems → List SubscriptionItems → Type 0
Keeps charges after =
    (number sub : ℕ) (recurring : Bool) → has_number number (cover_at charges sub recurring) ≡ true
    → has_number number (cover_at after sub recurring) ≡ true

IsOfItem-keeps : (charges after : List SubscriptionItems) (number : ℕ) (line : Line) → Keeps charges after
    → IsOfItem charges number line → IsOfItem after number line
IsOfItem-keeps charges after number (lines.Bill sub recurring from to amount) keeps is =
    keeps number sub recurring is
IsOfItem-keeps charges after number (lines.Repair sub of from to amount) keeps (inl is) =
    inl (keeps number sub false is)
IsOfItem-keeps charges after number (lines.Repair sub of from to amount) keeps (inr is) =
    inr (keeps number sub true is)
IsOfItem-keeps charges after number (lines.Charge amount) keeps is = tt
IsOfItem-keeps charges after number (lines.Credit amount) keeps is = tt
IsOfItem-keeps charges after number (lines.Cba amount) keeps is = tt

AreOfItems-keeps : (charges after : List SubscriptionItems) (number : ℕ) (invoiced : List (ℕ × Line))
    → Keeps charges after → AreOfItems charges number invoiced → AreOfItems after number invoiced
AreOfItems-keeps charges after number [] keeps are = tt
AreOfItems-keeps charges after number (item ∷ later) keeps are = (
  IsOfItem-keeps charges after number item.1 keeps are.0,
  AreOfItems-keeps charges after (number + 1) later keeps are.1,
)

-- of two parts
AreOfItems-append : (charges : List SubscriptionItems) (number : ℕ) (one other : List (ℕ × Line))
    → AreOfItems charges number one → AreOfItems charges (number + length one) other
    → AreOfItems charges number (one ++ other)
AreOfItems-append charges number [] other are also =
    let e : number + 0 ≡ number = omega arith in subst (λ n. AreOfItems charges n other) e also
AreOfItems-append charges number (item ∷ one) other are also =
    let e : number + suc (length one) ≡ number + 1 + length one = omega arith in (
      are.0,
      AreOfItems-append charges (number + 1) one other are.1
          (subst (λ n. AreOfItems charges n other) e also),
    )

-- lines are those of items, each by its number
abbrev LinesOf : List SubscriptionItems → ℕ → List Line → Type 0
LinesOf charges number [] = Unit {0}
LinesOf charges number (line ∷ later) = IsOfItem charges number line × LinesOf charges (number + 1) later

LinesOf-append : (charges : List SubscriptionItems) (number : ℕ) (one other : List Line)
    → LinesOf charges number one → LinesOf charges (number + length one) other
    → LinesOf charges number (one ++ other)
LinesOf-append charges number [] other are also =
    let e : number + 0 ≡ number = omega arith in subst (λ n. LinesOf charges n other) e also
LinesOf-append charges number (line ∷ one) other are also =
    let e : number + suc (length one) ≡ number + 1 + length one = omega arith in
    (are.0, LinesOf-append charges (number + 1) one other are.1 (subst (λ n. LinesOf charges n other) e also))

-- on an invoice
lines-issued : (charges : List SubscriptionItems) (number invoice : ℕ) (lines : List Line)
    → LinesOf charges number lines → AreOfItems charges number (map (λ line. (invoice, line)) lines)
lines-issued charges number invoice [] are = tt
lines-issued charges number invoice (line ∷ later) are =
    (are.0, lines-issued charges (number + 1) invoice later are.1)

-- a test that holds beside another
or-left : (one other : Bool) → one ≡ true → (one || other) ≡ true
or-left one other is = rw is refl

or-right : (one other : Bool) → other ≡ true → (one || other) ≡ true
or-right true other is = refl
or-right false other is = is

module _ (charges : List SubscriptionItems) (sub : ℕ) (cells : ℕ → Option Cell) where
  -- a number is there in one of a subscription's covers
  in-either : (number : ℕ) (recurring : Bool) → has_number number (cover_at charges sub recurring) ≡ true
      → (has_number number (cover_at charges sub false) ≡ true)
      ⊎ (has_number number (cover_at charges sub true) ≡ true)
  in-either number false is = inl is
  in-either number true is = inr is

  -- the lines of new items that are there
  news-of : (recurring : Bool) (number : ℕ) (news : List NewItem)
      → ((n : ℕ) → has_number n (numbered number news) ≡ true
      → has_number n (cover_at charges sub recurring) ≡ true)
      → LinesOf charges number (lines_of sub recurring cells news)
  news-of recurring number [] there = tt
  news-of recurring number (item ∷ later) there = (
    one item
        (there number
        (or-left (number == number) (has_number number (numbered (number + 1) later))
        (eq-eqb number number refl))),
    news-of recurring (number + 1) later
        (λ n is. there n (or-right (number == n) (has_number n (numbered (number + 1) later)) is)),
  )
    where
      one : (item : NewItem) → has_number number (cover_at charges sub recurring) ≡ true
          → IsOfItem charges number (line_of sub recurring cells item)
      one (Bill from to cell) is = is
      one (Repair of from to) is = in-either number recurring is

-- the items of a subscription behind others
cover_at-behind : (front back : List SubscriptionItems) (items : SubscriptionItems) (recurring : Bool)
    → cover_at (front ++ items ∷ back) (length front) recurring ≡ cover_of recurring items
cover_at-behind [] back items recurring = refl
cover_at-behind (first ∷ front) back items recurring = cover_at-behind front back items recurring

module _ (facts : FactsValue) (billed : Option ℕ) where
  abbrev issue_for : ℕ → ℕ → List SubscriptionItems → Issue
  issue_for number sub charges = issue_from facts billed first_day charged_days number sub charges

  -- the lines of an issue are of items that are there after it
  issue-lines : (front : List SubscriptionItems) (number sub : ℕ) (charges : List SubscriptionItems)
      → sub ≡ length front
      → LinesOf (front ++ (issue_for number sub charges).charges) number (issue_for number sub charges).lines
  issue-lines front number sub [] is = tt
  issue-lines front number sub (items ∷ later) is =
      let fees = new_items (charges_on items.fees) (fee_at facts sub billed) first_day charged_days in
      let recurring =
      new_items (charges_on items.recurring) (due_at facts sub billed) first_day charged_days in
      let fee_lines = lines_of sub false (cell_at items.fees) fees in
      let due_lines = lines_of sub true (cell_at items.recurring) recurring in
      let next = number + length (fee_lines ++ due_lines) in
      let rest = issue_for next (sub + 1) later in
      let after : SubscriptionItems = record {
        fees = items.fees ++ numbered number fees;
        recurring = items.recurring ++ numbered (number + length fees) recurring;
      } in
      let all : List SubscriptionItems = front ++ after ∷ rest.charges in
      let here : (kind : Bool) → cover_at all sub kind ≡ cover_of kind after =
      λ kind. ap (λ place. cover_at all place kind) is ∙ cover_at-behind front rest.charges after kind in
      let count = length-lines_of sub false (cell_at items.fees) fees in
      let behind : number + length fees ≡ number + length fee_lines = omega (arith, count) in
      let one : List SubscriptionItems = after ∷ [] in
      LinesOf-append all number (fee_lines ++ due_lines) rest.lines
      (LinesOf-append all number fee_lines due_lines
      (news-of all sub (cell_at items.fees) false number fees
      (λ n there. ap (has_number n) (here false)
      ∙ list_any-append (λ (item : Numbered). item.0 == n) items.fees (numbered number fees)
      ∙ or-right (has_number n items.fees) (has_number n (numbered number fees)) there))
      (subst (λ n. LinesOf all n due_lines) behind
      (news-of all sub (cell_at items.recurring) true (number + length fees) recurring
      (λ n there. ap (has_number n) (here true)
      ∙ list_any-append (λ (item : Numbered). item.0 == n) items.recurring
      (numbered (number + length fees) recurring)
      ∙ or-right (has_number n items.recurring) (has_number n (numbered (number + length fees) recurring))
      there))))
      (subst (λ (all : List SubscriptionItems). LinesOf all next rest.lines)
      (append_assoc front one rest.charges)
      (issue-lines (front ++ one) next (sub + 1) later (omega (arith, is, length-append front one))))

  -- and the items that were there are there
  issue-keeps : (first place : ℕ) (charges : List SubscriptionItems)
      → Keeps charges (issue_for first place charges).charges
  issue-keeps first place [] number sub recurring is = is
  issue-keeps first place (items ∷ later) number zero false is =
      let news = new_items (charges_on items.fees) (fee_at facts place billed) first_day charged_days in
      list_any-append (λ (item : Numbered). item.0 == number) items.fees (numbered first news)
      ∙ or-left (has_number number items.fees) (has_number number (numbered first news)) is
  issue-keeps first place (items ∷ later) number zero true is =
      let fees = new_items (charges_on items.fees) (fee_at facts place billed) first_day charged_days in
      let news = new_items (charges_on items.recurring) (due_at facts place billed) first_day charged_days in
      list_any-append (λ (item : Numbered). item.0 == number) items.recurring
      (numbered (first + length fees) news)
      ∙ or-left (has_number number items.recurring)
      (has_number number (numbered (first + length fees) news)) is
  issue-keeps first place (items ∷ later) number (suc sub) recurring is =
      let fees = new_items (charges_on items.fees) (fee_at facts place billed) first_day charged_days in
      let news = new_items (charges_on items.recurring) (due_at facts place billed) first_day charged_days in
      let own = lines_of place false (cell_at items.fees) fees
      ++ lines_of place true (cell_at items.recurring) news in
      issue-keeps (first + length own) (place + 1) later number sub recurring is

-- adjustments are of no item
adjustment-of : (charges : List SubscriptionItems) (invoice : ℕ) (amount : ℤ) (later : List (ℕ × Line))
    (number : ℕ) → ((n : ℕ) → AreOfItems charges n later)
    → AreOfItems charges number (adjustment invoice amount later)
adjustment-of charges invoice (pos zero) later number are = are number
adjustment-of charges invoice (pos (suc n)) later number are = (tt, are (number + 1))
adjustment-of charges invoice (negsuc n) later number are = (tt, are (number + 1))

made-of : (charges : List SubscriptionItems) (invoice : ℕ) (rows : List Row) (number : ℕ)
    → AreOfItems charges number (made_items invoice rows)
made-of charges invoice [] number = tt
made-of charges invoice (row ∷ rows) number =
    adjustment-of charges invoice (made_on row) (made_items (invoice + 1) rows) number
    (made-of charges (invoice + 1) rows)

used-of : (charges : List SubscriptionItems) (left : ℤ) (invoice : ℕ) (rows : List Row) (number : ℕ)
    → AreOfItems charges number (used_items left invoice rows)
used-of charges left invoice [] number = tt
used-of charges left invoice (row ∷ rows) number =
    adjustment-of charges invoice (neg_ℤ (used_on left row))
    (used_items (left -ℤ used_on left row) (invoice + 1) rows) number
    (used-of charges (left -ℤ used_on left row) (invoice + 1) rows)

level-of : (charges : List SubscriptionItems) (rows : List Row) (number : ℕ)
    → AreOfItems charges number (level_items rows)
level-of charges rows number =
    let made = map with_made rows in
    AreOfItems-append charges number (made_items 1 rows) (used_items (credit made) 1 made)
    (made-of charges 1 rows number)
    (used-of charges (credit made) 1 made (number + length (made_items 1 rows)))

-- the items of an invoice's lines
issued-items : (invoices : InvoicesValue) (today : ℕ) (lines : List Line)
    → (with_invoice invoices today lines).items
    ≡ invoices.items ++ map (λ line. (length invoices.rows + 1, line)) lines
issued-items invoices today [] = sym (append-nil invoices.items)
issued-items invoices today (line ∷ later) = refl

-- once all is billed, what charges days is shown
module _ (was facts : FactsValue) (once billed : Option ℕ) (payments : PaymentsValue)
    (invoices : InvoicesValue) (today : ℕ) (charges : List SubscriptionItems) (own : List Line) where
  abbrev made_now : Issue
  made_now = issue_for facts billed (length invoices.items + 1) 0 charges

  abbrev after : InvoicesValue
  after = billed_rows payments invoices today (made_now.lines ++ own)

  abbrev tagged : List (ℕ × Line)
  tagged = map (λ line. (length invoices.rows + 1, line)) (made_now.lines ++ own)

  abbrev levels : List (ℕ × Line)
  levels = level_items (paid_from payments 1 (with_invoice invoices today (made_now.lines ++ own)).rows)

  after-items : invoices.items ++ (tagged ++ levels) ≡ after.items
  after-items =
      sym (append_assoc invoices.items tagged levels)
      ∙ ap (λ items. items ++ levels) (sym (issued-items invoices today (made_now.lines ++ own)))

  pub billed-shown : AllShown invoices.items 0 charges → AreCharged was once 0 charges
      → All (AreBelow (length invoices.items + 1)) charges → AllShown after.items 0 made_now.charges
  billed-shown shown charged below =
      let first = length invoices.items + 1 in
      subst (λ (items : List (ℕ × Line)). AllShown items 0 made_now.charges) after-items
      (issue-shown was facts once billed invoices.items (tagged ++ levels) first 0 charges (omega arith) shown
      charged below
      (stand-first (invoices.items ++ (tagged ++ levels)) first made_now.lines own
      (stand-issued invoices.items levels (length invoices.rows + 1) (made_now.lines ++ own) first refl)))

  pub billed-no-others : AreOfItems charges 1 invoices.items
      → ((all : List SubscriptionItems) (number : ℕ) → LinesOf all number own)
      → AreOfItems made_now.charges 1 after.items
  billed-no-others are plain =
      let first = length invoices.items + 1 in
      let new = made_now.charges in
      let e : first ≡ 1 + length invoices.items = omega arith in
      subst (λ (items : List (ℕ × Line)). AreOfItems new 1 items) after-items
      (AreOfItems-append new 1 invoices.items (tagged ++ levels)
      (AreOfItems-keeps charges new 1 invoices.items
      (issue-keeps facts billed first 0 charges) are)
      (subst (λ n. AreOfItems new n (tagged ++ levels)) e
      (AreOfItems-append new first tagged levels
      (lines-issued new first (length invoices.rows + 1) (made_now.lines ++ own)
      (LinesOf-append new first made_now.lines own (issue-lines facts billed [] first 0 charges refl)
      (plain new (first + length made_now.lines))))
      (level-of new (paid_from payments 1 (with_invoice invoices today (made_now.lines ++ own)).rows)
      (first + length tagged)))))

-- the line of a command is of no item
own_lines-of : (command : Command) (charges : List SubscriptionItems) (number : ℕ)
    → LinesOf charges number (own_lines command)
own_lines-of (kinds.Act account key (actions.Charge c)) charges number = (tt, tt)
own_lines-of (kinds.Act account key (actions.Credit c)) charges number = (tt, tt)
own_lines-of command charges number = tt

-- a subscription that starts has no item yet
none-shown : (invoiced : List (ℕ × Line)) (sub : ℕ) (recurring : Bool)
    → IsCoverShown invoiced sub recurring []
none-shown invoiced sub recurring = record {
  lines = All-nil (IsShown invoiced sub recurring []);
  of_bills = All-nil (λ (item : Numbered). IsOfBill [] item.1);
  in_order = tt;
}

start-shown : (invoiced : List (ℕ × Line)) (sub : ℕ) (charges : List SubscriptionItems)
    → AllShown invoiced sub charges → AllShown invoiced sub (charges ++ no_items ∷ [])
start-shown invoiced sub [] shown = (none-shown invoiced sub false, none-shown invoiced sub true, tt)
start-shown invoiced sub (items ∷ later) shown =
    (shown.0, shown.1, start-shown invoiced (sub + 1) later shown.2)

start-keeps : (charges : List SubscriptionItems) → Keeps charges (charges ++ no_items ∷ [])
start-keeps [] number zero recurring is = is
start-keeps [] number (suc sub) recurring is = is
start-keeps (items ∷ later) number zero recurring is = is
start-keeps (items ∷ later) number (suc sub) recurring is = start-keeps later number sub recurring is

-- an answer that is kept changes nothing of it
shown-keep : (command : Command) (key : Option (List ℕ)) (outcome : Outcome) → AreShown outcome.1
    → AreShown (keep command key outcome).1
shown-keep command None outcome are = are
shown-keep command (Some key) outcome are = record { shown = are.shown; no_others = are.no_others }

-- the items of an edited book are shown
module _ (book edited : BookValue) (own : List Line) (edit : IsEdited book edited own)
    (are : AreShown book) where
  edited-shown : AllShown edited.invoices.items 0 edited.charges
  edited-shown =
      subst (λ (invoices : InvoicesValue). AllShown invoices.items 0 edited.charges) (sym edit.invoices)
      (by_edit edit.subscriptions)
    where
      by_edit : AreKept book edited ⊎ HaveOneMore book edited → AllShown book.invoices.items 0 edited.charges
      by_edit (inl kept) =
          subst (λ (charges : List SubscriptionItems). AllShown book.invoices.items 0 charges) (sym kept.0)
          are.shown
      by_edit (inr more) =
          subst (λ (charges : List SubscriptionItems). AllShown book.invoices.items 0 charges) (sym more.0)
          (start-shown book.invoices.items 0 book.charges are.shown)

  edited-no-others : AreOfItems edited.charges 1 edited.invoices.items
  edited-no-others =
      subst (λ (invoices : InvoicesValue). AreOfItems edited.charges 1 invoices.items) (sym edit.invoices)
      (by_edit edit.subscriptions)
    where
      by_edit : AreKept book edited ⊎ HaveOneMore book edited
          → AreOfItems edited.charges 1 book.invoices.items
      by_edit (inl kept) =
          subst (λ (charges : List SubscriptionItems). AreOfItems charges 1 book.invoices.items) (sym kept.0)
          are.no_others
      by_edit (inr more) =
          subst (λ (charges : List SubscriptionItems). AreOfItems charges 1 book.invoices.items) (sym more.0)
          (AreOfItems-keeps book.charges (book.charges ++ no_items ∷ []) 1 book.invoices.items
          (start-keeps book.charges) are.no_others)

-- each accepted command leaves a book so
shown-accepted : (world : WorldValue) (book : BookValue) (today : ℕ) (command : Command) → WasBilled book
    → AreShown book → AreShown (accepted_over world book today command first_day charged_days).1
shown-accepted world book today command was are =
    let edited : BookValue = begun world book today command in
    let own : List Line = own_lines command in
    let edit = begun-edited world book today command in
    let facts : FactsValue = facts_of world edited in
    shown-keep command (key_of command)
    (billed_outcome edited today (issue_over world edited first_day charged_days) own)
    (record {
      shown =
          billed-shown (facts_of was.world book) facts book.billed edited.billed edited.payments
          edited.invoices today edited.charges own (edited-shown book edited own edit are)
          (were-charged world book edited own today was edit)
          (were-below world book edited own today was edit);
      no_others =
          billed-no-others (facts_of was.world book) facts book.billed edited.billed edited.payments
          edited.invoices today edited.charges own (edited-no-others book edited own edit are)
          (own_lines-of command);
    })

-- an account that is opened has no item
shown-opened : (world : WorldValue) (today : ℕ) (name request : List ℕ) (c : OpenAccount)
    → AreShown
    (accepted_over world (opening_book (opening name request c)) today (opening name request c) first_day
    charged_days).1
shown-opened world today name request c = record { shown = tt; no_others = tt }

-- with one more book
shown-put : (machine : MachineValue) (own : List ℕ) (value : BookValue) → AreShownIn machine → AreShown value
    → AreShownIn (with_book machine own value)
shown-put machine own value are shown = record {
  shown =
      λ account book. found-put account own value machine.books
      (λ found. found ≡ Some book → AreShown book)
      (λ other there. are.shown account book there)
      (λ same there. let one : value ≡ book = cc in subst AreShown one shown);
}

-- each command leaves all books so
pub items_stay_shown : ItemsStayShown
items_stay_shown machine today command were are =
    judged-leaves machine today AreShownIn are command (λ texts more. record { shown = are.shown })
    (λ name request c. shown-put machine (account_of command) _ are
    (shown-opened machine.texts.world today name request c))
    (λ book there none.
    shown-put machine (account_of command) _ are
    (shown-accepted machine.texts.world book today command (were.billed (account_of command) book there)
    (are.shown (account_of command) book there)))

-- and so does each history
shown-after : (later : History) (machine : MachineValue) → AreBilled machine → AreShownIn machine
    → AreShownIn (fold entry_after machine later)
shown-after [] machine were are = are
shown-after (entry ∷ later) machine were are =
    shown-after later (entry_after machine entry) (books_stay_billed machine entry.0 entry.1 were)
    (items_stay_shown machine entry.0 entry.1 were are)

pub replays_are_shown : ReplaysAreShown
unfolding replay
replays_are_shown history =
    shown-after history no_machine (record { billed = λ account book there. absurd (cc); ordered = tt })
    (record { shown = λ account book there. absurd (cc) })
