-- What is issued for one subscription after another.
use Rattle.std.proofs.Common.{ℕ, ◌≡◌, ◌+◌, ◌<◌, ◌≤◌, Bool, List, [], ◌∷◌, ◌++◌, length, All, Option, arith}
use Rattle.std.proofs.Common.{sym, ap, ap₂, ◌∙◌, refl, append_assoc, length-append, drop, get_or, subst}
use Rattle.std.proofs.lemmas.List.Elements.{All-nil, All-cons, All-append, All-weaker}
use Rattle.kb_days.specs.Calendar.{first_day, charged_days}
use Rattle.kb_credit.specs.declared.line.Line.{Line}
use Rattle.kb_credit.proofs.PassSteps.{drop_one}
use Rattle.kb_due.specs.declared.cell.Cell.{Cell}
use Rattle.kb_due.specs.Facts.{FactsValue}
use Rattle.kb_due.specs.DueDays.{due_at, fee_at}
use Rattle.kb_tree.specs.declared.item.NewItem.{NewItem}
use Rattle.kb_tree.specs.Items.{charges_on}
use Rattle.kb_tree.specs.Repairs.{new_items}
use Rattle.kb_tree.specs.Issues.{Issue, SubscriptionItems, lines_of, both_issues, issue_from, items_due}
use Rattle.kb_tree.specs.Issues.{subscription_issue}
use Rattle.kb_tree.specs.Numbers.{AreBelow}
use Rattle.kb_tree.proofs.NumberedItems.{new_items-due, higher}

-- as many lines as items
pub lines_of-length : (sub : ℕ) (recurring : Bool) (cells : ℕ → Option Cell) (items : List NewItem)
    → length (lines_of sub recurring cells items) ≡ length items
lines_of-length sub recurring cells [] = refl
lines_of-length sub recurring cells (item ∷ later) =
    let rest = lines_of-length sub recurring cells later in omega (arith, rest)

-- the lines of two lists of items, one after the other, are as many as these
pub lines-length : (lines front both : List Line) (sub : ℕ) (one other : Bool)
    (cells others : ℕ → Option Cell)
    (fees fees_seen charges charges_seen : List NewItem)
    → lines ≡ [] → fees_seen ≡ fees → charges_seen ≡ charges
    → front ≡ lines ++ lines_of sub one cells fees_seen
    → both ≡ front ++ lines_of sub other others charges_seen
    → length both ≡ length fees + length charges
lines-length lines front both sub one other cells others fees fees_seen charges charges_seen none fee charge
    first second =
    omega (
      arith,
      ap length none,
      ap length fee,
      ap length charge,
      ap length first,
      ap length second,
      length-append lines (lines_of sub one cells fees_seen),
      length-append front (lines_of sub other others charges_seen),
      lines_of-length sub one cells fees_seen,
      lines_of-length sub other others charges_seen,
    )

-- the new items of a subscription for due cells that are the same each day
pub items_due-same : (fee due same_fee same : ℕ → Option Cell) (number sub : ℕ) (items : SubscriptionItems)
    → ((d : ℕ) → fee d ≡ same_fee d) → ((d : ℕ) → due d ≡ same d)
    → subscription_issue number sub items (new_items (charges_on items.fees) fee first_day charged_days)
    (new_items (charges_on items.recurring) due first_day charged_days)
    ≡ items_due same_fee same first_day charged_days number sub items
items_due-same fee due same_fee same number sub items fees dues =
    ap₂ (subscription_issue number sub items)
    (new_items-due (charges_on items.fees) fee same_fee first_day charged_days fees)
    (new_items-due (charges_on items.recurring) due same first_day charged_days dues)

-- three issues, one after another
both_issues-assoc : (one two three : Issue)
    → both_issues (both_issues one two) three ≡ both_issues one (both_issues two three)
both_issues-assoc one two three =
    ap₂ (λ lines charges. record { lines = lines; charges = charges })
    (append_assoc one.lines two.lines three.lines) (append_assoc one.charges two.charges three.charges)

-- one subscription more is issued
issue_from-step : (facts : FactsValue) (billed : Option ℕ) (first sub : ℕ) (items : SubscriptionItems)
    (later : List SubscriptionItems) (lines more : List Line) (done next : List SubscriptionItems)
    → record { lines = more; charges = next }
    ≡ items_due (fee_at facts sub billed) (due_at facts sub billed) first_day charged_days
    (first + length lines) sub
    items
    → both_issues (record { lines = lines ++ more; charges = done ++ next })
    (issue_from facts billed first_day charged_days (first + length (lines ++ more)) (sub + 1) later)
    ≡ both_issues (record { lines = lines; charges = done })
    (issue_from facts billed first_day charged_days (first + length lines) sub (items ∷ later))
issue_from-step facts billed first sub items later lines more done next is =
    let acc : Issue = record { lines = lines; charges = done } in
    let one : Issue = record { lines = more; charges = next } in
    let number : first + length (lines ++ more) ≡ first + length lines + length more =
    omega (arith, length-append lines more) in
    let rest : ℕ → Issue = λ n. issue_from facts billed first_day charged_days n (sub + 1) later in
    ap (λ n. both_issues (both_issues acc one) (rest n)) number
    ∙ both_issues-assoc acc one (rest (first + length lines + length more))
    ∙ ap (λ (i : Issue). both_issues acc (both_issues i (rest (first + length lines + length i.lines)))) is

-- the same of one among some subscriptions
pub issue_from-more : (facts : FactsValue) (billed : Option ℕ) (first sub place number : ℕ)
    (charges : List SubscriptionItems) (items : SubscriptionItems) (lines more all_lines : List Line)
    (done next all : List SubscriptionItems)
    → sub < length charges → items ≡ get_or charges sub items → place ≡ sub → number ≡ length lines
    → all_lines ≡ lines ++ more → all ≡ done ++ next
    → record { lines = more; charges = next }
    ≡ items_due (fee_at facts place billed) (due_at facts place billed) first_day charged_days
    (first + number) place
    items
    → both_issues (record { lines = all_lines; charges = all })
    (issue_from facts billed first_day charged_days (first + length all_lines) (sub + 1)
    (drop (sub + 1) charges))
    ≡ both_issues (record { lines = lines; charges = done })
    (issue_from facts billed first_day charged_days (first + length lines) sub (drop sub charges))
issue_from-more facts billed first sub place number charges items lines more all_lines done next all
    low one here from
    lines_are all_are is =
    let issue : ℕ → ℕ → Issue = λ at n.
    items_due (fee_at facts at billed) (due_at facts at billed) first_day charged_days (first + n) at items in
    let rest : ℕ → Issue =
    λ n. issue_from facts billed first_day charged_days (first + n) (sub + 1) (drop (sub + 1) charges) in
    ap₂ (λ (l : List Line) (c : List SubscriptionItems). both_issues (record { lines = l; charges = c })
    (rest (length l)))
    lines_are all_are
    ∙ issue_from-step facts billed first sub items (drop (sub + 1) charges) lines more done next
    (is ∙ ap₂ issue here from)
    ∙ ap (λ (l : List SubscriptionItems). both_issues (record { lines = lines; charges = done })
    (issue_from facts billed first_day charged_days (first + length lines) sub l))
    (sym (drop_one charges sub items low one))

-- numbers that are below one are below a higher one
pub AreBelow-higher : (first past : ℕ) (items : SubscriptionItems) → first ≤ past → AreBelow first items
    → AreBelow past items
AreBelow-higher first past items high below = record {
  fees = higher first past items.fees high below.fees;
  recurring = higher first past items.recurring high below.recurring;
}

-- one of some subscriptions, whose numbers are all below
pub one-below : (first past index : ℕ) (charges : List SubscriptionItems) (one : SubscriptionItems)
    → index < length charges → one ≡ get_or charges index one → first ≤ past → All (AreBelow first) charges
    → AreBelow past one
one-below first past index charges one low is high below =
    AreBelow-higher first past one high (subst (AreBelow first) (sym is) (below index one low))

-- one more behind some
pub all-below : (old new : ℕ) (done all : List SubscriptionItems) (next : SubscriptionItems) → old ≤ new
    → All (AreBelow old) done → AreBelow new next → all ≡ done ++ next ∷ [] → All (AreBelow new) all
all-below old new done all next high below here is =
    subst (λ (l : List SubscriptionItems). All (AreBelow new) l) (sym is)
    (All-append (AreBelow new) done (next ∷ [])
    (All-weaker (AreBelow old) (AreBelow new) (λ items. AreBelow-higher old new items high) done below)
    (All-cons (AreBelow new) next [] here (All-nil (AreBelow new))))

pub ruleset issued = (items_due-same, lines_of-length, higher)
