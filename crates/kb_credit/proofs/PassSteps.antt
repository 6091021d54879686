-- One step of each walk over open invoices.
use Rattle.std.proofs.Common.{◌≡◌, ℕ, zero, suc, ◌+◌, ◌^◌, ◌≤◌, ◌<◌, List, [], ◌∷◌, ◌++◌, ℤ, pos, negsuc}
use Rattle.std.proofs.Common.{neg_ℤ, ◌+ℤ◌}
use Rattle.std.proofs.Common.{◌-ℤ◌, ◌≤ℤ◌, nat_abs, length, get_or, drop, refl, ap, ap₂, ◌∙◌, sym, arith}
use Rattle.std.proofs.Common.{append_assoc}
use Rattle.std.specs.Prelude.{FitsSigned}
use Rattle.std.specs.Int.{int_max, w128}
use Rattle.std.proofs.lemmas.Int.{ints, clamps, fits_signed_from_abs}
use Rattle.std.proofs.lemmas.List.{drop_more}
use Rattle.kb_credit.specs.Sizes.{size_of}
use Rattle.kb_credit.specs.declared.open_invoice.OpenInvoice.{OpenInvoice}
use Rattle.kb_credit.specs.declared.adjustment.Adjustment.{Adjustment}
use Rattle.kb_credit.specs.Private.OpenInvoices.{opening, is_due, due_sum, due_count}
use Rattle.std.specs.List.{filter}
use Rattle.std.proofs.Common.{Bool, true, false, cond}
use Rattle.kb_credit.specs.Private.Passes.{adjusting, made, taken, all_used, with_all_made, still_open}
use Rattle.kb_credit.proofs.Integers.{nat_abs-add, nat_abs-between, nat_abs-most}
use Rattle.kb_credit.proofs.RowBalances.{int_max-least}
use Rattle.kb_credit.proofs.OpenedRows.{opening-append}
use Rattle.kb_credit.proofs.LevelledRows.{made-least}

-- a number of up to 126 bits fits
pub fits : (z : ℤ) → nat_abs z ≤ 2 ^ 126 → FitsSigned w128 z
fits z small = fits_signed_from_abs w128 z (omega (arith, small))

-- what is left begins with the one that is read
pub drop_one : {A : Type 0} (members : List A) (index : ℕ) (one : A) → index < length members
    → one ≡ get_or members index one → drop index members ≡ one ∷ drop (index + 1) members
drop_one members index one low is =
    drop_more members index one low ∙ ap (λ first. first ∷ drop (index + 1) members) (sym is)

-- an adjustment in front of others is the list of it and the others
adjusting-append : (number : ℕ) (amount : ℤ) (later : List Adjustment)
    → adjusting number amount later ≡ adjusting number amount [] ++ later
adjusting-append number (pos zero) later = refl
adjusting-append number (pos (suc n)) later = refl
adjusting-append number (negsuc n) later = refl

-- one more adjustment is noted
pub noted_step : (number : ℕ) (amount same : ℤ) (noted now later whole : List Adjustment)
    → noted ++ adjusting number amount later ≡ whole → same ≡ amount
    → now ≡ noted ++ adjusting number same [] → now ++ later ≡ whole
noted_step number amount same noted now later whole before is more =
    ap (λ all. all ++ later) (more ∙ ap (λ a. noted ++ adjusting number a []) is)
    ∙ append_assoc noted (adjusting number amount []) later
    ∙ ap (λ all. noted ++ all) (sym (adjusting-append number amount later))
    ∙ before

-- one more open invoice is added
pub opened_step : (number day : ℕ) (balance same : ℤ) (so_far now later whole : List OpenInvoice)
    → so_far ++ opening number day balance later ≡ whole → same ≡ balance
    → now ≡ so_far ++ opening number day same [] → now ++ later ≡ whole
opened_step number day balance same so_far now later whole before is more =
    ap (λ all. all ++ later) (more ∙ ap (λ b. so_far ++ opening number day b []) is)
    ∙ append_assoc so_far (opening number day balance []) later
    ∙ ap (λ all. so_far ++ all) (sym (opening-append number day balance [] later))
    ∙ before

-- the credit moves by what is made
pub made_step : (one : OpenInvoice) (later : List OpenInvoice) (left amount next whole : ℤ)
    → with_all_made left (one ∷ later) ≡ whole → amount ≡ made one.balance → next ≡ left +ℤ amount
    → with_all_made next later ≡ whole
made_step one later left amount next whole before is moves =
    ap (λ sum. with_all_made sum later) (moves ∙ ap (λ a. left +ℤ a) is) ∙ before

-- and no sum is too large
pub made_bound : (members : List OpenInvoice) (index : ℕ) (one : OpenInvoice) (left amount : ℤ)
    → index < length members → one ≡ get_or members index one
    → nat_abs left + size_of (λ (one : OpenInvoice). one.balance) (drop index members) ≤ 2 ^ 126
    → nat_abs amount ≤ nat_abs one.balance
    → nat_abs (left +ℤ amount) + size_of (λ (one : OpenInvoice). one.balance) (drop (index + 1) members)
    ≤ 2 ^ 126
made_bound members index one left amount low is before small =
    let cut = ap (size_of (λ (one : OpenInvoice). one.balance)) (drop_one members index one low is) in
    let sum = nat_abs-add left amount in
    omega arith

-- what is due is at least 0 and at most the size of all
due_sum-least : (invoices : List OpenInvoice) → pos 0 ≤ℤ due_sum invoices
due_sum-least [] = omega (arith, ints)
due_sum-least (one ∷ later) =
    let here = int_max-least one.balance in let rest = due_sum-least later in omega (arith, ints)

pub due_sum-most : (invoices : List OpenInvoice)
    → due_sum invoices ≤ℤ pos (size_of (λ (one : OpenInvoice). one.balance) invoices)
due_sum-most [] = omega (arith, ints)
due_sum-most (one ∷ later) =
    let here = nat_abs-most one.balance in
    let rest = due_sum-most later in
    let size = nat_abs one.balance in
    let more = size_of (λ (one : OpenInvoice). one.balance) later in
    let e : (int_max (pos 0) one.balance +ℤ due_sum later) ≤ℤ pos (size + more) =
    omega (arith, ints, clamps) in
    e

pub due_step : (one : OpenInvoice) (later : List OpenInvoice) (sum amount next whole : ℤ)
    → sum +ℤ due_sum (one ∷ later) ≡ whole → amount ≡ int_max (pos 0) one.balance → next ≡ sum +ℤ amount
    → next +ℤ due_sum later ≡ whole
due_step one later sum amount next whole before is moves =
    let rest = due_sum later in
    let first = int_max (pos 0) one.balance in
    let known : sum +ℤ (first +ℤ rest) ≡ whole = before in
    omega (arith, ints)

pub due_fits : (one : OpenInvoice) (later all : List OpenInvoice) (sum amount : ℤ)
    → sum +ℤ due_sum (one ∷ later) ≡ due_sum all → pos 0 ≤ℤ sum → amount ≡ int_max (pos 0) one.balance
    → size_of (λ (one : OpenInvoice). one.balance) all ≤ 2 ^ 126
    → FitsSigned w128 (sum +ℤ amount)
due_fits one later all sum amount before least is small =
    let rest = due_sum later in
    let rest_least = due_sum-least later in
    let most = due_sum-most all in
    let first = int_max (pos 0) one.balance in
    let first_least = int_max-least one.balance in
    let known : sum +ℤ (first +ℤ rest) ≡ due_sum all = before in
    fits (sum +ℤ amount)
    (nat_abs-between (sum +ℤ amount) (2 ^ 126) (omega (arith, ints)) (omega (arith, ints)))

-- at most all are due
due_count-most : (invoices : List OpenInvoice) → due_count invoices ≤ length invoices
due_count-most [] = omega arith
due_count-most (one ∷ later) = by (is_due one) (due_count-most later)
  where
    by : (test : Bool) → due_count later ≤ length later
        → length (cond test (one ∷ filter is_due later) (filter is_due later)) ≤ suc (length later)
    by true rest = omega arith
    by false rest = omega arith

-- one more is due
pub due_more : (members : List OpenInvoice) (index : ℕ) (one : OpenInvoice) (count : ℕ)
    → index < length members → one ≡ get_or members index one → is_due one ≡ true
    → count + due_count (drop index members) ≡ due_count members → count + 1 ≤ length members
due_more members index one count low is due before =
    let cut = ap due_count (drop_one members index one low is) in
    let more : due_count (one ∷ drop (index + 1) members) ≡ suc (due_count (drop (index + 1) members)) =
    rw due in
    let most = due_count-most members in
    omega arith

-- the credit that is left moves by what is taken
pub used_step : (one : OpenInvoice) (later : List OpenInvoice) (left amount next : ℤ)
    (so_far whole : List Adjustment)
    → so_far ++ all_used left (one ∷ later) ≡ whole → amount ≡ taken left one.balance → next ≡ left -ℤ amount
    → so_far ++ adjusting one.invoice (neg_ℤ amount) (all_used next later) ≡ whole
used_step one later left amount next so_far whole before is moves =
    ap₂ (λ a n. so_far ++ adjusting one.invoice (neg_ℤ a) (all_used n later)) is
    (moves ∙ ap (λ a. left -ℤ a) is)
    ∙ before

pub still_step : (one : OpenInvoice) (later : List OpenInvoice) (left amount next : ℤ)
    (so_far whole : List OpenInvoice)
    → so_far ++ still_open left (one ∷ later) ≡ whole → amount ≡ taken left one.balance
    → next ≡ left -ℤ amount
    → so_far ++ opening one.invoice one.day (int_max (pos 0) one.balance -ℤ amount)
    (still_open next later) ≡ whole
still_step one later left amount next so_far whole before is moves =
    ap₂ (λ a n. so_far ++ opening one.invoice one.day (int_max (pos 0) one.balance -ℤ a)
    (still_open n later)) is
    (moves ∙ ap (λ a. left -ℤ a) is)
    ∙ before

-- making credit takes none
pub with_all_made-least : (credit : ℤ) (invoices : List OpenInvoice) → pos 0 ≤ℤ credit
    → pos 0 ≤ℤ with_all_made credit invoices
with_all_made-least credit [] whole = whole
with_all_made-least credit (one ∷ later) whole =
    let more = made-least one.balance in
    with_all_made-least (credit +ℤ made one.balance) later (omega (arith, ints))
