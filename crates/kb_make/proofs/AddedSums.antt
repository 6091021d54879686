-- Accounts that are added one after another.
use Rattle.std.proofs.Common.{◌≡◌, ℕ, ℤ, suc, ◌+◌, ◌+ℤ◌, ◌<◌, ◌≤◌, List, [], ◌∷◌, ◌++◌, length, get_or}
use Rattle.std.proofs.Common.{slice_get, drop, map, Option, Some, None, option_map, refl, sym, ap, subst, ◌∙◌}
use Rattle.std.proofs.Common.{arith, length-append}
use Rattle.std.proofs.Math.Seq.{drop-cons}
use Rattle.std.proofs.lemmas.List.{append_assoc, append-nil, drop_all}
use Rattle.std.proofs.lemmas.List.Concat.{flat_map-cons}
use Rattle.std.proofs.lemmas.List.Sums.{sum_by_push}
use Rattle.std.proofs.lemmas.Option.{slice_get-map, slice_get_within, slice_get_read, get_or_from_slice_get}
use Rattle.std.specs.FinMap.{find}
use Rattle.kb_sharing.specs.Keys.{by_words}
use Rattle.kb_sharing.proofs.MemberSums.{sum_of-push}
use Rattle.kb_book.specs.Books.{BookValue}
use Rattle.kb_account.specs.declared.view.sums.Sums.{Sums}
use Rattle.kb_account.specs.Sums.{sums_of}
use Rattle.kb_machine.specs.Machines.{MachineValue, book_of}
use Rattle.kb_make.specs.declared.totals.Totals.{Totals}
use Rattle.kb_make.specs.Totals.{sums_in, total_of, totals_of}
use Rattle.kb_make.specs.Private.Adding.{no_totals, plus, plus_all, sums_in_lane}
use Rattle.kb_make.proofs.FoundBooks.{AreApart, name_of, found_at}

-- fields that are each the sum of two are those of totals with one account more
pub plus_of : (totals : Totals) (sums : Sums) (accounts commands invoices : ℕ)
    (charged paid credit unpaid : ℤ)
    → accounts ≡ totals.accounts + 1 → commands ≡ totals.commands + sums.commands
    → invoices ≡ totals.invoices + sums.invoices → charged ≡ totals.charged +ℤ sums.charged
    → paid ≡ totals.paid +ℤ sums.paid → credit ≡ totals.credit +ℤ sums.credit
    → unpaid ≡ totals.unpaid +ℤ sums.unpaid
    → record {
      accounts = accounts;
      commands = commands;
      invoices = invoices;
      charged = charged;
      paid = paid;
      credit = credit;
      unpaid = unpaid;
    } ≡ plus totals sums
plus_of totals sums accounts commands invoices charged paid credit unpaid e1 e2 e3 e4 e5 e6 e7 = cc

-- what the book of an entry adds up to
abbrev sums_at : List ℕ × BookValue → Sums
sums_at entry = sums_of entry.1

module _ (machine : MachineValue) (names : List (List ℕ)) (are : names ≡ map name_of machine.books)
    (apart : AreApart names) (place : ℕ) (name : List ℕ) (inside : place < length names)
    (is : name ≡ get_or names place name) (now next all : Totals)
    (added : (book : BookValue) → book_of machine name ≡ Some book → next ≡ plus now (sums_of book))
    (gives : plus_all now (drop place (sums_in_lane machine)) ≡ all) where
  there : slice_get names place ≡ Some name
  there = slice_get_read names (length names) place name refl inside is

  named : (entry : List ℕ × BookValue) → slice_get machine.books place ≡ Some entry → name ≡ entry.0
  named entry at =
      let told : slice_get names place ≡ Some entry.0
      = ap (λ (all : List (List ℕ)). slice_get all place) are ∙ slice_get-map name_of machine.books place
      ∙ ap (option_map name_of) at in
      let found = there in
      cc

  more : (entry : List ℕ × BookValue) → slice_get machine.books place ≡ Some entry
      → plus_all next (drop (place + 1) (sums_in_lane machine)) ≡ all
  more entry at =
      let sums = sums_in_lane machine in
      let here : slice_get sums place ≡ Some (sums_at entry)
      = slice_get-map sums_at machine.books place ∙ ap (option_map sums_at) at in
      let next_is : next ≡ plus now (sums_of entry.1)
      = added entry.1 (ap (λ (key : List ℕ). find by_words key machine.books) (named entry at)
      ∙ found_at machine.books place entry (subst AreApart are apart) at) in
      let left : drop place sums ≡ sums_at entry ∷ drop (suc place) sums
      = drop-cons sums place (sums_at entry) (slice_get_within sums place (sums_at entry) here)
      ∙ ap (λ (first : Sums). first ∷ drop (suc place) sums)
      (get_or_from_slice_get sums place (sums_at entry) (sums_at entry) here) in
      let further : place + 1 ≡ suc place = omega arith in
      ap (λ from. plus_all next (drop from sums)) further
      ∙ ap (λ (totals : Totals). plus_all totals (drop (suc place) sums)) next_is
      ∙ ap (plus_all now) (sym left) ∙ gives

  absent : slice_get machine.books place ≡ None → ⊥
  absent none =
      let told : slice_get names place ≡ None
      = ap (λ (all : List (List ℕ)). slice_get all place) are ∙ slice_get-map name_of machine.books place
      ∙ ap (option_map name_of) none in
      let found = there in
      cc

  -- the account at a place is added, and those behind it are left
  pub account_added : plus_all next (drop (place + 1) (sums_in_lane machine)) ≡ all
  account_added = by_place (slice_get machine.books place) refl
    where
      by_place : (found : Option (List ℕ × BookValue)) → slice_get machine.books place ≡ found
          → plus_all next (drop (place + 1) (sums_in_lane machine)) ≡ all
      by_place None none = absurd (absent none)
      by_place (Some entry) at = more entry at

-- several accounts, and then several more
plus_all-append : (totals : Totals) (some more : List Sums)
    → plus_all totals (some ++ more) ≡ plus_all (plus_all totals some) more
plus_all-append totals [] more = refl
plus_all-append totals (one ∷ later) more = plus_all-append (plus totals one) later more

-- what accounts add up to, with one more
total-push : (some : List Sums) (one : Sums) → plus (total_of some) one ≡ total_of (some ++ one ∷ [])
total-push some one =
    let accounts : length some + 1 ≡ length (some ++ one ∷ []) =
    omega (arith, length-append some (one ∷ [])) in
    let commands = sum_by_push (λ (each : Sums). each.commands) some one in
    let invoices = sum_by_push (λ (each : Sums). each.invoices) some one in
    let charged = sum_of-push (λ (each : Sums). each.charged) some one in
    let paid = sum_of-push (λ (each : Sums). each.paid) some one in
    let credit = sum_of-push (λ (each : Sums). each.credit) some one in
    let unpaid = sum_of-push (λ (each : Sums). each.unpaid) some one in
    cc

-- and with several
total-all : (some more : List Sums) → plus_all (total_of some) more ≡ total_of (some ++ more)
total-all some [] = ap total_of (sym (append-nil some))
total-all some (one ∷ later) =
    ap (λ totals. plus_all totals later) (total-push some one) ∙ total-all (some ++ one ∷ []) later
    ∙ ap total_of (append_assoc some (one ∷ []) later)

-- Lanes, each seen as its machine, that are added up to a place.
module _ {L : Type 0} (machine : L → MachineValue) (lanes : List L) (place : ℕ) (now : Totals) where
  -- what is left to add
  abbrev left : ℕ → List Sums
  left from = sums_in (map machine (drop from lanes))

  -- the lane at the place is added
  pub lane_added : (lane : L) → place < length lanes → lane ≡ get_or lanes place lane → (next all : Totals)
      → next ≡ plus_all now (sums_in_lane (machine lane)) → plus_all now (left place) ≡ all
      → plus_all next (left (place + 1)) ≡ all
  lane_added lane inside is next all added gives =
      let further : suc place ≡ place + 1 = omega arith in
      let rest : left place ≡ sums_in_lane (machine lane) ++ left (place + 1)
      = ap (λ (those : List L). sums_in (map machine those)) (drop-cons lanes place lane inside)
      ∙ ap (λ (first : L). sums_in (machine first ∷ map machine (drop (suc place) lanes))) (sym is)
      ∙ flat_map-cons sums_in_lane (machine lane) (map machine (drop (suc place) lanes))
      ∙ ap (λ from. sums_in_lane (machine lane) ++ left from) further in
      ap (λ totals. plus_all totals (left (place + 1))) added
      ∙ sym (plus_all-append now (sums_in_lane (machine lane)) (left (place + 1)))
      ∙ ap (plus_all now) (sym rest) ∙ gives

  -- none is left
  pub lanes_added : length lanes ≤ place → plus_all now (left place)
      ≡ plus_all no_totals (sums_in (map machine lanes))
      → now ≡ totals_of (map machine lanes)
  lanes_added over gives =
      ap (λ (those : List L). plus_all now (sums_in (map machine those))) (sym (drop_all place lanes over))
      ∙ gives ∙ total-all [] (sums_in (map machine lanes))
