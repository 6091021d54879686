-- The items of an invoice, one by one.
use Rattle.std.proofs.Common.{◌≡◌, ℕ, zero, suc, ◌+◌, ◌≤◌, List, [], ◌∷◌, ◌++◌, length, drop, slice_get}
use Rattle.std.proofs.Common.{Option, refl, sym, ap, ◌∙◌, arith}
use Rattle.std.proofs.lemmas.List.{append_assoc, append-nil, drop_all}
use Rattle.std.specs.Prelude.{option_and_then, option_to_list}
use Rattle.kb_credit.specs.declared.line.Line.{Line}
use Rattle.kb_credit.specs.InvoiceRows.{numbered}
use Rattle.kb_timeline.specs.TimelineEdits.{TimelineValue}
use Rattle.kb_book.specs.declared.views.ItemView.{ItemView}
use Rattle.kb_account.specs.Views.{shown_item, items_from}

-- what is shown from a place on is what is shown of the item there, and what comes later
pub items-drop : (timeline : TimelineValue) (invoice item place : ℕ) (entries : List (ℕ × Line))
    → items_from timeline invoice item (drop place entries)
    ≡ option_to_list (option_and_then (shown_item timeline invoice item) (slice_get entries place))
    ++ items_from timeline invoice (item + 1) (drop (suc place) entries)
items-drop timeline invoice item zero [] = refl
items-drop timeline invoice item (suc place) [] = refl
items-drop timeline invoice item zero (entry ∷ later) = refl
items-drop timeline invoice item (suc place) (entry ∷ later) = items-drop timeline invoice item place later

-- what is shown so far and what is left are all
abbrev pub AreShown : TimelineValue → ℕ → ℕ → List (ℕ × Line) → List ItemView → Type 0
AreShown timeline invoice place entries so_far =
    so_far ++ items_from timeline invoice (place + 1) (drop place entries)
    ≡ items_from timeline invoice 1 entries

-- and so they are with one more looked at
pub items-step : (timeline : TimelineValue) (invoice place : ℕ) (entries : List (ℕ × Line))
    (so_far more : List ItemView)
    (shown : Option ItemView)
    → shown ≡ option_and_then (shown_item timeline invoice (place + 1)) (numbered (place + 1) entries)
    → more ≡ so_far ++ option_to_list shown
    → AreShown timeline invoice place entries so_far → AreShown timeline invoice (place + 1) entries more
items-step timeline invoice place entries so_far more shown is pushed before =
    let e : place + 1 ≡ suc place = omega arith in
    let here = is ∙ ap (λ n. option_and_then (shown_item timeline invoice (place + 1)) (numbered n entries))
    e in
    let rest = items_from timeline invoice (place + 1 + 1) (drop (place + 1) entries) in
    let left : option_to_list shown ++ rest ≡ items_from timeline invoice (place + 1) (drop place entries) =
    ap (λ (one : Option ItemView). option_to_list one ++ rest) here
    ∙ ap (λ n. option_to_list (option_and_then (shown_item timeline invoice (place + 1))
    (slice_get entries place))
    ++ items_from timeline invoice (place + 1 + 1) (drop n entries)) e
    ∙ sym (items-drop timeline invoice (place + 1) place entries) in
    ap (λ (front : List ItemView). front ++ rest) pushed
    ∙ append_assoc so_far (option_to_list shown) rest
    ∙ ap (λ (back : List ItemView). so_far ++ back) left
    ∙ before

-- at the end they are all
pub items-end : (timeline : TimelineValue) (invoice place : ℕ) (entries : List (ℕ × Line))
    (so_far : List ItemView)
    → length entries ≤ place → AreShown timeline invoice place entries so_far
    → so_far ≡ items_from timeline invoice 1 entries
items-end timeline invoice place entries so_far end all =
    sym (append-nil so_far)
    ∙ ap (λ (left : List (ℕ × Line)). so_far ++ items_from timeline invoice (place + 1) left)
    (sym (drop_all place entries end))
    ∙ all
