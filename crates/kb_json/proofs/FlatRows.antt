-- Members whose values have no members of their own.
use Rattle.std.proofs.Common.{◌≡◌, ℕ, pos, ◌≤◌, true, List, [], ◌∷◌, map, codes, Option, Some, None, refl}
use Rattle.std.proofs.Common.{arith}
use Rattle.std.specs.Borrow.{Bor}
use Rattle.std.specs.Prelude.{⊤}
use Rattle.json.specs.Json.{Json, null, boolean, number, string, array, object}
use Rattle.json.specs.Tree.{depth, members_depth, items_depth}
use Rattle.kb_credit.specs.Items.{amount_of}
use Rattle.kb_book.specs.declared.views.InvoiceView.{InvoiceView}
use Rattle.kb_book.specs.declared.views.ItemView.{ItemView}
use Rattle.kb_json.specs.declared.field.Field.{Field}
use Rattle.kb_json.specs.declared.field.Field.TheVariants as field
use Rattle.kb_json.specs.JsonTexts.{members, items, or_null, word, sum, count}
use Rattle.kb_json.specs.Words.{line_word}
use Rattle.kb_json.specs.Answers.{date, item_json, invoice_json, from_of, to_of, repaired_by}
use Rattle.kb_json.specs.Private.Fields.{field_json}
use Rattle.kb_json.proofs.PlainBytes.{is_plain, signed_decimal-plain}
use Rattle.kb_json.proofs.PlainJson.{IsPlain, MembersPlain, ItemsPlain}

-- a text, a number without a line feed, or none
abbrev IsFlat : Json → Type 0
IsFlat null = ⊤
IsFlat (boolean b) = ⊤
IsFlat (number s) = is_plain s ≡ true
IsFlat (string s) = ⊤
IsFlat (array values) = ⊥
IsFlat (object rows) = ⊥

abbrev pub AreFlat : List (List ℕ × Json) → Type 0
AreFlat [] = ⊤
AreFlat (row ∷ later) = IsFlat row.1 × AreFlat later

flat_plain : (json : Json) → IsFlat json → IsPlain json
flat_plain null flat = tt
flat_plain (boolean b) flat = tt
flat_plain (number s) flat = flat
flat_plain (string s) flat = tt
flat_plain (array values) flat = absurd flat
flat_plain (object rows) flat = absurd flat

flat_depth : (json : Json) → IsFlat json → depth json ≡ 0
flat_depth null flat = refl
flat_depth (boolean b) flat = refl
flat_depth (number s) flat = refl
flat_depth (string s) flat = refl
flat_depth (array values) flat = absurd flat
flat_depth (object rows) flat = absurd flat

-- such members have no line feed in their numbers, and don't nest
pub flat_members_plain : (rows : List (List ℕ × Json)) → AreFlat rows → MembersPlain (members rows)
flat_members_plain [] flat = tt
flat_members_plain (row ∷ later) flat = (flat_plain row.1 flat.0, flat_members_plain later flat.1)

pub flat_members_depth : (rows : List (List ℕ × Json)) → AreFlat rows → members_depth (members rows) ≡ 0
flat_members_depth [] flat = refl
flat_members_depth (row ∷ later) flat =
    let here = flat_depth row.1 flat.0 in let there = flat_members_depth later flat.1 in omega arith

-- the members that code has are such
field_flat : (value : Field) → IsFlat (field_json value)
field_flat (field.Word text) = tt
field_flat (field.Name name) = tt
field_flat (field.Currency code) = tt
field_flat (field.Day day) = tt
field_flat (field.Number amount) = signed_decimal-plain amount
field_flat field.Nothing = tt

pub fields_flat : (rows : List (Bor (List ℕ) × Field)) → AreFlat
    (map (λ row. (row.0.now, field_json row.1)) rows)
fields_flat [] = tt
fields_flat (row ∷ later) = (field_flat row.1, fields_flat later)

-- and so are those of an item
count_flat : (amount : Option ℕ) → IsFlat (or_null count amount)
count_flat None = tt
count_flat (Some amount) = signed_decimal-plain (pos amount)

date_flat : (day : Option ℕ) → IsFlat (or_null date day)
date_flat None = tt
date_flat (Some day) = tt

word_flat : (text : Option (List ℕ)) → IsFlat (or_null word text)
word_flat None = tt
word_flat (Some text) = tt

-- the members of an item
abbrev item_rows : ItemView → List (List ℕ × Json)
item_rows view =
    (codes "item", count view.item)
    ∷ (codes "kind", word (line_word view.line))
    ∷ (codes "subscription", or_null word view.subscription)
    ∷ (codes "from", or_null date (from_of view.line))
    ∷ (codes "to", or_null date (to_of view.line))
    ∷ (codes "amount", sum (amount_of view.line))
    ∷ (codes "repairs", or_null count (repaired_by view.line)) ∷ []

item_rows_flat : (view : ItemView) → AreFlat (item_rows view)
item_rows_flat view = (
  signed_decimal-plain (pos view.item),
  (
    tt,
    (
      word_flat view.subscription,
      (
        date_flat (from_of view.line),
        (
          date_flat (to_of view.line),
          (
            signed_decimal-plain (amount_of view.line),
            (count_flat (repaired_by view.line), tt),
          ),
        ),
      ),
    ),
  ),
)

items_plain : (views : List ItemView) → ItemsPlain (items (map item_json views))
items_plain [] = tt
items_plain (view ∷ later) = (flat_members_plain (item_rows view) (item_rows_flat view), items_plain later)

items_shallow : (views : List ItemView) → items_depth (items (map item_json views)) ≤ 1
items_shallow [] = omega arith
items_shallow (view ∷ later) =
    let here = flat_members_depth (item_rows view) (item_rows_flat view) in
    let there = items_shallow later in omega arith

-- an invoice has no line feed in its numbers, and doesn't nest deep
pub invoice_plain : (view : InvoiceView) → IsPlain (invoice_json view)
invoice_plain view = (
  tt,
  (
    signed_decimal-plain (pos view.invoice),
    (
      tt,
      (
        signed_decimal-plain view.total,
        (
          signed_decimal-plain view.balance,
          (items_plain view.items, tt),
        ),
      ),
    ),
  ),
)

pub invoice_shallow : (view : InvoiceView) → depth (invoice_json view) ≤ 3
invoice_shallow view = let there = items_shallow view.items in omega arith
