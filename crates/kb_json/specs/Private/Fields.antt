-- The members of an answer as code has them, and their tokens.
use Rattle.std.specs.Prelude.{ℕ, ◌≡◌, List, [], ◌∷◌, ◌++◌, codes}
use Rattle.json.specs.Json.{Json, null}
use Rattle.json.specs.Token.{Token, key, begin_object}
use Rattle.json.specs.Tree.{json_tokens}
use Rattle.serde_json.specs.Read.{read, of_json}
use Rattle.kb_base.specs.Lines.{pieces, line_feed}
use Rattle.kb_days.specs.DateText.{date_text}
use Rattle.kb_json.specs.declared.field.Field.{Field}
use Rattle.kb_json.specs.declared.field.Field.TheVariants as field
use Rattle.kb_book.specs.declared.views.InvoiceView.{InvoiceView}
use Rattle.kb_json.specs.JsonTexts.{word, sum, count, json_text}
use Rattle.kb_json.specs.Answers.{date}

-- the JSON of a value
abbrev pub field_json : Field → Json
field_json (field.Word text) = word text.now
field_json (field.Name name) = word name.now
field_json (field.Currency code) = word code.now
field_json (field.Day day) = word (date_text day)
field_json (field.Number number) = sum number
field_json field.Nothing = null

-- the tokens of members, without the brackets round them
abbrev pub member_tokens : List ℕ × Json → List Token
member_tokens row = key row.0 ∷ json_tokens row.1

abbrev pub rows_tokens : List (List ℕ × Json) → List Token
rows_tokens [] = []
rows_tokens (row ∷ later) = member_tokens row ++ rows_tokens later

-- the tokens of values, without the brackets round them
abbrev pub values_tokens : List Json → List Token
values_tokens [] = []
values_tokens (value ∷ later) = json_tokens value ++ values_tokens later

-- the members of an invoice before its items, and the tokens up to those
abbrev pub invoice_rows : InvoiceView → List (List ℕ × Json)
invoice_rows view =
    (codes "status", word (codes "ok"))
    ∷ (codes "invoice", count view.invoice)
    ∷ (codes "day", date view.day)
    ∷ (codes "total", sum view.total)
    ∷ (codes "balance", sum view.balance) ∷ []

abbrev pub invoice_head : InvoiceView → List Token
invoice_head view = (begin_object ∷ rows_tokens (invoice_rows view)) ++ key (codes "items") ∷ []

-- bytes are the text of JSON: a reader finds just that in them, and they are one line
pub record IsTextOf (json : Json) (bytes : List ℕ) : Type 0 where
  pub printed : bytes ≡ json_text json
  pub reads_back : read bytes ≡ of_json json
  pub one_line : pieces line_feed bytes ≡ bytes ∷ []
