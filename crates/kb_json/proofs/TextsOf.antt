-- What was written is the text of JSON.
use Rattle.std.proofs.Common.{◌≡◌, ℕ, ◌≤◌, List, [], map, option_and_then, sym, ap, ◌∙◌, arith, append-nil}
use Rattle.std.specs.Borrow.{Bor}
use Rattle.json.specs.Json as json
use Rattle.json.specs.Json.{Json}
use Rattle.json.specs.Lex.{tokens}
use Rattle.json.specs.Print.{print}
use Rattle.json.specs.Token.{Token}
use Rattle.json.specs.Tree.{json_tokens, depth}
use Rattle.json.proofs.Printed.Trees.{value-json_tokens}
use Rattle.serde_json.specs.Read.{read, of_json, max_depth}
use Rattle.kb_book.specs.declared.views.InvoiceView.{InvoiceView}
use Rattle.kb_json.specs.declared.field.Field.{Field}
use Rattle.kb_json.specs.JsonTexts.{object_of, json_text}
use Rattle.kb_json.specs.Answers.{invoice_json}
use Rattle.kb_json.specs.Private.Fields.{field_json, IsTextOf}
use Rattle.kb_json.proofs.PlainBytes.{pieces-plain}
use Rattle.kb_json.proofs.PlainJson.{IsPlain, json_text-plain}
use Rattle.kb_json.proofs.FlatRows.{fields_flat, flat_members_plain, flat_members_depth, invoice_plain}
use Rattle.kb_json.proofs.FlatRows.{invoice_shallow}

-- bytes whose tokens are those of JSON that doesn't nest too deep are read as that JSON
read-tokens : (one : Json) (bytes : List ℕ) → tokens bytes ≡ json_tokens one → depth one ≤ max_depth
    → read bytes ≡ of_json one
read-tokens one bytes same shallow =
    ap (λ found. option_and_then of_json (option_and_then (λ p. json.if_last p.0 p.1) found))
    (ap (json.value max_depth) (same ∙ sym (append-nil _)) ∙ value-json_tokens one max_depth [] shallow)

text_of : (one : Json) (written : List Token) (bytes : List ℕ) → written ≡ json_tokens one
    → bytes ≡ print written
    → tokens bytes ≡ written
    → IsPlain one → depth one ≤ max_depth → IsTextOf one bytes
text_of one written bytes whole printed same plain shallow =
    let text : bytes ≡ json_text one = printed ∙ ap print whole in
    record {
      printed = text;
      reads_back = read-tokens one bytes (same ∙ whole) shallow;
      one_line = pieces-plain bytes (rw text (json_text-plain one plain));
    }

-- an object of the members that code has
pub fields_text : (rows : List (Bor (List ℕ) × Field)) (written : List Token) (bytes : List ℕ)
    → written ≡ json_tokens (object_of (map (λ row. (row.0.now, field_json row.1)) rows))
    → bytes ≡ print written → tokens bytes ≡ written
    → IsTextOf (object_of (map (λ row. (row.0.now, field_json row.1)) rows)) bytes
fields_text rows written bytes whole printed same =
    let flat = fields_flat rows in
    text_of _ written bytes whole printed same (flat_members_plain _ flat)
    (omega (arith, flat_members_depth _ flat))

-- an invoice
pub invoice_text : (view : InvoiceView) (written : List Token) (bytes : List ℕ)
    → written ≡ json_tokens (invoice_json view) → bytes ≡ print written → tokens bytes ≡ written
    → IsTextOf (invoice_json view) bytes
invoice_text view written bytes whole printed same =
    text_of (invoice_json view) written bytes whole printed same (invoice_plain view)
    (omega (arith, invoice_shallow view))

pub ruleset texts = (fields_text, invoice_text)
