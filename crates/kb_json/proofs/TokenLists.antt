-- The tokens of objects and arrays, from those of their members and values.
use Rattle.std.proofs.Common.{◌≡◌, ℕ, List, [], ◌∷◌, ◌++◌, refl, sym, ap, ◌∙◌, append_assoc}
use Rattle.json.specs.Json.{Json}
use Rattle.json.specs.Token.{Token, key, begin_object, end_object, begin_array, end_array}
use Rattle.json.specs.Tree.{json_tokens, members_tokens, items_tokens}
use Rattle.kb_json.specs.JsonTexts.{members, items, object_of, array_of}
use Rattle.kb_json.specs.Private.Fields.{rows_tokens, values_tokens}

-- those of an object's members, with the brace behind them
pub members_tokens-rows : (rows : List (List ℕ × Json))
    → members_tokens (members rows) ≡ rows_tokens rows ++ end_object ∷ []
members_tokens-rows [] = refl
members_tokens-rows (row ∷ later) =
    ap (λ tokens. key row.0 ∷ (json_tokens row.1 ++ tokens)) (members_tokens-rows later)
    ∙ ap (λ tokens. key row.0 ∷ tokens) (sym (append_assoc (json_tokens row.1) (rows_tokens later)
    (end_object ∷ [])))

-- those of an array's values, with the bracket behind them
pub items_tokens-values : (values : List Json)
    → items_tokens (items values) ≡ values_tokens values ++ end_array ∷ []
items_tokens-values [] = refl
items_tokens-values (value ∷ later) =
    ap (λ tokens. json_tokens value ++ tokens) (items_tokens-values later)
    ∙ sym (append_assoc (json_tokens value) (values_tokens later) (end_array ∷ []))

-- an object that was written in three steps
pub object_written : (old begun filled done : List Token) (rows : List (List ℕ × Json))
    → begun ≡ old ++ begin_object ∷ [] → filled ≡ begun ++ rows_tokens rows → done ≡ filled ++ end_object ∷ []
    → done ≡ old ++ json_tokens (object_of rows)
object_written old begun filled done rows begins fills ends =
    ends ∙ rw (fills, begins, members_tokens-rows rows)
    (ap (λ tokens. tokens ++ end_object ∷ []) (append_assoc old (begin_object ∷ []) (rows_tokens rows))
    ∙ append_assoc old (begin_object ∷ rows_tokens rows) (end_object ∷ []))

-- an array that was written in three steps
pub array_written : (old begun filled done : List Token) (values : List Json)
    → begun ≡ old ++ begin_array ∷ [] → filled ≡ begun ++ values_tokens values
    → done ≡ filled ++ end_array ∷ []
    → done ≡ old ++ json_tokens (array_of values)
array_written old begun filled done values begins fills ends =
    ends ∙ rw (fills, begins, items_tokens-values values)
    (ap (λ tokens. tokens ++ end_array ∷ []) (append_assoc old (begin_array ∷ []) (values_tokens values))
    ∙ append_assoc old (begin_array ∷ values_tokens values) (end_array ∷ []))

-- an object up to the value of its last member
pub head_written : (old begun filled done : List Token) (rows : List (List ℕ × Json)) (name : List ℕ)
    → begun ≡ old ++ begin_object ∷ [] → filled ≡ begun ++ rows_tokens rows → done ≡ filled ++ key name ∷ []
    → done ≡ old ++ ((begin_object ∷ rows_tokens rows) ++ key name ∷ [])
head_written old begun filled done rows name begins fills ends =
    ends ∙ rw (fills, begins)
    (ap (λ tokens. tokens ++ key name ∷ []) (append_assoc old (begin_object ∷ []) (rows_tokens rows))
    ∙ append_assoc old (begin_object ∷ rows_tokens rows) (key name ∷ []))
