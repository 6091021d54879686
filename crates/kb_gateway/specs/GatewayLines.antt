-- The lines between this program and a payment gateway. Each ends with a line feed.
use Rattle.std.specs.Prelude.{ℕ, ◌≡◌, List, [], ◌∷◌, ◌++◌, codes, decimal, refl}
use Rattle.std.specs.Fmt.{digits}
use Rattle.uuid.specs.Text.{hyphenated_text, lower}
use Rattle.uuid.proofs.OnLiterals.{uuid_on_literals}
use Rattle.kb_base.specs.Lines.{line_feed}
use Rattle.kb_payment.specs.declared.attempt.Kind.{Kind}
use Rattle.kb_payment.specs.declared.attempt.Kind.TheVariants.{Purchase, Refund, Chargeback}
use Rattle.kb_gateway.specs.declared.order.Order.{Order}
use Rattle.kb_gateway.specs.declared.told.Told.{Told}
use Rattle.kb_gateway.specs.declared.told.Told.TheVariants.{Processed, Pending, Error, Canceled, Undefined}
use Rattle.kb_gateway.specs.declared.told.Seen.{Seen}
use Rattle.kb_gateway.specs.declared.told.Seen.TheVariants as seen

-- a text and its line feed
abbrev pub line : List ℕ → List ℕ
line text = text ++ line_feed ∷ []

-- an id in lower case, with hyphens
abbrev pub id_text : List ℕ → List ℕ
id_text id = hyphenated_text lower id

-- the word of a kind
abbrev pub kind_word : Kind → List ℕ
kind_word Purchase = codes "PURCHASE"
kind_word Refund = codes "REFUND"
kind_word Chargeback = codes "CHARGEBACK"

-- the line that asks for an order; its amount is in minor units
abbrev pub ask_line : Order → List ℕ
ask_line order = line (codes "ASK " ++ id_text order.id ++ codes " " ++ kind_word order.kind
    ++ codes " " ++ decimal order.amount ++ codes " " ++ order.currency)

-- the line that asks what became of an order
abbrev pub look_line : Order → List ℕ
look_line order = line (codes "LOOK " ++ id_text order.id)

-- the bytes 65, 144, 87, .. and 44 are the id 419057e9-e213-5cbe-8f20-63536fe96a2c
abbrev some_order : Order
some_order = record {
  account = codes "a1";
  key = codes "p1";
  id = 65 ∷ 144 ∷ 87 ∷ 233 ∷ 226 ∷ 19 ∷ 92 ∷ 190 ∷ 143 ∷ 32 ∷ 99 ∷ 83 ∷ 111 ∷ 233 ∷ 106 ∷ 44 ∷ [];
  kind = Refund;
  amount = 1250;
  currency = codes "USD";
}

asks : ask_line some_order ≡ line (codes "ASK 419057e9-e213-5cbe-8f20-63536fe96a2c REFUND 1250 USD")
unfolding digits uuid_on_literals
asks = refl

looks_up : look_line some_order ≡ line (codes "LOOK 419057e9-e213-5cbe-8f20-63536fe96a2c")
unfolding uuid_on_literals
looks_up = refl

-- the line that answers an order
abbrev pub told_line : Told → List ℕ
told_line Processed = line (codes "PROCESSED")
told_line Pending = line (codes "PENDING")
told_line Error = line (codes "ERROR")
told_line Canceled = line (codes "CANCELED")
told_line Undefined = line (codes "UNDEFINED")

-- the line that answers a look-up
abbrev pub seen_line : Seen → List ℕ
seen_line (seen.Told told) = told_line told
seen_line seen.NotSeen = line (codes "NOTSEEN")

refused : seen_line (seen.Told Error) ≡ 69 ∷ 82 ∷ 82 ∷ 79 ∷ 82 ∷ 10 ∷ []
refused = refl
