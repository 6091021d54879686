-- The kinds of requests: their words, and their members.
use Rattle.std.specs.Prelude.{ℕ, ◌≡◌, Bool, true, false, bytes_eq, List, [], ◌∷◌, ◌++◌, codes, find}
use Rattle.std.specs.Prelude.{if◌then◌else◌, Option, Some, None, refl}
use Rattle.kb_json.specs.declared.kind.Kind.{Kind}
use Rattle.kb_json.specs.declared.kind.Kind.TheVariants as kinds
use Rattle.kb_json.specs.declared.member.Member.{Member}
use Rattle.kb_json.specs.declared.member.Member.TheVariants as member

-- the word of a kind
abbrev pub kind_word : Kind → List ℕ
kind_word kinds.Catalog = codes "catalog"
kind_word kinds.OverdueRules = codes "overdue"
kind_word kinds.OpenAccount = codes "open"
kind_word kinds.Create = codes "create"
kind_word kinds.Change = codes "change"
kind_word kinds.Cancel = codes "cancel"
kind_word kinds.Uncancel = codes "uncancel"
kind_word kinds.Pause = codes "pause"
kind_word kinds.Resume = codes "resume"
kind_word kinds.Block = codes "block"
kind_word kinds.Bill = codes "bill"
kind_word kinds.Charge = codes "charge"
kind_word kinds.Credit = codes "credit"
kind_word kinds.Pay = codes "pay"
kind_word kinds.Refund = codes "refund"
kind_word kinds.Chargeback = codes "chargeback"
kind_word kinds.Autopay = codes "autopay"
kind_word kinds.Janitor = codes "janitor"
kind_word kinds.Account = codes "account"
kind_word kinds.Invoice = codes "invoice"
kind_word kinds.Payment = codes "payment"
kind_word kinds.Subscription = codes "subscription"

-- the kinds that are commands
abbrev pub commands : List Kind
commands =
    kinds.Catalog ∷ kinds.OverdueRules ∷ kinds.OpenAccount ∷ kinds.Create ∷ kinds.Change ∷ kinds.Cancel
    ∷ kinds.Uncancel ∷ kinds.Pause ∷ kinds.Resume ∷ kinds.Block ∷ kinds.Bill ∷ kinds.Charge ∷ kinds.Credit
    ∷ kinds.Pay ∷ kinds.Refund ∷ kinds.Chargeback ∷ kinds.Autopay ∷ []

-- the other kinds
abbrev pub others : List Kind
others = kinds.Janitor ∷ kinds.Account ∷ kinds.Invoice ∷ kinds.Payment ∷ kinds.Subscription ∷ []

-- the kinds that a line may ask for: a line that may not be dated asks for commands alone
abbrev pub kinds_of : Bool → List Kind
kinds_of dated = if dated then commands ++ others else commands

-- the kind of a word
unfoldable pub kind_named : Bool → List ℕ → Option Kind
kind_named dated word = find (λ kind. bytes_eq word (kind_word kind)) (kinds_of dated)

a_bill : kind_named false (codes "bill") ≡ Some kinds.Bill
unfolding kind_named
a_bill = refl

no_word : kind_named true (codes "Bill") ≡ None
unfolding kind_named
no_word = refl

a_query : kind_named true (codes "invoice") ≡ Some kinds.Invoice
unfolding kind_named
a_query = refl

no_command : kind_named false (codes "invoice") ≡ None
unfolding kind_named
no_command = refl

-- the members of a kind, in their order: those that it has to have, and those that it may have
pub record Shape : Type 0 where
  pub needed : List Member
  pub optional : List Member

-- a kind on an account, asked for by a command: the account and the key come first
abbrev command : List Member → List Member → Shape
command needed optional = record { needed = member.Account ∷ member.Key ∷ needed; optional = optional }

-- a kind that shows something of an account
abbrev query : List Member → List Member → Shape
query needed optional = record { needed = member.Account ∷ needed; optional = optional }

-- a text that is handed in
abbrev text : Shape
text = record { needed = member.Key ∷ member.Text ∷ []; optional = [] }

-- the table of kinds
abbrev pub members_of : Kind → Shape
members_of kinds.Catalog = text
members_of kinds.OverdueRules = text
members_of kinds.OpenAccount = command (member.Currency ∷ member.Bcd ∷ []) (member.Autopay ∷ [])
members_of kinds.Create =
    command (member.Bundle ∷ member.Subscription ∷ member.Product ∷ member.Period ∷ [])
    (member.List ∷ member.Day ∷ [])
members_of kinds.Change =
    command (member.Subscription ∷ member.Product ∷ member.Period ∷ []) (member.List ∷ member.Day ∷ [])
members_of kinds.Cancel = command (member.Subscription ∷ []) (member.Day ∷ [])
members_of kinds.Uncancel = command (member.Subscription ∷ []) []
members_of kinds.Pause = command (member.Bundle ∷ []) (member.Day ∷ [])
members_of kinds.Resume = command (member.Bundle ∷ []) (member.Day ∷ [])
members_of kinds.Block =
    command (member.Scope ∷ member.Target ∷ member.Service ∷ member.State ∷ [])
    (member.Day ∷ member.Change ∷ member.Entitlement ∷ member.Billing ∷ [])
members_of kinds.Bill = command [] (member.Day ∷ [])
members_of kinds.Charge = command (member.Amount ∷ []) []
members_of kinds.Credit = command (member.Amount ∷ []) []
members_of kinds.Pay = command (member.Payment ∷ member.Invoice ∷ []) (member.Amount ∷ [])
members_of kinds.Refund = command (member.Payment ∷ member.Of ∷ member.Amount ∷ []) []
members_of kinds.Chargeback = command (member.Payment ∷ member.Of ∷ member.Amount ∷ []) []
members_of kinds.Autopay = command (member.On ∷ []) []
members_of kinds.Janitor = record { needed = []; optional = [] }
members_of kinds.Account = query [] []
members_of kinds.Invoice = query (member.Invoice ∷ []) []
members_of kinds.Payment = query (member.Payment ∷ []) []
members_of kinds.Subscription = query (member.Subscription ∷ []) (member.Day ∷ [])

a_cancellation : members_of kinds.Cancel ≡ record {
  needed = member.Account ∷ member.Key ∷ member.Subscription ∷ [];
  optional = member.Day ∷ [];
}
a_cancellation = refl
