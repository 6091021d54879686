-- Which commands share a request key.
use Rattle.std.specs.Prelude.{ℕ, ◌≡◌, List, None, codes, refl}
use Rattle.kb_codec.specs.declared.command.Command.{Command}
use Rattle.kb_codec.specs.declared.command.Command.TheVariants as kinds
use Rattle.kb_codec.specs.declared.action.Action.TheVariants as actions
use Rattle.kb_codec.specs.Senders.{key_of}
use Rattle.kb_codec.specs.Senders.{account_of}
use Rattle.kb_histories.specs.Openings.{opening_of}

-- where a request key stands for one command: among the catalog texts, among the overdue texts, or among the
-- commands on an account
pub data Scope : Type 0 where
  CatalogTexts : Scope
  OverdueTexts : Scope
  OfAccount : List ℕ → Scope

-- where the key of a command stands
abbrev pub scope_of : Command → Scope
scope_of (kinds.Catalog c) = CatalogTexts
scope_of (kinds.OverdueRules c) = OverdueTexts
scope_of command = OfAccount (account_of command)

of_a1 : scope_of (opening_of (codes "a1")).1 ≡ OfAccount (codes "a1")
of_a1 = refl

-- two commands have one key: of one account, or as texts of one kind
abbrev pub HaveOneKey : Command → Command → Type 0
HaveOneKey first second = (scope_of first ≡ scope_of second) × (key_of first ≡ key_of second)

as_a_bill : HaveOneKey (opening_of (codes "a1")).1
    (kinds.Act (codes "a1") (codes "k1") (actions.Bill (record { day = None })))
as_a_bill = (refl, refl)
