-- Whose a command is: the account that it is on, its request key, and who may send it.
use Rattle.std.specs.Prelude.{ℕ, Bool, true, false, List, [], Option, Some, None}
use Rattle.kb_codec.specs.declared.command.Command.{Command}
use Rattle.kb_codec.specs.declared.command.Command.TheVariants as kinds

-- the account that a command is on; that of a text has no letter
abbrev pub account_of : Command → List ℕ
account_of (kinds.Catalog c) = []
account_of (kinds.OverdueRules c) = []
account_of (kinds.Act account key action) = account
account_of (kinds.Auto c) = c.account
account_of (kinds.Settle c) = c.account
account_of (kinds.Overdue c) = c.account

-- the request key of a command of a caller
abbrev pub key_of : Command → Option (List ℕ)
key_of (kinds.Catalog c) = Some c.key
key_of (kinds.OverdueRules c) = Some c.key
key_of (kinds.Act account key action) = Some key
key_of (kinds.Auto c) = None
key_of (kinds.Settle c) = None
key_of (kinds.Overdue c) = None

-- a command is a text
abbrev pub is_text : Command → Bool
is_text (kinds.Catalog c) = true
is_text (kinds.OverdueRules c) = true
is_text _ = false

-- a command of a caller: no automatic payment, settlement or overdue transition
abbrev pub is_callers : Command → Bool
is_callers (kinds.Auto c) = false
is_callers (kinds.Settle c) = false
is_callers (kinds.Overdue c) = false
is_callers _ = true
