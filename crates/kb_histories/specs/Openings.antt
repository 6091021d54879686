-- An opening, for examples.
use Rattle.std.specs.Prelude.{ℕ, false, List, codes}
use Rattle.kb_days.specs.Dates.{march}
use Rattle.kb_codec.specs.declared.command.Command.TheVariants as kinds
use Rattle.kb_codec.specs.declared.action.Action.TheVariants as actions
use Rattle.kb_codec.specs.Entries.{Entry}

-- the opening of an account, under the key k1
abbrev pub opening_of : List ℕ → Entry
opening_of account = (
  march 10,
  kinds.Act account (codes "k1") (actions.OpenAccount (record {
    currency = codes "EUR";
    bcd = 1;
    autopay = false;
  })),
)
