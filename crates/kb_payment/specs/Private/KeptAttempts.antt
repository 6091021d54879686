-- How an attempt is kept.
use Rattle.std.specs.Prelude.{ℕ, List, Option, None, Some}
use Rattle.std.specs.Global.{Global}
use Rattle.std.specs.declared.sync.Arc.{Arc}
use Rattle.std.specs.Arc.{arc_value}

-- the key that has a place of its own, if there is one
abbrev pub key_in : Option (Arc (List ℕ) Global) → Option (List ℕ)
key_in None = None
key_in (Some key) = Some (arc_value key)
