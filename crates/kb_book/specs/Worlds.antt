-- What a book is looked at by, beside its own commands.
use Rattle.std.specs.Prelude.{List}
use Rattle.kb_catalog.specs.declared.version.Version.{Version}
use Rattle.kb_overdue.specs.declared.state.OverdueState.{OverdueState}

-- the versions of the catalog, by rising date, and the overdue states, from the most severe
pub record WorldValue : Type 0 where
  pub versions : List Version
  pub states : List OverdueState
