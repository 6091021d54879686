-- What is read so far, before what the rest is read as, is what all is read as; the keys that are left are
-- currencies.
use Rattle.std.proofs.Common.{◌≡◌, Ok, None, ◌++◌}
use Rattle.toml.specs.View.{members_view}
use Rattle.kb_money.specs.Currency.{is_currency}
use Rattle.kb_catalog_text.specs.Reads.{and_then, first_failing}
use Rattle.kb_catalog_text.specs.CatalogEntries.{amounts_in}
use Rattle.kb_catalog_text.proofs.prices.read_amounts.Given as goal

abbrev pub invariant-loop-key : goal.invariant-loop-key
invariant-loop-key l = record {
  read : and_then (amounts_in (members_view l.key-iterator)) (λ rest. Ok (l.prices ++ rest))
      ≡ amounts_in (members_view l.table.entries);
  known : first_failing is_currency (members_view l.key-iterator) ≡ None;
}
