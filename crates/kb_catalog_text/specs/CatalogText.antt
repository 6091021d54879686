-- The text of a catalog: its document, read key by key, and the first fault.
use Rattle.std.specs.Prelude.{ℕ, List, [], ◌∷◌, codes, Ok}
use Rattle.toml.specs.Data.{Members}
use Rattle.kb_catalog.specs.declared.version.Version.{Version}
use Rattle.kb_catalog_text.specs.Reads.{Read, and_then, keys_read, is_among, read_as, required}
use Rattle.kb_catalog_text.specs.Reads.{read_table, read_array}
use Rattle.kb_catalog_text.specs.Kinds.{currency_in, day_in, format_in}
use Rattle.kb_catalog_text.specs.CatalogEntries.{product_in, plan_in, list_in, rules_in}

-- the whole document
abbrev pub top_keys : List (List ℕ)
top_keys =
    codes "format" ∷ codes "effective" ∷ codes "currencies" ∷ codes "product" ∷ codes "plan" ∷ codes "list"
    ∷ codes "rules" ∷ []

unfoldable pub version_in : Members → Read Version
version_in members =
    and_then (keys_read (is_among top_keys) members) (λ _.
    and_then (required (read_as format_in) (codes "format") members) (λ _.
    and_then (required (read_as day_in) (codes "effective") members) (λ effective.
    and_then (required (read_array (read_as currency_in)) (codes "currencies") members) (λ currencies.
    and_then (required (read_array (read_table product_in)) (codes "product") members) (λ products.
    and_then (required (read_array (read_table plan_in)) (codes "plan") members) (λ plans.
    and_then (required (read_array (read_table list_in)) (codes "list") members) (λ lists.
    and_then (required (read_table rules_in) (codes "rules") members) (λ rules.
    Ok (record {
      effective = effective;
      currencies = currencies;
      products = products;
      plans = plans;
      lists = lists;
      rules = rules;
    })))))))))
