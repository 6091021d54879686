-- Small tables, and the entries that they say.
use Rattle.std.specs.Prelude.{◌≡◌, [], ◌∷◌, codes, pos, true, false, Some, None, Ok, Err, refl}
use Rattle.toml.specs.Data.{Members, no_members, member, string, integer, boolean}
use Rattle.kb_days.specs.declared.span.Span.TheVariants.{Days, Unlimited}
use Rattle.kb_catalog.specs.declared.words.Category.TheVariants.{Base}
use Rattle.kb_catalog_text.specs.declared.key_fault.KeyFault.TheVariants.{Missing, Unknown}
use Rattle.kb_catalog_text.specs.Reads.{keys_read, first_failing, required, optional, read_or}
use Rattle.kb_catalog_text.specs.Kinds.{name_in, word_in, count_in, amount_in, threshold_in, text_where}
use Rattle.kb_catalog_text.specs.Kinds.{number_in}
use Rattle.kb_catalog_text.specs.CatalogEntries.{product_in, prices_in, amounts_in, span_in, length_in}
use Rattle.kb_catalog_text.specs.CatalogEntries.{condition_in, to_conditions_in}
use Rattle.kb_catalog_text.specs.StateEntries.{state_in}

-- category = 'BASE', name = 'Gold'
abbrev gold : Members
gold = member (codes "category") (string (codes "BASE")) (member (codes "name") (string (codes "Gold"))
    no_members)

a_product : product_in gold
    ≡ Ok (record { name = codes "Gold"; category = Base; available = []; included = [] })
unfolding product_in keys_read first_failing required read_or name_in word_in text_where
a_product = refl

-- the same with colour = 1
a_product_of_a_colour : product_in (member (codes "colour") (integer (pos 1)) gold)
    ≡ Err (Unknown (codes "colour"))
unfolding product_in keys_read first_failing
a_product_of_a_colour = refl

a_product_without_a_name : product_in (member (codes "category") (string (codes "BASE")) no_members)
    ≡ Err (Missing (codes "name"))
unfolding product_in keys_read first_failing required
a_product_without_a_name = refl

-- USD = 1000
a_price : prices_in (member (codes "USD") (integer (pos 1000)) no_members)
    ≡ Ok (record { currency = codes "USD"; amount = 1000 } ∷ [])
unfolding prices_in amounts_in keys_read first_failing amount_in number_in
a_price = refl

-- length = 14, unit = 'DAYS'
fourteen_days : span_in (member (codes "length") (integer (pos 14)) (member (codes "unit")
    (string (codes "DAYS")) no_members)) ≡ Ok (Days 14)
unfolding span_in length_in required word_in count_in text_where number_in
fourteen_days = refl

-- unit = 'UNLIMITED'
without_end : span_in (member (codes "unit") (string (codes "UNLIMITED")) no_members) ≡ Ok Unlimited
unfolding span_in length_in required word_in text_where
without_end = refl

-- to_product = 'Gold'
a_condition : to_conditions_in (member (codes "to_product") (string (codes "Gold")) no_members)
    ≡ Ok (record { product = Some (codes "Gold"); category = None; period = None; list = None })
unfolding condition_in optional name_in text_where
a_condition = refl

-- block_billing = false, block_change = true, block_entitlement = false, days = 7, name = 'LATE'
a_state : state_in
    (member (codes "block_billing") (boolean false)
    (member (codes "block_change") (boolean true)
    (member (codes "block_entitlement") (boolean false)
    (member (codes "days") (integer (pos 7))
    (member (codes "name") (string (codes "LATE")) no_members)))))
    ≡ Ok (record {
      name = codes "LATE";
      days = Some 7;
      count = None;
      total = None;
      block_change = true;
      block_entitlement = false;
      block_billing = false;
    })
unfolding state_in keys_read first_failing required optional name_in threshold_in text_where number_in
a_state = refl
