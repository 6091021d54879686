-- What holds of each valid version, in a reader's words.
use Rattle.std.specs.Prelude.{ℕ, ◌≡◌, ◌++◌, List, [], ◌∷◌, true, false, bytes_eq, map, slice_get, Some, codes}
use Rattle.std.specs.Prelude.{refl}
use Rattle.std.specs.List.{IsDistinct, list_any}
use Rattle.kb_days.specs.declared.period.Period.{Period}
use Rattle.kb_days.specs.declared.period.Period.TheVariants.{Monthly}
use Rattle.kb_days.specs.declared.span.Span.TheVariants.{Days, Unlimited}
use Rattle.kb_catalog.specs.declared.version.Version.{Version}
use Rattle.kb_catalog.specs.declared.product.Product.{Product}
use Rattle.kb_catalog.specs.declared.plan.Plan.{Plan}
use Rattle.kb_catalog.specs.declared.phase.Phase.{Phase}
use Rattle.kb_catalog.specs.declared.price_list.PriceList.{PriceList}
use Rattle.kb_catalog.specs.Plans.{is_unlimited, is_asked}
use Rattle.kb_catalog.specs.LookUp.{names_sold}
use Rattle.kb_catalog.specs.SmallVersion.{small, monthly, gold_monthly}

-- no two products have one name, no two plans, and no two price lists
pub record HasDistinctNames (version : Version) : Type 0 where
  pub products : IsDistinct bytes_eq (map (λ (product : Product). product.name) version.products)
  pub plans : IsDistinct bytes_eq (map (λ (plan : Plan). plan.name) version.plans)
  pub lists : IsDistinct bytes_eq (map (λ (list : PriceList). list.name) version.lists)

two_products : HasDistinctNames small
unfolding IsDistinct
two_products = record { products = ((refl, tt), (tt, tt)); plans = (tt, tt); lists = (tt, tt) }

-- there is a last phase, it is unlimited, and no earlier one is
pub record EndsUnlimited (phases : List Phase) : Type 0 where
  pub earlier : List Phase
  pub last : Phase
  pub all : phases ≡ earlier ++ last ∷ []
  pub unlimited : last.span ≡ Unlimited
  pub alone : list_any (λ (phase : Phase). is_unlimited phase.span) earlier ≡ false

thirty_days_before : EndsUnlimited (record monthly { span = Days 30 } ∷ monthly ∷ [])
thirty_days_before =
    record {
      earlier = record monthly { span = Days 30 } ∷ [];
      last = monthly;
      all = refl;
      unlimited = refl;
      alone = refl;
    }

-- a price list sells a plan for a product and a billing period
abbrev pub IsSold : Version → List ℕ → Period → List ℕ → Plan → Type 0
IsSold version product period list plan = is_asked product period (names_sold version.lists list) plan ≡ true

gold_by_the_month : IsSold small (codes "Gold") Monthly (codes "DEFAULT") gold_monthly
gold_by_the_month = refl

-- the plan at a place is sold so, and no other one
pub record IsOnlyPlan (version : Version) (product : List ℕ) (period : Period) (list : List ℕ) (place : ℕ) :
    Type 0 where
  pub plan : Plan
  pub here : slice_get version.plans place ≡ Some plan
  pub sold : IsSold version product period list plan
  pub only : (other : ℕ) (another : Plan) → slice_get version.plans other ≡ Some another
      → IsSold version product period list another → other ≡ place
