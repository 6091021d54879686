-- What the small version answers: plans looked up.
use Rattle.std.specs.Prelude.{◌≡◌, codes, Some, None, refl}
use Rattle.kb_days.specs.declared.period.Period.TheVariants.{Monthly, Annual}
use Rattle.kb_catalog.specs.SmallVersion.{small}
use Rattle.kb_catalog.specs.LookUp.{plan_at}

-- its one plan, by the default list
found : plan_at small (codes "Gold") Monthly (codes "DEFAULT") ≡ Some (0, 0)
found = refl

other_period : plan_at small (codes "Gold") Annual (codes "DEFAULT") ≡ None
other_period = refl

other_list : plan_at small (codes "Gold") Monthly (codes "SALE") ≡ None
other_list = refl
