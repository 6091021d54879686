use Rattle.std.proofs.Common.{◌≡◌, ℕ, subst}
use Rattle.kb_machine.specs.Histories.{replay}
use Rattle.kb_lane.specs.Lanes.{machine_of}
use Rattle.kb_folder.specs.Foundings.{first_commands}
use Rattle.kb_make.proofs.ShopTexts.{are_both, handed_in}
use Rattle.kb_make.proofs.opening.shop_lane.Goals as goal

pub returns-clause-texts : goal.returns-clause-texts
returns-clause-texts c =
    let catalog = c.in_ok-hand_catalog_in.ensures.handed in
    let overdue = c.in_ok-hand_overdue_in.ensures.handed in
    let P : ℕ → Type 0 = λ today.
    machine_of c.hand_overdue_in.new.lane ≡ replay (first_commands today catalog.0 overdue.0) in (
      catalog.0,
      overdue.0,
      are_both catalog.0 overdue.0 catalog.1 overdue.1,
      subst P c.first_day-today.ensures
          (handed_in c.first_day-today.result catalog.0 overdue.0 (machine_of c.in_ok-lane.lane)
          (machine_of c.hand_catalog_in.new.lane) (machine_of c.hand_overdue_in.new.lane)
          c.in_ok-lane.ensures.empty
          catalog.2 overdue.2),
    )
