use Rattle.std.proofs.Common.{◌≡◌, None, subst}
use Rattle.kb_catalog.specs.declared.version.Version.{Version}
use Rattle.kb_book.specs.Rows.{first_refusal}
use Rattle.kb_machine.specs.Texts.{catalog_rows}
use Rattle.kb_machine.proofs.CatalogRows.{other_rows}
use Rattle.kb_machine.proofs.texts.with_version.Goals as goal

pub returns-in-Ok-clause-allowed : goal.returns-in-Ok-clause-allowed
returns-in-Ok-clause-allowed c =
    let P : Version → Type 0 = λ version. first_refusal
    (catalog_rows c.world.inside.catalog version) ≡ None in
    rw (← c.world.view_is) (subst P c.in_ok-version.ensures
    (other_rows c.world.inside.catalog c.in_ok-version.version
    (λ early. cc (c.add.ensures.order.1 early, c.in-Ok.is))
    (λ full. cc (c.add.ensures.limit.1 full, c.in-Ok.is))))
