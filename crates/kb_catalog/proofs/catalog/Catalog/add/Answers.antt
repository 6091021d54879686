-- The versions with the later one behind them are a catalog's.
use Rattle.std.proofs.Common.{◌≡◌, ◌++◌, ◌∷◌, [], List, length, map, subst, sym, arith}
use Rattle.std.proofs.lemmas.Grind.{common_steps}
use Rattle.std.specs.Arc.{arc_value}
use Rattle.kb_catalog.specs.declared.version.Version.{Version}
use Rattle.kb_catalog.specs.VersionRules.{IsValid}
use Rattle.kb_catalog.specs.Catalogs.{max_versions, IsCatalog}
use Rattle.kb_catalog.proofs.Added.{IsCatalog-push}
use Rattle.kb_catalog.proofs.catalog.Catalog.add.Goals as goal

pub invariant_of-result : goal.invariant_of-result
invariant_of-result c =
    let same : map arc_value c.in_ok-versions.versions.items ≡ c.args.self.now ++ c.args.version ∷ [] =
    grind (arith, common_steps) in
    let sound = subst (λ (versions : List Version). IsCatalog versions) c.self.view_is c.self.invariant in
    let valid = subst (λ (version : Version). IsValid version) c.version.view_is c.version.invariant.0 in
    let room : length c.args.self.now ≡ max_versions → ⊥ = λ full. absurd (grind (arith, common_steps)) in
    subst (λ (versions : List Version). IsCatalog versions) (sym same)
    (IsCatalog-push c.args.self.now c.args.version sound c.if-is_early.ensures valid room)
