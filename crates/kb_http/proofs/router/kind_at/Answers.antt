use Rattle.std.proofs.Common.{◌∙◌, ap, sym}
use Rattle.std.specs.Prelude.{option_map}
use Rattle.matchit.specs.Router.{RouteOf}
use Rattle.kb_base.specs.Lines.{pieces}
use Rattle.kb_http.specs.Routes.{slash}
use Rattle.kb_http.specs.declared.kind.Kind.{Kind}
use Rattle.kb_http.specs.Places.{place_by}
use Rattle.kb_http.proofs.AgreedRoutes.{first-held, places_are_kinds, IsText-bytes}
use Rattle.kb_http.proofs.router.kind_at.Goals as goal

pub returns-in-Ok-clause-kind : goal.returns-in-Ok-clause-kind
returns-in-Ok-clause-kind c =
    ap (option_map (λ (route : RouteOf Kind). route.value)) (sym c.in-Ok.ensures.found)
    ∙ first-held c.args.router.now c.args.path.now c.requires (IsText-bytes c.args.path.now c.type_inv.path)

pub returns-in-Ok-clause-place : goal.returns-in-Ok-clause-place
returns-in-Ok-clause-place c =
    places_are_kinds c.args.path.now (IsText-bytes c.args.path.now c.type_inv.path)
    ∙ ap (λ found. place_by found (pieces slash c.args.path.now)) (sym (returns-in-Ok-clause-kind c))

pub returns-in-Err-clause-kind : goal.returns-in-Err-clause-kind
returns-in-Err-clause-kind c =
    ap (option_map (λ (route : RouteOf Kind). route.value)) (sym c.in-Err.ensures.missing)
    ∙ first-held c.args.router.now c.args.path.now c.requires (IsText-bytes c.args.path.now c.type_inv.path)

pub returns-in-Err-clause-place : goal.returns-in-Err-clause-place
returns-in-Err-clause-place c =
    places_are_kinds c.args.path.now (IsText-bytes c.args.path.now c.type_inv.path)
    ∙ ap (λ found. place_by found (pieces slash c.args.path.now)) (sym (returns-in-Err-clause-kind c))
