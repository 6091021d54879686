-- What `matchit` and the service's own reading of paths agree on, for routers and for the rows of one.
use Rattle.std.proofs.Common.{◌≡◌, ℕ, suc, List, [], ◌∷◌, get_or, Option, Some, None, refl, sym, ap}
use Rattle.std.proofs.Common.{◌∙◌, Fits, w8, arith}
use Rattle.std.specs.Prelude.{option_map}
use Rattle.matchit.specs.Level.{IsText}
use Rattle.matchit.specs.Route.{scan}
use Rattle.matchit.specs.Router.{RouteOf}
use Rattle.matchit.specs.Rows.{RowsOf}
use Rattle.matchit.specs.Seek.{first}
use Rattle.kb_base.specs.Lines.{pieces}
use Rattle.kb_http.specs.Routes.{slash}
use Rattle.kb_http.specs.declared.kind.Kind.{Kind}
use Rattle.kb_http.specs.declared.kind.Kind.TheVariants.{Commands, Janitor, Account}
use Rattle.kb_http.specs.declared.kind.Kind.TheVariants.{Invoice, Payment, Subscription}
use Rattle.kb_http.specs.Rows.{HasRoutes, routes}
use Rattle.kb_http.specs.Places.{place_by}
use Rattle.kb_http.specs.Agreements.{TextsAreShapes, KindsAreShapes, PlacesAreKinds}
use Rattle.kb_http.proofs.FoundKinds.{kind_of, first-rows_by}
use Rattle.kb_http.proofs.ShapedKinds.{kind_of-shaped, shaped-kind_of}
use Rattle.kb_http.proofs.KnownPlaces.{of_pieces-known}

-- the texts of the routes
pub texts_are_shapes : TextsAreShapes
unfolding scan
texts_are_shapes Commands = (_, refl, refl)
texts_are_shapes Janitor = (_, refl, refl)
texts_are_shapes Account = (_, refl, refl)
texts_are_shapes Invoice = (_, refl, refl)
texts_are_shapes Payment = (_, refl, refl)
texts_are_shapes Subscription = (_, refl, refl)

option_map-id : (found : Option Kind) → option_map (λ kind. kind) found ≡ found
option_map-id None = refl
option_map-id (Some kind) = refl

-- the kind that `matchit` finds
first-routes : (path : List ℕ) → IsText path → first routes path ≡ kind_of (pieces slash path)
first-routes path bytes =
    first-rows_by (λ kind. kind) path bytes ∙ option_map-id (kind_of (pieces slash path))

pub kinds_are_shapes : KindsAreShapes
kinds_are_shapes path kind bytes = (
  λ found. shaped-kind_of kind (pieces slash path) (sym (first-routes path bytes) ∙ found),
  λ shaped. first-routes path bytes ∙ kind_of-shaped kind (pieces slash path) shaped,
)

pub places_are_kinds : PlacesAreKinds
places_are_kinds path bytes =
    of_pieces-known (pieces slash path)
    ∙ ap (λ found. place_by found (pieces slash path)) (sym (first-routes path bytes))

-- a router of the routes finds a kind's route where those rows find the kind
value_of-map : (key : Kind → RouteOf Kind) → ((kind : Kind) → (key kind).value ≡ kind) → (found : Option Kind)
    → option_map (λ (route : RouteOf Kind). route.value) (option_map key found) ≡ found
value_of-map key values None = refl
value_of-map key values (Some kind) = ap Some (values kind)

pub first-held : (held : RowsOf (RouteOf Kind)) (path : List ℕ) → HasRoutes held → IsText path
    → option_map (λ (route : RouteOf Kind). route.value) (first held path) ≡ first routes path
first-held held path has bytes =
    ap (λ rows. option_map (λ (route : RouteOf Kind). route.value) (first rows path)) has.rows
    ∙ ap (option_map (λ (route : RouteOf Kind). route.value)) (first-rows_by has.key path bytes)
    ∙ value_of-map has.key has.values (kind_of (pieces slash path)) ∙ sym (first-routes path bytes)

-- the bytes of a path
pub IsText-bytes : (path : List ℕ) → ((at : ℕ) → Fits w8 (get_or path at 0)) → IsText path
IsText-bytes [] fits = tt
IsText-bytes (x ∷ xs) fits =
    let byte : Fits w8 x = fits 0 in
    (omega arith, IsText-bytes xs (λ at. fits (suc at)))
