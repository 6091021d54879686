-- What `matchit` and the service's own reading of paths agree on. A path is of bytes.
use Rattle.std.specs.Prelude.{ℕ, ◌≡◌, ◌↔◌, true, List, Some, Ok}
use Rattle.matchit.specs.Level.{IsText}
use Rattle.matchit.specs.Route.{Scan, parse_route}
use Rattle.matchit.specs.Seek.{first}
use Rattle.kb_base.specs.Lines.{pieces}
use Rattle.kb_http.specs.Routes.{slash, place_of}
use Rattle.kb_http.specs.declared.kind.Kind.{Kind}
use Rattle.kb_http.specs.Shapes.{shape_of, has_shape}
use Rattle.kb_http.specs.Rows.{text_of, pattern_of, routes}
use Rattle.kb_http.specs.Places.{place_by}

-- the text of each route is read as the pattern of its shape
abbrev pub TextsAreShapes : Type 0
TextsAreShapes = (kind : Kind) → (read : Scan) × (parse_route (text_of kind) ≡ Ok read)
    × (read.pattern ≡ pattern_of (shape_of kind))

-- for each path, `matchit` finds the route whose shape the path has, and none if it has the shape of none
abbrev pub KindsAreShapes : Type 0
KindsAreShapes = (path : List ℕ) (kind : Kind) → IsText path
    → (first routes path ≡ Some kind) ↔ (has_shape kind path ≡ true)

-- each path leads to the place of the route that `matchit` finds, with the names that its words give, and
-- nowhere if there is none
abbrev pub PlacesAreKinds : Type 0
PlacesAreKinds = (path : List ℕ) → IsText path
    → place_of path ≡ place_by (first routes path) (pieces slash path)
