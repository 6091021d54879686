-- The service's routes as a router holds them.
use Rattle.std.specs.Prelude.{ℕ, ◌≡◌, List, [], ◌∷◌, ◌++◌, codes, Some, None, refl}
use Rattle.matchit.specs.Rows.{RowsOf, param_token}
use Rattle.matchit.specs.Router.{RouteOf}
use Rattle.matchit.specs.Seek.{first, seek, param_step}
use Rattle.kb_http.specs.Routes.{slash}
use Rattle.kb_http.specs.declared.kind.Kind.{Kind}
use Rattle.kb_http.specs.declared.kind.Kind.TheVariants.{Commands, Janitor, Account}
use Rattle.kb_http.specs.declared.kind.Kind.TheVariants.{Invoice, Payment, Subscription}
use Rattle.kb_http.specs.Shapes.{Part, Word, Parameter, shape_of}

-- the text of each kind's route, as it is inserted
abbrev pub text_of : Kind → List ℕ
text_of Commands = codes "/commands"
text_of Janitor = codes "/janitor"
text_of Account = codes "/accounts/{account}"
text_of Invoice = codes "/accounts/{account}/invoices/{invoice}"
text_of Payment = codes "/accounts/{account}/payments/{payment}"
text_of Subscription = codes "/accounts/{account}/subscriptions/{subscription}"

-- the tokens of a part: the bytes of its word, or one for a parameter
abbrev pub tokens_of : Part → List ℕ
tokens_of (Word text) = text
tokens_of Parameter = param_token ∷ []

-- the pattern of a shape: a slash before each part
abbrev pub pattern_of : List Part → List ℕ
pattern_of [] = []
pattern_of (part ∷ parts) = slash ∷ tokens_of part ++ pattern_of parts

of_two_parts : pattern_of (Word (codes "a") ∷ Parameter ∷ []) ≡ codes "/a/" ++ param_token ∷ []
of_two_parts = refl

-- the row of a kind
abbrev pub row_of : {K : Type 0} → (Kind → K) → Kind → List ℕ × K
row_of key kind = (pattern_of (shape_of kind), key kind)

of_the_janitor : row_of (λ kind. kind) Janitor ≡ (codes "/janitor", Janitor)
of_the_janitor = refl

-- a row for each kind, in the order in which a router keeps them, whatever the order of the inserts
abbrev pub rows_by : {K : Type 0} → (Kind → K) → RowsOf K
rows_by key =
    row_of key Invoice ∷ row_of key Payment ∷ row_of key Subscription ∷ row_of key Account
    ∷ row_of key Commands ∷ row_of key Janitor ∷ []

-- the routes, each with its kind
abbrev pub routes : RowsOf Kind
routes = rows_by (λ kind. kind)

an_account : first routes (codes "/accounts/a") ≡ Some Account
unfolding seek param_step
an_account = refl

no_account : first routes (codes "/accounts/") ≡ None
unfolding seek param_step
no_account = refl

-- a router holds these routes, and the value of each is its kind
pub record HasRoutes (held : RowsOf (RouteOf Kind)) : Type 0 where
  pub key : Kind → RouteOf Kind
  pub rows : held ≡ rows_by key
  pub values : (kind : Kind) → (key kind).value ≡ kind
  pub texts : (kind : Kind) → (key kind).text ≡ text_of kind
