-- The place that the words of a path have, by their kind.
use Rattle.std.proofs.Common.{◌≡◌, ℕ, ◌&&◌, Bool, true, false, if◌then◌else◌, List, [], ◌∷◌, Some, None, refl}
use Rattle.std.specs.Prelude.{bytes_eq, codes}
use Rattle.kb_days.specs.Names.{is_name}
use Rattle.kb_http.specs.declared.route.Route.{Route}
use Rattle.kb_http.specs.declared.route.Route.TheVariants as place
use Rattle.kb_http.specs.Routes.{of_pieces, of_accounts, is_invoice_number}
use Rattle.kb_http.specs.Numbers.{number_of}
use Rattle.kb_http.specs.declared.kind.Kind.TheVariants as kind
use Rattle.kb_http.specs.Places.{place_by}
use Rattle.kb_http.proofs.FoundKinds.{kind_of, kind_of_accounts}

-- the words of a path of something of an account
abbrev pub item_words : List ℕ → List ℕ → List ℕ → List ℕ → List (List ℕ)
item_words accounts account word item = [] ∷ accounts ∷ account ∷ word ∷ item ∷ []

-- what becomes of both if they take the same tests
unnamed : (test : Bool) → (if test then place.Unknown else place.Unknown) ≡ place.Unknown
unnamed true = refl
unnamed false = refl

both : (first second : Bool) (found : Route)
    → (if first then (if second then found else place.Unknown) else place.Unknown)
    ≡ (if first && second then found else place.Unknown)
both true second found = refl
both false second found = refl

-- something of an account
of_item : (accounts : List ℕ) (x : ℕ) (xs word : List ℕ) (item : List ℕ)
    → of_accounts ((x ∷ xs) ∷ word ∷ item ∷ [])
    ≡ place_by (kind_of_accounts ((x ∷ xs) ∷ word ∷ item ∷ [])) (item_words accounts (x ∷ xs) word item)
of_item accounts x xs word [] =
    by_tests (is_name (x ∷ xs)) (bytes_eq word (codes "invoices")) (bytes_eq word (codes "payments"))
    (bytes_eq word (codes "subscriptions"))
  where
    by_tests : (named a b c : Bool)
        → (if named then (if a then place.Unknown
        else (if b then place.Unknown else (if c then place.Unknown else place.Unknown))) else place.Unknown)
        ≡ place.Unknown
    by_tests named a b c = rw (unnamed c, unnamed b, unnamed a) (unnamed named)
of_item accounts x xs word (y ∷ ys) =
    by_tests (bytes_eq word (codes "invoices")) (bytes_eq word (codes "payments"))
    (bytes_eq word (codes "subscriptions"))
  where
    by_tests : (a b c : Bool)
        → (if is_name (x ∷ xs) then
        (if a then
        (if is_invoice_number (y ∷ ys) then place.Invoice (x ∷ xs) (number_of (y ∷ ys)) else place.Unknown)
        else (if b then (if is_name (y ∷ ys) then place.Payment (x ∷ xs) (y ∷ ys) else place.Unknown)
        else (if c then (if is_name (y ∷ ys) then place.Subscription (x ∷ xs) (y ∷ ys) else place.Unknown)
        else place.Unknown))) else place.Unknown)
        ≡ place_by (if a then Some kind.Invoice
        else (if b then Some kind.Payment else (if c then Some kind.Subscription else None)))
        (item_words accounts (x ∷ xs) word (y ∷ ys))
    by_tests true b c =
        both (is_name (x ∷ xs)) (is_invoice_number (y ∷ ys)) (place.Invoice (x ∷ xs) (number_of (y ∷ ys)))
    by_tests false true c = both (is_name (x ∷ xs)) (is_name (y ∷ ys)) (place.Payment (x ∷ xs) (y ∷ ys))
    by_tests false false true =
        both (is_name (x ∷ xs)) (is_name (y ∷ ys)) (place.Subscription (x ∷ xs) (y ∷ ys))
    by_tests false false false = unnamed (is_name (x ∷ xs))

of_accounts-known : (accounts account : List ℕ) (more : List (List ℕ))
    → of_accounts (account ∷ more)
    ≡ place_by (kind_of_accounts (account ∷ more)) ([] ∷ accounts ∷ account ∷ more)
of_accounts-known accounts [] more = refl
of_accounts-known accounts (x ∷ xs) [] = refl
of_accounts-known accounts (x ∷ xs) (word ∷ []) = unnamed (is_name (x ∷ xs))
of_accounts-known accounts (x ∷ xs) (word ∷ item ∷ []) = of_item accounts x xs word item
of_accounts-known accounts (x ∷ xs) (word ∷ [] ∷ next ∷ more) = unnamed (is_name (x ∷ xs))
of_accounts-known accounts (x ∷ xs) (word ∷ (y ∷ ys) ∷ next ∷ more) = unnamed (is_name (x ∷ xs))

-- whatever the words are
pub of_pieces-known : (words : List (List ℕ)) → of_pieces words ≡ place_by (kind_of words) words
of_pieces-known [] = refl
of_pieces-known ((x ∷ xs) ∷ words) = refl
of_pieces-known ([] ∷ []) = refl
of_pieces-known ([] ∷ word ∷ []) =
    by_tests (bytes_eq word (codes "commands")) (bytes_eq word (codes "janitor"))
  where
    by_tests : (c j : Bool) → (if c then place.Commands else (if j then place.Janitor else place.Unknown))
        ≡ place_by (if c then Some kind.Commands else (if j then Some kind.Janitor else None))
        ([] ∷ word ∷ [])
    by_tests true j = refl
    by_tests false true = refl
    by_tests false false = refl
of_pieces-known ([] ∷ word ∷ next ∷ more) =
    by_test (bytes_eq word (codes "accounts")) (of_accounts-known word next more)
  where
    by_test : (test : Bool)
        → of_accounts (next ∷ more) ≡ place_by (kind_of_accounts (next ∷ more)) ([] ∷ word ∷ next ∷ more)
        → (if test then of_accounts (next ∷ more) else place.Unknown)
        ≡ place_by (if test then kind_of_accounts (next ∷ more) else None) ([] ∷ word ∷ next ∷ more)
    by_test true known = known
    by_test false known = refl
