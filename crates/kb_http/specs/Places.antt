-- The place of a path whose kind is known: its names stand among its words.
use Rattle.std.specs.Prelude.{ℕ, ◌≡◌, ◌&&◌, if◌then◌else◌, List, codes, get_or, [], Option, Some, None, refl}
use Rattle.kb_base.specs.Lines.{pieces}
use Rattle.kb_days.specs.Names.{is_name}
use Rattle.kb_http.specs.declared.route.Route.{Route}
use Rattle.kb_http.specs.declared.route.Route.TheVariants as place
use Rattle.kb_http.specs.Routes.{slash, is_invoice_number}
use Rattle.kb_http.specs.Numbers.{number_of}
use Rattle.kb_http.specs.declared.kind.Kind.{Kind}
use Rattle.kb_http.specs.declared.kind.Kind.TheVariants as kind

-- the word that names the account, and the one that names something of it
abbrev pub account_in : List (List ℕ) → List ℕ
account_in words = get_or words 2 []

abbrev pub item_in : List (List ℕ) → List ℕ
item_in words = get_or words 4 []

of_the_account : account_in (pieces slash (codes "/accounts/a1/payments/p1")) ≡ codes "a1"
of_the_account = refl

of_the_item : item_in (pieces slash (codes "/accounts/a1/payments/p1")) ≡ codes "p1"
of_the_item = refl

-- the place of a kind, if its names are names, and that of an invoice is a number
abbrev pub named_place : Kind → List (List ℕ) → Route
named_place kind.Commands words = place.Commands
named_place kind.Janitor words = place.Janitor
named_place kind.Account words =
    if is_name (account_in words) then place.Account (account_in words) else place.Unknown
named_place kind.Invoice words =
    if is_name (account_in words) && is_invoice_number (item_in words)
    then place.Invoice (account_in words) (number_of (item_in words))
    else place.Unknown
named_place kind.Payment words =
    if is_name (account_in words) && is_name (item_in words)
    then place.Payment (account_in words) (item_in words)
    else place.Unknown
named_place kind.Subscription words =
    if is_name (account_in words) && is_name (item_in words)
    then place.Subscription (account_in words) (item_in words)
    else place.Unknown

of_an_account : named_place kind.Account (pieces slash (codes "/accounts/a1")) ≡ place.Account (codes "a1")
of_an_account = refl

of_no_name : named_place kind.Account (pieces slash (codes "/accounts/%")) ≡ place.Unknown
of_no_name = refl

-- the place of a path, by its kind, if it has one, and its words
abbrev pub place_by : Option Kind → List (List ℕ) → Route
place_by None words = place.Unknown
place_by (Some kind) words = named_place kind words

an_invoice : place_by (Some kind.Invoice) (pieces slash (codes "/accounts/a1/invoices/12"))
    ≡ place.Invoice (codes "a1") 12
an_invoice = refl

of_no_number : place_by (Some kind.Invoice) (pieces slash (codes "/accounts/a1/invoices/x")) ≡ place.Unknown
of_no_number = refl
