-- Where a request goes: by the words between the slashes of its path, and its method.
use Rattle.std.specs.Prelude.{ℕ, Bool, ◌≡◌, ◌==◌, ◌&&◌, not, nat_le, if◌then◌else◌, List, [], ◌∷◌}
use Rattle.std.specs.Prelude.{take_while, codes, bytes_eq, get_or, refl}
use Rattle.kb_base.specs.Lines.{pieces}
use Rattle.kb_days.specs.Names.{is_name}
use Rattle.kb_http.specs.declared.route.Allow.{Allow}
use Rattle.kb_http.specs.declared.route.Allow.TheVariants as allow
use Rattle.kb_http.specs.declared.route.Method.{Method}
use Rattle.kb_http.specs.declared.route.Method.TheVariants as method
use Rattle.kb_http.specs.declared.route.Route.{Route}
use Rattle.kb_http.specs.declared.route.Route.TheVariants.{Commands, Janitor, Account, Invoice, Payment}
use Rattle.kb_http.specs.declared.route.Route.TheVariants.{Subscription, NotAllowed, Unknown}
use Rattle.kb_http.specs.Numbers.{is_number, number_of}

-- the path of a target: what stands before a question mark
abbrev pub path_of : List ℕ → List ℕ
path_of target = take_while (λ byte. not (byte == 63)) target

before_the_query : path_of (codes "/a?b=/c") ≡ codes "/a"
before_the_query = refl

-- a slash stands between the words of a path
abbrev pub slash : ℕ
slash = 47

-- the number of an invoice: from 1 to 4294967295, with no leading zero
abbrev pub is_invoice_number : List ℕ → Bool
is_invoice_number text = is_number text && not (get_or text 0 0 == 48) && nat_le (number_of text) 4294967295

-- what is asked of an account
abbrev pub item_of : List ℕ → List ℕ → List ℕ → Route
item_of account kind item =
    if bytes_eq kind (codes "invoices")
    then (if is_invoice_number item then Invoice account (number_of item) else Unknown)
    else (
    if bytes_eq kind (codes "payments") then (if is_name item then Payment account item else Unknown)
    else (
    if bytes_eq kind (codes "subscriptions")
    then (if is_name item then Subscription account item else Unknown)
    else Unknown))

-- the words behind the name of an account
abbrev pub of_account : List ℕ → List (List ℕ) → Route
of_account account [] = Account account
of_account account (kind ∷ []) = Unknown
of_account account (kind ∷ item ∷ []) = item_of account kind item
of_account account (kind ∷ item ∷ next ∷ more) = Unknown

-- the words behind 'accounts'
abbrev pub of_accounts : List (List ℕ) → Route
of_accounts [] = Unknown
of_accounts (account ∷ more) = if is_name account then of_account account more else Unknown

-- the only word of a path
abbrev pub of_word : List ℕ → Route
of_word word =
    if bytes_eq word (codes "commands") then Commands
    else (if bytes_eq word (codes "janitor") then Janitor else Unknown)

-- the words behind the first slash
abbrev pub of_words : List (List ℕ) → Route
of_words [] = Unknown
of_words (word ∷ []) = of_word word
of_words (word ∷ next ∷ more) =
    if bytes_eq word (codes "accounts") then of_accounts (next ∷ more) else Unknown

-- nothing stands before the first slash
abbrev pub of_pieces : List (List ℕ) → Route
of_pieces [] = Unknown
of_pieces ([] ∷ words) = of_words words
of_pieces ((byte ∷ bytes) ∷ words) = Unknown

-- where a path leads
abbrev pub place_of : List ℕ → Route
place_of path = of_pieces (pieces slash path)

an_invoice : place_of (codes "/accounts/a1/invoices/12") ≡ Invoice (codes "a1") 12
an_invoice = refl

with_a_leading_zero : place_of (codes "/accounts/a1/invoices/01") ≡ Unknown
with_a_leading_zero = refl

with_an_empty_word : place_of (codes "/accounts//a1") ≡ Unknown
with_an_empty_word = refl

with_one_at_its_end : place_of (codes "/commands/") ≡ Unknown
with_one_at_its_end = refl

-- the methods that are known
abbrev pub method_of : List ℕ → Method
method_of text =
    if bytes_eq text (codes "GET") then method.Get
    else (if bytes_eq text (codes "POST") then method.Post else method.Other)

-- a place by its one method; by another it is known which one is allowed
abbrev pub by_method : Allow → Method → Route → Route
by_method allow.Get method.Get route = route
by_method allow.Post method.Post route = route
by_method only method route = NotAllowed only

-- a place that is asked for by a method
abbrev pub asked_for : Method → Route → Route
asked_for method Commands = by_method allow.Post method Commands
asked_for method Janitor = by_method allow.Post method Janitor
asked_for method (Account account) = by_method allow.Get method (Account account)
asked_for method (Invoice account invoice) = by_method allow.Get method (Invoice account invoice)
asked_for method (Payment account payment) = by_method allow.Get method (Payment account payment)
asked_for method (Subscription account name) = by_method allow.Get method (Subscription account name)
asked_for method (NotAllowed only) = NotAllowed only
asked_for method Unknown = Unknown

-- where a request goes
abbrev pub route_of : Method → List ℕ → Route
route_of method target = asked_for method (place_of (path_of target))

by_another_method : route_of method.Get (codes "/commands?x") ≡ NotAllowed allow.Post
by_another_method = refl
