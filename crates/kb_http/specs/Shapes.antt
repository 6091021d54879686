-- The shapes of the service's routes: which words stand between the slashes of their paths.
use Rattle.std.specs.Prelude.{ℕ, Bool, ◌≡◌, ◌&&◌, true, false, List, [], ◌∷◌, codes, bytes_eq, refl}
use Rattle.kb_base.specs.Lines.{pieces}
use Rattle.kb_http.specs.Routes.{slash}
use Rattle.kb_http.specs.declared.kind.Kind.{Kind}
use Rattle.kb_http.specs.declared.kind.Kind.TheVariants.{Commands, Janitor, Account}
use Rattle.kb_http.specs.declared.kind.Kind.TheVariants.{Invoice, Payment, Subscription}

-- a part of a shape: a word that a path must have there, or a parameter, for any word but the empty one
pub data Part : Type 0 where
  Word : List ℕ → Part
  Parameter : Part

-- a word of a path fits a part
abbrev pub fits : Part → List ℕ → Bool
fits (Word text) word = bytes_eq word text
fits Parameter [] = false
fits Parameter (byte ∷ bytes) = true

a_name : fits Parameter (codes "a1") ≡ true
a_name = refl

no_name : fits Parameter (codes "") ≡ false
no_name = refl

-- words have a shape: there is one for each part, and it fits
abbrev pub have_shape : List Part → List (List ℕ) → Bool
have_shape [] [] = true
have_shape [] (word ∷ words) = false
have_shape (part ∷ parts) [] = false
have_shape (part ∷ parts) (word ∷ words) = fits part word && have_shape parts words

a_word_too_many : have_shape (Parameter ∷ []) (codes "a1" ∷ codes "b1" ∷ []) ≡ false
a_word_too_many = refl

-- the shape of something of an account
abbrev pub of_account : List ℕ → List Part
of_account text = Word (codes "accounts") ∷ Parameter ∷ Word text ∷ Parameter ∷ []

-- the shape of each kind, behind the first slash
abbrev pub shape_of : Kind → List Part
shape_of Commands = Word (codes "commands") ∷ []
shape_of Janitor = Word (codes "janitor") ∷ []
shape_of Account = Word (codes "accounts") ∷ Parameter ∷ []
shape_of Invoice = of_account (codes "invoices")
shape_of Payment = of_account (codes "payments")
shape_of Subscription = of_account (codes "subscriptions")

of_an_invoice : have_shape (shape_of Invoice) (pieces slash (codes "accounts/a1/invoices/12")) ≡ true
of_an_invoice = refl

-- a path has the shape of a kind: nothing stands before its first slash, and its words behind that have it
abbrev pub has_shape : Kind → List ℕ → Bool
has_shape kind path = have_shape (Word [] ∷ shape_of kind) (pieces slash path)

an_account : has_shape Account (codes "/accounts/a1") ≡ true
an_account = refl

with_an_empty_word : has_shape Account (codes "/accounts/") ≡ false
with_an_empty_word = refl

with_a_slash_behind : has_shape Account (codes "/accounts/a1/") ≡ false
with_a_slash_behind = refl
