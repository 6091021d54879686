-- The kind that the words of a path have is the one whose shape they have.
use Rattle.std.proofs.Common.{◌≡◌, ℕ, Bool, true, false, if◌then◌else◌, List, [], ◌∷◌, Some, None, refl}
use Rattle.std.proofs.Common.{ap, ◌∙◌}
use Rattle.std.specs.Prelude.{bytes_eq, codes}
use Rattle.std.proofs.lemmas.Bool.{and_parts}
use Rattle.std.proofs.lemmas.Slice.Eq.{bytes_eq-Decides}
use Rattle.kb_http.specs.declared.kind.Kind.{Kind}
use Rattle.kb_http.specs.declared.kind.Kind.TheVariants.{Commands, Janitor, Account}
use Rattle.kb_http.specs.declared.kind.Kind.TheVariants.{Invoice, Payment, Subscription}
use Rattle.kb_http.specs.Shapes.{Part, Word, Parameter, have_shape, shape_of, of_account}
use Rattle.kb_http.proofs.FoundKinds.{kind_of, kind_of_word, kind_of_accounts, kind_of_item}

-- words that have a shape begin as it does
word-shaped : (text : List ℕ) (parts : List Part) (words : List (List ℕ))
    → have_shape (Word text ∷ parts) words ≡ true
    → (more : List (List ℕ)) × (words ≡ text ∷ more) × (have_shape parts more ≡ true)
word-shaped text parts [] is = absurd (cc)
word-shaped text parts (word ∷ words) is =
    let tests = and_parts (bytes_eq word text) (have_shape parts words) is in
    (words, ap (λ first. first ∷ words) ((bytes_eq-Decides word text).0 tests.0), tests.1)

parameter-shaped : (parts : List Part) (words : List (List ℕ)) → have_shape (Parameter ∷ parts) words ≡ true
    → (x : ℕ) × (xs : List ℕ) × (more : List (List ℕ)) × (words ≡ (x ∷ xs) ∷ more)
    × (have_shape parts more ≡ true)
parameter-shaped parts [] is = absurd (cc)
parameter-shaped parts ([] ∷ words) is = absurd (cc)
parameter-shaped parts ((x ∷ xs) ∷ words) is =
    (x, xs, words, refl, is)

end-shaped : (words : List (List ℕ)) → have_shape [] words ≡ true → words ≡ []
end-shaped [] is = refl
end-shaped (word ∷ words) is = absurd (cc)

named-shaped : (text : List ℕ) (parts : List Part) (words : List (List ℕ))
    → have_shape (Word text ∷ Parameter ∷ parts) words ≡ true
    → (x : ℕ) × (xs : List ℕ) × (more : List (List ℕ)) × (words ≡ text ∷ (x ∷ xs) ∷ more)
    × (have_shape parts more ≡ true)
named-shaped text parts words is =
    let a = word-shaped text (Parameter ∷ parts) words is in
    let b = parameter-shaped parts a.0 a.2 in
    (b.0, b.1, b.2, a.1 ∙ ap (λ more. text ∷ more) b.3, b.4)

-- such words are of the kind
item-shaped : (text : List ℕ) (words : List (List ℕ)) → have_shape (Word [] ∷ of_account text) words ≡ true
    → kind_of words ≡ kind_of_item text
item-shaped text words is =
    let a = word-shaped [] (of_account text) words is in
    let b = named-shaped (codes "accounts") (Word text ∷ Parameter ∷ []) a.0 a.2 in
    let c = named-shaped text [] b.2 b.4 in
    ap kind_of (a.1 ∙ ap (λ more. [] ∷ more) (b.3 ∙ ap (λ more. codes "accounts" ∷ (b.0 ∷ b.1) ∷ more)
    (c.3 ∙ ap (λ more. text ∷ (c.0 ∷ c.1) ∷ more) (end-shaped c.2 c.4))))

word_alone-shaped : (text : List ℕ) (words : List (List ℕ))
    → have_shape (Word [] ∷ Word text ∷ []) words ≡ true → kind_of words ≡ kind_of_word text
word_alone-shaped text words is =
    let a = word-shaped [] (Word text ∷ []) words is in
    let b = word-shaped text [] a.0 a.2 in
    ap kind_of (a.1 ∙ ap (λ more. [] ∷ more) (b.1 ∙ ap (λ more. text ∷ more) (end-shaped b.0 b.2)))

pub kind_of-shaped : (kind : Kind) (words : List (List ℕ)) → have_shape (Word [] ∷ shape_of kind) words ≡ true
    → kind_of words ≡ Some kind
kind_of-shaped Commands words is = word_alone-shaped (codes "commands") words is
kind_of-shaped Janitor words is = word_alone-shaped (codes "janitor") words is
kind_of-shaped Account words is =
    let a = word-shaped [] (shape_of Account) words is in
    let b = named-shaped (codes "accounts") [] a.0 a.2 in
    ap kind_of (a.1 ∙ ap (λ more. [] ∷ more) (b.3 ∙ ap (λ more. codes "accounts" ∷ (b.0 ∷ b.1) ∷ more)
    (end-shaped b.2 b.4)))
kind_of-shaped Invoice words is = item-shaped (codes "invoices") words is
kind_of-shaped Payment words is = item-shaped (codes "payments") words is
kind_of-shaped Subscription words is = item-shaped (codes "subscriptions") words is

-- words of a kind have its shape
item_shape : (kind : Kind) (word : List ℕ) → kind_of_item word ≡ Some kind
    → (text : List ℕ) × (shape_of kind ≡ of_account text) × (bytes_eq word text ≡ true)
item_shape kind word is =
    by_tests (bytes_eq word (codes "invoices")) (bytes_eq word (codes "payments"))
    (bytes_eq word (codes "subscriptions")) refl refl refl is
  where
    by_tests : (a b c : Bool) → bytes_eq word (codes "invoices") ≡ a → bytes_eq word (codes "payments") ≡ b
        → bytes_eq word (codes "subscriptions") ≡ c
        → (if a then Some Invoice else (if b then Some Payment else (if c then Some Subscription else None)))
        ≡ Some kind
        → (text : List ℕ) × (shape_of kind ≡ of_account text) × (bytes_eq word text ≡ true)
    by_tests true b c is_a is_b is_c is =
        (codes "invoices", ap shape_of (let same : kind ≡ Invoice = cc in same), is_a)
    by_tests false true c is_a is_b is_c is =
        (codes "payments", ap shape_of (let same : kind ≡ Payment = cc in same), is_b)
    by_tests false false true is_a is_b is_c is =
        (codes "subscriptions", ap shape_of (let same : kind ≡ Subscription = cc in same), is_c)
    by_tests false false false is_a is_b is_c is = absurd (cc)

account_shape : (kind : Kind) (accounts account : List ℕ) (more : List (List ℕ))
    → bytes_eq accounts (codes "accounts") ≡ true → kind_of_accounts (account ∷ more) ≡ Some kind
    → have_shape (Word [] ∷ shape_of kind) ([] ∷ accounts ∷ account ∷ more) ≡ true
account_shape kind accounts [] more same is = absurd (cc)
account_shape kind accounts (x ∷ xs) [] same is =
    let this : kind ≡ Account = cc in
    rw (this, same) refl
account_shape kind accounts (x ∷ xs) (word ∷ []) same is = absurd (cc)
account_shape kind accounts (x ∷ xs) (word ∷ [] ∷ more) same is = absurd (cc)
account_shape kind accounts (x ∷ xs) (word ∷ (y ∷ ys) ∷ []) same is =
    let shape = item_shape kind word is in
    rw (shape.1, same, shape.2) refl
account_shape kind accounts (x ∷ xs) (word ∷ (y ∷ ys) ∷ next ∷ more) same is = absurd (cc)

pub shaped-kind_of : (kind : Kind) (words : List (List ℕ)) → kind_of words ≡ Some kind
    → have_shape (Word [] ∷ shape_of kind) words ≡ true
shaped-kind_of kind [] is = absurd (cc)
shaped-kind_of kind ((x ∷ xs) ∷ words) is = absurd (cc)
shaped-kind_of kind ([] ∷ []) is = absurd (cc)
shaped-kind_of kind ([] ∷ word ∷ []) is =
    by_tests (bytes_eq word (codes "commands")) (bytes_eq word (codes "janitor")) refl refl is
  where
    by_tests : (c j : Bool) → bytes_eq word (codes "commands") ≡ c → bytes_eq word (codes "janitor") ≡ j
        → (if c then Some Commands else (if j then Some Janitor else None)) ≡ Some kind
        → have_shape (Word [] ∷ shape_of kind) ([] ∷ word ∷ []) ≡ true
    by_tests true j is_c is_j is =
        let this : kind ≡ Commands = cc in
        rw (this, is_c) refl
    by_tests false true is_c is_j is =
        let this : kind ≡ Janitor = cc in
        rw (this, is_j) refl
    by_tests false false is_c is_j is = absurd (cc)
shaped-kind_of kind ([] ∷ word ∷ next ∷ more) is = by_test (bytes_eq word (codes "accounts")) refl is
  where
    by_test : (test : Bool) → bytes_eq word (codes "accounts") ≡ test
        → (if test then kind_of_accounts (next ∷ more) else None) ≡ Some kind
        → have_shape (Word [] ∷ shape_of kind) ([] ∷ word ∷ next ∷ more) ≡ true
    by_test true same is = account_shape kind word next more same is
    by_test false same is = absurd (cc)
