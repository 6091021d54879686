-- The key that a walk over the service's routes finds: that of the kind which the words of the path have.
use Rattle.std.proofs.Common.{◌≡◌, ℕ, ◌==◌, Bool, true, false, cond, if◌then◌else◌, List, [], ◌∷◌}
use Rattle.std.proofs.Common.{◌++◌, Option, Some, None, refl, sym, ap, ◌∙◌, arith}
use Rattle.std.specs.Prelude.{bytes_eq, codes, option_map}
use Rattle.matchit.specs.Level.{IsText}
use Rattle.matchit.specs.Rows.{RowsOf, param_token}
use Rattle.matchit.specs.Seek.{first, seek, or_else, has_slash}
use Rattle.kb_base.specs.Lines.{pieces}
use Rattle.kb_base.proofs.Pieces.{pieces-some}
use Rattle.kb_http.specs.Routes.{slash}
use Rattle.kb_http.specs.declared.kind.Kind.{Kind}
use Rattle.kb_http.specs.declared.kind.Kind.TheVariants.{Commands, Janitor, Account}
use Rattle.kb_http.specs.declared.kind.Kind.TheVariants.{Invoice, Payment, Subscription}
use Rattle.kb_http.specs.Rows.{rows_by}
use Rattle.kb_http.proofs.Cuts.{by_cut, pieces-whole, pieces-cut, bytes_eq-cut, IsText-behind}
use Rattle.kb_http.proofs.Seeks.{behind, first-append, first-behind, behind-nil, or_else-none, seek-none}
use Rattle.kb_http.proofs.Seeks.{own-behind}
use Rattle.kb_http.proofs.FirstWords.{first-end, first-word, first-no_word, eqb-sym}
use Rattle.kb_http.proofs.FirstNames.{going_on, if_some, first-name, first-name_end}

-- the kind of what stands under an account, by its first word
abbrev pub kind_of_item : List ℕ → Option Kind
kind_of_item word =
    if bytes_eq word (codes "invoices") then Some Invoice
    else (
    if bytes_eq word (codes "payments") then Some Payment
    else (if bytes_eq word (codes "subscriptions") then Some Subscription else None))

-- one word is left, and it isn't empty
abbrev pub is_last : List (List ℕ) → Bool
is_last [] = false
is_last ([] ∷ words) = false
is_last ((x ∷ xs) ∷ []) = true
is_last ((x ∷ xs) ∷ next ∷ more) = false

-- the kind by the words behind the name of an account
abbrev pub kind_of_account : List (List ℕ) → Option Kind
kind_of_account [] = Some Account
kind_of_account (word ∷ items) = if is_last items then kind_of_item word else None

-- by the words behind 'accounts'
abbrev pub kind_of_accounts : List (List ℕ) → Option Kind
kind_of_accounts [] = None
kind_of_accounts (account ∷ more) = if_some account (kind_of_account more)

-- by the only word
abbrev pub kind_of_word : List ℕ → Option Kind
kind_of_word word =
    if bytes_eq word (codes "commands") then Some Commands
    else (if bytes_eq word (codes "janitor") then Some Janitor else None)

-- by the words behind the first slash
abbrev pub kind_of_words : List (List ℕ) → Option Kind
kind_of_words [] = None
kind_of_words (word ∷ []) = kind_of_word word
kind_of_words (word ∷ next ∷ more) =
    if bytes_eq word (codes "accounts") then kind_of_accounts (next ∷ more) else None

-- by all words
abbrev pub kind_of : List (List ℕ) → Option Kind
kind_of [] = None
kind_of ([] ∷ words) = kind_of_words words
kind_of ((byte ∷ bytes) ∷ words) = None

module _ {K : Type 0} (key : Kind → K) where
  -- the rows of what is left of the routes
  abbrev end_rows : Kind → RowsOf K
  end_rows kind = ([], key kind) ∷ []

  abbrev name_rows : Kind → RowsOf K
  name_rows kind = behind (param_token ∷ []) (going_on [] (Some (key kind)))

  abbrev kind_rows : List ℕ → Kind → RowsOf K
  kind_rows text kind = behind text (behind (slash ∷ []) (name_rows kind))

  abbrev item_rows : RowsOf K
  item_rows =
      kind_rows (codes "invoices") Invoice
      ++ (kind_rows (codes "payments") Payment ++ kind_rows (codes "subscriptions") Subscription)

  abbrev account_rows : RowsOf K
  account_rows = behind (param_token ∷ []) (going_on item_rows (Some (key Account)))

  abbrev accounts_rows : RowsOf K
  accounts_rows = behind (codes "accounts") (behind (slash ∷ []) account_rows)

  abbrev word_rows : RowsOf K
  word_rows =
      accounts_rows
      ++ (behind (codes "commands") (end_rows Commands) ++ behind (codes "janitor") (end_rows Janitor))

  -- the name of something of an account
  abbrev FindsName : Kind → List ℕ → Type 0
  FindsName kind path = IsText path
      → first (name_rows kind) path ≡ (if is_last (pieces slash path) then Some (key kind) else None)

  first-name_rows : (kind : Kind) (path : List ℕ) → FindsName kind path
  first-name_rows kind = by_cut (FindsName kind) by_whole by_word
    where
      if_whole : (word : List ℕ) → if_some word (Some (key kind))
          ≡ (if is_last (word ∷ []) then Some (key kind) else None)
      if_whole [] = refl
      if_whole (x ∷ xs) = refl

      if_more : (word next : List ℕ) (more : List (List ℕ)) → if_some {K = K} word None
          ≡ (if is_last (word ∷ next ∷ more) then Some (key kind) else None)
      if_more [] next more = refl
      if_more (x ∷ xs) next more = refl

      by_whole : (text : List ℕ) → has_slash text ≡ false → FindsName kind text
      by_whole text none bytes =
          first-name_end [] (Some (key kind)) text bytes none ∙ if_whole text
          ∙ ap (λ words. if is_last words then Some (key kind) else None) (sym (pieces-whole text none))

      by_word : (word rest : List ℕ) → has_slash word ≡ false → FindsName kind (word ++ slash ∷ rest)
      by_word word rest none bytes =
          let some = pieces-some slash rest in
          first-name [] (Some (key kind)) word rest bytes none ∙ ap (if_some word) (seek-none 0 rest)
          ∙ if_more word some.0 some.1
          ∙ ap (λ words. if is_last words then Some (key kind) else None)
          (sym (pieces-cut word rest none ∙ ap (λ words. word ∷ words) some.2))

  -- what stands under an account: its word and its name
  if_none : (test : Bool) → cond {A = Option K} test None None ≡ None
  if_none true = refl
  if_none false = refl

  item_found : (last a b c : Bool)
      → or_else (if a then (if last then Some (key Invoice) else None) else None)
      (or_else (if b then (if last then Some (key Payment) else None) else None)
      (if c then (if last then Some (key Subscription) else None) else None))
      ≡ option_map key (if last then (if a then Some Invoice
      else (if b then Some Payment else (if c then Some Subscription else None))) else None)
  item_found false a b c = rw (if_none a, if_none b, if_none c) refl
  item_found true true b c = refl
  item_found true false true c = refl
  item_found true false false true = refl
  item_found true false false false = refl

  abbrev FindsItem : List ℕ → Type 0
  FindsItem path = IsText path
      → or_else (first (kind_rows (codes "invoices") Invoice) path)
      (or_else (first (kind_rows (codes "payments") Payment) path)
      (first (kind_rows (codes "subscriptions") Subscription) path))
      ≡ option_map key (kind_of_account (pieces slash path))

  finds_item : (path : List ℕ) → FindsItem path
  finds_item = by_cut FindsItem by_whole by_word
    where
      by_whole : (text : List ℕ) → has_slash text ≡ false → FindsItem text
      by_whole text none bytes =
          rw (
            first-no_word (codes "invoices") (name_rows Invoice) text refl none,
            first-no_word (codes "payments") (name_rows Payment) text refl none,
            first-no_word (codes "subscriptions") (name_rows Subscription) text refl none,
            pieces-whole text none,
          ) refl

      by_word : (word rest : List ℕ) → has_slash word ≡ false → FindsItem (word ++ slash ∷ rest)
      by_word word rest none bytes =
          let more : IsText rest = IsText-behind word rest bytes in
          rw (
            first-word (codes "invoices") (name_rows Invoice) word rest refl none,
            first-word (codes "payments") (name_rows Payment) word rest refl none,
            first-word (codes "subscriptions") (name_rows Subscription) word rest refl none,
            first-name_rows Invoice rest more,
            first-name_rows Payment rest more,
            first-name_rows Subscription rest more,
            pieces-cut word rest none,
          )
          (item_found (is_last (pieces slash rest)) (bytes_eq word (codes "invoices"))
          (bytes_eq word (codes "payments")) (bytes_eq word (codes "subscriptions")))

  first-item_rows : (path : List ℕ) → IsText path
      → first item_rows path ≡ option_map key (kind_of_account (pieces slash path))
  first-item_rows path bytes =
      first-append 105 (codes "nvoices") (behind (slash ∷ []) (name_rows Invoice))
      (kind_rows (codes "payments") Payment ++ kind_rows (codes "subscriptions") Subscription)
      path (omega arith) refl refl refl
      ∙ ap (or_else (first (kind_rows (codes "invoices") Invoice) path))
      (first-append 112 (codes "ayments") (behind (slash ∷ []) (name_rows Payment))
      (kind_rows (codes "subscriptions") Subscription) path (omega arith) refl refl refl)
      ∙ finds_item path bytes

  -- the name of an account, and what stands under it
  if_some-map : (word : List ℕ) (found : Option Kind)
      → if_some word (option_map key found) ≡ option_map key (if_some word found)
  if_some-map [] found = refl
  if_some-map (x ∷ xs) found = refl

  abbrev FindsAccount : List ℕ → Type 0
  FindsAccount path = IsText path
      → first account_rows path ≡ option_map key (kind_of_accounts (pieces slash path))

  first-account_rows : (path : List ℕ) → FindsAccount path
  first-account_rows = by_cut FindsAccount by_whole by_word
    where
      by_whole : (text : List ℕ) → has_slash text ≡ false → FindsAccount text
      by_whole text none bytes =
          first-name_end item_rows (Some (key Account)) text bytes none ∙ if_some-map text (Some Account)
          ∙ ap (λ words. option_map key (kind_of_accounts words)) (sym (pieces-whole text none))

      by_word : (word rest : List ℕ) → has_slash word ≡ false → FindsAccount (word ++ slash ∷ rest)
      by_word word rest none bytes =
          first-name item_rows (Some (key Account)) word rest bytes none
          ∙ ap (if_some word) (first-item_rows rest (IsText-behind word rest bytes))
          ∙ if_some-map word (kind_of_account (pieces slash rest))
          ∙ ap (λ words. option_map key (kind_of_accounts words)) (sym (pieces-cut word rest none))

  -- the first word
  word_found : (c j : Bool)
      → or_else None
      (or_else (if c then Some (key Commands) else None) (if j then Some (key Janitor) else None))
      ≡ option_map key (if c then Some Commands else (if j then Some Janitor else None))
  word_found true j = refl
  word_found false true = refl
  word_found false false = refl

  account_found : (a : Bool) (found : Option Kind)
      → or_else (if a then option_map key found else None) None ≡ option_map key (if a then found else None)
  account_found true found = or_else-none (option_map key found)
  account_found false found = refl

  abbrev FindsWord : List ℕ → Type 0
  FindsWord path = IsText path
      → or_else (first accounts_rows path)
      (or_else (if bytes_eq path (codes "commands") then Some (key Commands) else None)
      (if bytes_eq path (codes "janitor") then Some (key Janitor) else None))
      ≡ option_map key (kind_of_words (pieces slash path))

  finds_word : (path : List ℕ) → FindsWord path
  finds_word = by_cut FindsWord by_whole by_word
    where
      by_whole : (text : List ℕ) → has_slash text ≡ false → FindsWord text
      by_whole text none bytes =
          rw (first-no_word (codes "accounts") account_rows text refl none, pieces-whole text none)
          (word_found (bytes_eq text (codes "commands")) (bytes_eq text (codes "janitor")))

      by_word : (word rest : List ℕ) → has_slash word ≡ false → FindsWord (word ++ slash ∷ rest)
      by_word word rest none bytes =
          let some = pieces-some slash rest in
          rw (
            first-word (codes "accounts") account_rows word rest refl none,
            first-account_rows rest (IsText-behind word rest bytes),
            bytes_eq-cut word rest (codes "commands") refl,
            bytes_eq-cut word rest (codes "janitor") refl,
            pieces-cut word rest none,
            some.2,
          )
          (account_found (bytes_eq word (codes "accounts")) (kind_of_accounts (some.0 ∷ some.1)))

  first-word_rows : (path : List ℕ) → IsText path
      → first word_rows path ≡ option_map key (kind_of_words (pieces slash path))
  first-word_rows path bytes =
      first-append 97 (codes "ccounts") (behind (slash ∷ []) account_rows)
      (behind (codes "commands") (end_rows Commands) ++ behind (codes "janitor") (end_rows Janitor))
      path (omega arith) refl refl refl
      ∙ ap (or_else (first accounts_rows path))
      (first-append 99 (codes "ommands") (end_rows Commands) (behind (codes "janitor") (end_rows Janitor))
      path (omega arith) refl refl refl
      ∙ rw (
        first-end (codes "commands") (key Commands) path refl,
        first-end (codes "janitor") (key Janitor) path refl,
      ) refl)
      ∙ finds_word path bytes

  -- the key of the kind of all words
  pub first-rows_by : (path : List ℕ) → IsText path
      → first (rows_by key) path ≡ option_map key (kind_of (pieces slash path))
  unfolding seek
  first-rows_by [] bytes = own-behind slash [] word_rows
  first-rows_by (x ∷ path) bytes =
      first-behind slash [] word_rows x path (omega arith) ∙ by_test (x == slash) refl
    where
      by_test : (test : Bool) → (x == slash) ≡ test
          → cond (slash == x) (first (behind [] word_rows) path) None
          ≡ option_map key (kind_of (pieces slash (x ∷ path)))
      by_test true is =
          rw (eqb-sym slash x, is, behind-nil word_rows) (first-word_rows path bytes.1)
      by_test false is =
          let some = pieces-some slash path in
          rw (eqb-sym slash x, is, some.2) refl
