-- Where the words of a path lead, of which the first few are known.
use Rattle.std.proofs.Common.{◌≡◌, ℕ, Bool, true, false, if◌then◌else◌, List, [], ◌∷◌, refl, sym, ap, ◌∙◌}
use Rattle.std.proofs.Common.{Option, None, Some, MatchOption, Bor}
use Rattle.std.specs.Prelude.{bytes_eq, codes}
use Rattle.kb_base.specs.Lines.{pieces}
use Rattle.kb_base.proofs.Pieces.{pieces-some}
use Rattle.kb_days.specs.Names.{is_name}
use Rattle.kb_http.specs.declared.route.Route.{Route}
use Rattle.kb_http.specs.declared.route.Route.TheVariants.{Unknown}
use Rattle.kb_http.specs.Routes.{slash, of_words, of_accounts, of_account}

-- a word and a rest
pub of_words-more : (word rest : List ℕ) → of_words (word ∷ pieces slash rest)
    ≡ (if bytes_eq word (codes "accounts") then of_accounts (pieces slash rest) else Unknown)
of_words-more word rest =
    let some = pieces-some slash rest in
    rw some.2 refl

-- two words and a rest
pub of_account-more : (account kind item rest : List ℕ)
    → of_account account (kind ∷ item ∷ pieces slash rest) ≡ Unknown
of_account-more account kind item rest =
    let some = pieces-some slash rest in
    rw some.2 refl

pub of_words-other : (words : List ℕ) (word rest : List ℕ) → pieces slash words ≡ word ∷ pieces slash rest
    → bytes_eq word (codes "accounts") ≡ false → Unknown ≡ of_words (pieces slash words)
of_words-other words word rest split other =
    sym (ap of_words split ∙ of_words-more word rest
    ∙ ap (λ test. if test then of_accounts (pieces slash rest) else Unknown) other)

pub of_words-accounts : (words : List ℕ) (word rest : List ℕ) → pieces slash words ≡ word ∷ pieces slash rest
    → bytes_eq word (codes "accounts") ≡ true → of_accounts (pieces slash rest)
    ≡ of_words (pieces slash words)
of_words-accounts words word rest split same =
    sym (ap of_words split ∙ of_words-more word rest
    ∙ ap (λ test. if test then of_accounts (pieces slash rest) else Unknown) same)

of_accounts-no_name : (word : List ℕ) (more : List (List ℕ)) → (is_name word ≡ true → ⊥)
    → of_accounts (word ∷ more) ≡ Unknown
of_accounts-no_name word more unnamed = by_test (is_name word) (of_account word more) unnamed
  where
    by_test : (test : Bool) (route : Route) → (test ≡ true → ⊥) → (if test then route else Unknown) ≡ Unknown
    by_test true route unnamed = absurd (unnamed refl)
    by_test false route unnamed = refl

-- the first word is no name
pub of_accounts-unnamed : (words word : List ℕ) (rest : Option (Bor (List ℕ)))
    → MatchOption rest (pieces slash words ≡ word ∷ [])
    (λ more. pieces slash words ≡ word ∷ pieces slash more.now)
    → (is_name word ≡ true → ⊥) → Unknown ≡ of_accounts (pieces slash words)
of_accounts-unnamed words word None split unnamed =
    sym (ap of_accounts split ∙ of_accounts-no_name word [] unnamed)
of_accounts-unnamed words word (Some more) split unnamed =
    sym (ap of_accounts split ∙ of_accounts-no_name word (pieces slash more.now) unnamed)
