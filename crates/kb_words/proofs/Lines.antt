-- Options with the words that are left, word after word.
use Rattle.std.proofs.Common.{◌≡◌, List, [], ◌∷◌, ◌++◌, Option, Some, None, refl, sym, ap, append_assoc}
use Rattle.std.specs.Prelude.{option_map}
use Rattle.std.proofs.lemmas.List.{append-nil}
use Rattle.kb_words.specs.declared.setting.Setting.{Setting}
use Rattle.kb_words.specs.declared.given.Given.{Given}
use Rattle.kb_words.specs.Commands.{Text}
use Rattle.kb_words.specs.Options.{Word, whole, opening, value, other, options_of}
use Rattle.kb_words.specs.Private.Words.{options_with}

-- options before others, one after the other
before-before : (given : List Given) (option : Given) (o : Option (List Given))
    → option_map (λ more. given ++ more) (option_map (λ rest. option ∷ rest) o)
    ≡ option_map (λ more. (given ++ option ∷ []) ++ more) o
before-before given option None = refl
before-before given option (Some rest) =
    ap (λ (xs : List Given). Some xs) (sym (append_assoc given (option ∷ []) rest))

-- an option with its value in one word
pub options_with-whole : (given : List Given) (s : Setting) (v : Text) (words : List Word)
    → options_with given None (whole s v ∷ words)
    ≡ options_with (given ++ (record { setting = s; value = v }) ∷ []) None words
unfolding options_with
options_with-whole given s v words =
    before-before given (record { setting = s; value = v }) (options_of words)

-- an option that waits for its value
pub options_with-opening : (given : List Given) (s : Setting) (words : List Word)
    → options_with given None (opening s ∷ words) ≡ options_with given (Some s) words
unfolding options_with
options_with-opening given s words = refl

-- and the value
pub options_with-value : (given : List Given) (s : Setting) (v : Text) (words : List Word)
    → options_with given (Some s) (value v ∷ words)
    ≡ options_with (given ++ (record { setting = s; value = v }) ∷ []) None words
unfolding options_with
options_with-value given s v words =
    before-before given (record { setting = s; value = v }) (options_of words)

-- a value that no option waits for
pub options_with-no_option : (given : List Given) (v : Text) (words : List Word)
    → options_with given None (value v ∷ words) ≡ None
unfolding options_with
options_with-no_option given v words = refl

-- no option and no value
pub options_with-other : (given : List Given) (words : List Word) → options_with given None (other
    ∷ words) ≡ None
unfolding options_with
options_with-other given words = refl

-- options in the place of a value
pub options_with-no_value : (given : List Given) (s t : Setting) (v : Text) (words : List Word)
    → options_with given (Some s) (whole t v ∷ words) ≡ None
unfolding options_with
options_with-no_value given s t v words = refl

pub options_with-two_options : (given : List Given) (s t : Setting) (words : List Word)
    → options_with given (Some s) (opening t ∷ words) ≡ None
unfolding options_with
options_with-two_options given s t words = refl

pub options_with-other_value : (given : List Given) (s : Setting) (words : List Word)
    → options_with given (Some s) (other ∷ words) ≡ None
unfolding options_with
options_with-other_value given s words = refl

-- where no word is left
pub options_with-end : (given : List Given) → options_with given None [] ≡ Some given
unfolding options_with
options_with-end given = ap (λ (xs : List Given). Some xs) (append-nil given)

pub options_with-cut : (given : List Given) (s : Setting) → options_with given (Some s) [] ≡ None
unfolding options_with
options_with-cut given s = refl

-- before the first word
pub options_with-start : (words : List Word) → options_with [] None words ≡ options_of words
unfolding options_with
options_with-start words = same (options_of words)
  where
    same : (o : Option (List Given)) → option_map (λ more. [] ++ more) o ≡ o
    same None = refl
    same (Some rest) = refl
