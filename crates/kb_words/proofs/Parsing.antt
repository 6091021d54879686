-- What `clap` makes of options that are written anew: nothing is wrong, and each option has its value.
use Rattle.std.proofs.Common.{◌≡◌, ℕ, ◌+◌, ◌<◌, true, List, [], refl, ap}
use Rattle.std.proofs.Common.{◌∙◌, length, take, get_or, subst, inl, inr}
use Rattle.std.proofs.lemmas.Bool.{and_parts}
use Rattle.std.proofs.lemmas.List.{map-append, take_more}
use Rattle.clap.specs.Words.{App, HasKind, HasMatchesOf, Kinds, fault_of, first_of, found_of, is_simple}
use Rattle.clap.specs.Words.{is_simple_and_free, kind_of, matches_of, with_rule}
use Rattle.clap.specs.declared.error.Error.{Error}
use Rattle.clap.specs.declared.error.kind.ErrorKind.TheVariants.{OutOfMemory}
use Rattle.clap.specs.declared.parser.matches.ArgMatches.{ArgMatches}
use Rattle.clap.proofs.WalkLemmas.{first_value-rows}
use Rattle.clap.proofs.OnLiterals.{clap_on_literals}
use Rattle.kb_words.specs.declared.verb.Verb.{Verb}
use Rattle.kb_words.specs.declared.verb.Verb.TheVariants.{Init, Apply, Bill, Serve, Report, Make}
use Rattle.kb_words.specs.declared.setting.Setting.{Setting}
use Rattle.kb_words.specs.Commands.{Text, setting_name}
use Rattle.kb_words.specs.Private.Parsed.{HasValues, app_for, app_with, faults_of, parsed_value, rule_for}

-- `clap`'s words say what it makes of each command's words
app_for-simple : (verb : Verb) → is_simple_and_free (app_for verb) ≡ true
unfolding app_for clap_on_literals
app_for-simple Init = refl
app_for-simple Apply = refl
app_for-simple Bill = refl
app_for-simple Serve = refl
app_for-simple Report = refl
app_for-simple Make = refl

-- a command line with one more option
pub app_with-more : (verb : Verb) (settings : List Setting) (i : ℕ) (d : Setting) → i < length settings
    → with_rule (app_with verb (take i settings)) (rule_for (get_or settings i d))
    ≡ app_with verb (take (i + 1) settings)
app_with-more verb settings i d h = simp (take_more settings i d h, map-append)

-- what matches give is what `clap` gives by the words
pub matched-parsed : (verb : Verb) (words : List Text) (app : App) (matches : ArgMatches) → app ≡ app_for verb
    → HasMatchesOf app words matches → HasValues verb words matches
unfolding parsed_value
matched-parsed verb words app matches e has = λ setting.
    let free = app_for-simple verb in
    let simple = and_parts _ _ free in
    let rows = (has (ap is_simple e ∙ simple.0)).0 in
    first_value-rows (found_of matches) (setting_name setting)
    ∙ ap (first_of (setting_name setting)) (rows ∙ ap (λ (a : App). matches_of a words) e)

-- no kind of error is among none
no_kind : (error : Error) (kinds : Kinds) → HasKind kinds error → (kind_of error ≡ OutOfMemory → ⊥)
    → kinds ≡ [] → ⊥
no_kind error kinds has memory none =
    elim (subst (λ (ks : Kinds). HasKind ks error) none has) [ inl out ↦ memory out | inr among ↦ among ]

-- `clap` refuses words only for what it has against them
pub refused-faults : (verb : Verb) (words : List Text) (app : App) (error : Error) → app ≡ app_for verb
    → (is_simple_and_free app ≡ true → HasKind (fault_of app words) error) → (kind_of error ≡ OutOfMemory → ⊥)
    → faults_of verb words ≡ [] → ⊥
unfolding faults_of
refused-faults verb words app error e fails memory none =
    no_kind error (fault_of app words) (fails (ap is_simple_and_free e ∙ app_for-simple verb)) memory
    (ap (λ (a : App). fault_of a words) e ∙ none)
