use Rattle.std.proofs.Common.{◌≡◌, false, true, ap, ◌∙◌, codes, drop, Some, None}
use Rattle.std.specs.List.{starts_with}
use Rattle.std.specs.Prelude.{nat_eq, MatchOption}
use Rattle.kb_words.specs.Options.{word_of, option_word}
use Rattle.kb_words.proofs.Cuts.{stripped}
use Rattle.kb_words.proofs.word.word_of.Goals as goal

pub returns-in-Some : goal.returns-in-Some
unfolding word_of
returns-in-Some c =
    let parts : MatchOption (Some c.in-Some.option) (starts_with nat_eq c.args.text.now (codes "--") ≡ false)
    (λ x. (starts_with nat_eq c.args.text.now (codes "--") ≡ true) × (x.now ≡ drop 2 c.args.text.now)) =
    stripped (codes "--") c.args.text.now (Some c.in-Some.option) c.in-Some.ensures.cases in
    rw parts.0 (c.option_word.ensures ∙ ap option_word parts.1)

pub returns-in-None : goal.returns-in-None
unfolding word_of
returns-in-None c =
    let none : starts_with nat_eq c.args.text.now (codes "--")
    ≡ false = stripped (codes "--") c.args.text.now None
    c.in-None.ensures.cases in
    rw none c.value_word.ensures
