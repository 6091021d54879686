use Rattle.std.proofs.Common.{◌≡◌, ◌∙◌, true, ap, map, subst, sym, Option}
use Rattle.std.specs.Prelude.{string_bytes}
use Rattle.kb_words.specs.declared.words.Words.{Words}
use Rattle.kb_words.specs.declared.setting.Setting.{Setting}
use Rattle.kb_words.specs.Commands.{settings_of}
use Rattle.kb_words.specs.Options.{are_options_of, value_of}
use Rattle.kb_words.specs.Private.Written.{written_of}
use Rattle.kb_words.specs.Private.Reading.{IsRead}
use Rattle.kb_words.proofs.Reread.{words_with-parsed, words_with-taken}
use Rattle.kb_words.proofs.read.words_with.Goals as goal

pub returns : goal.returns
returns c =
    let fits : are_options_of c.args.verb c.args.options.now ≡ true = sym c.if-not-are_options_of.ensures in
    let value = λ (setting : Setting). value_of setting c.args.options.now in
    let anew : map string_bytes c.as_slice.result.now ≡ written_of value (settings_of c.args.verb) =
    ap (map string_bytes) c.as_slice.ensures.value ∙ (c.in_ok-words.ensures
    ∙ ap (written_of value) c.settings.ensures) in
    subst (λ (said : Option Words). IsRead said c.parsed_words.result)
    (words_with-parsed c.args.verb c.args.options.now _ fits anew)
    (c.parsed_words.ensures (words_with-taken c.args.verb c.args.options.now _ fits anew))
