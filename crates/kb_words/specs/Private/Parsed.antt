-- The command line that `clap` reads for each command, and what its matches give.
use Rattle.std.specs.Prelude.{◌≡◌, true, not, List, map, Option, Some}
use Rattle.clap.specs.declared.parser.matches.ArgMatches.{ArgMatches}
use Rattle.clap.specs.Words.{App, Rule, Kinds, fault_of, first_of, first_value, found_of, matches_of}
use Rattle.clap.specs.Words.{new_app, new_rule}
use Rattle.kb_words.specs.declared.verb.Verb.{Verb}
use Rattle.kb_words.specs.declared.setting.Setting.{Setting}
use Rattle.kb_words.specs.Commands.{Text, verb_word, setting_name, settings_of, may_be_missing}

-- an option of `clap`
abbrev pub rule_for : Setting → Rule
rule_for setting = record (new_rule (setting_name setting)) {
  long = Some (setting_name setting);
  required = not (may_be_missing setting);
}

-- a command of `clap` with these options
abbrev pub app_with : Verb → List Setting → App
app_with verb settings = record (new_app (verb_word verb)) {
  top = record (new_app (verb_word verb)).top { no_binary_name = true; rules = map rule_for settings };
}

-- the command line of a command
unfoldable pub app_for : Verb → App
app_for verb = app_with verb (settings_of verb)

-- what `clap` has against words
unfoldable pub faults_of : Verb → List Text → Kinds
faults_of verb words = fault_of (app_for verb) words

-- the value that `clap` gives an option by words
unfoldable pub parsed_value : Verb → List Text → Setting → Option Text
parsed_value verb words setting = first_of (setting_name setting) (matches_of (app_for verb) words)

-- the value that matches give an option
abbrev pub matched_value : ArgMatches → Setting → Option Text
matched_value matches setting = first_value (found_of matches) (setting_name setting)

-- matches give each option the value that it has by these words
abbrev pub HasValues : Verb → List Text → ArgMatches → Type 0
HasValues verb words matches = (setting : Setting) → matched_value matches setting
    ≡ parsed_value verb words setting
