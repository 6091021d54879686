-- What is left of a line while it is read.
use Rattle.std.specs.Prelude.{List, [], ◌∷◌, ◌++◌, Option, Some, None, option_map}
use Rattle.kb_words.specs.declared.setting.Setting.{Setting}
use Rattle.kb_words.specs.declared.given.Given.{Given}
use Rattle.kb_words.specs.Options.{Word, opening, options_of}

-- an option that waits for its value, as the word that it came from
abbrev pub waiting_words : Option Setting → List Word
waiting_words None = []
waiting_words (Some setting) = opening setting ∷ []

-- the options that were given, and those that the words left give, where an option may wait for its value
unfoldable pub options_with : List Given → Option Setting → List Word → Option (List Given)
options_with given waiting words =
    option_map (λ more. given ++ more) (options_of (waiting_words waiting ++ words))
