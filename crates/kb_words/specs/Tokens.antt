-- Words as the code has them.
use Rattle.std.specs.Prelude.{◌≡◌, refl}
use Rattle.kb_words.specs.declared.setting.Setting.TheVariants.{Lanes}
use Rattle.kb_words.specs.declared.word.Token.{Token}
use Rattle.kb_words.specs.declared.word.Token.TheVariants.{Whole, Opening, Value, Other}
use Rattle.kb_words.specs.Options.{Word, whole, opening, value, other}

-- the word that the code's is
abbrev pub seen_word : Token → Word
seen_word (Whole setting text) = whole setting text.now
seen_word (Opening setting) = opening setting
seen_word (Value text) = value text.now
seen_word Other = other

an_option_alone : seen_word (Opening Lanes) ≡ opening Lanes
an_option_alone = refl
