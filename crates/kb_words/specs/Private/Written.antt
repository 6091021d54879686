-- Options written anew: in one order, each as one word.
use Rattle.std.specs.Prelude.{◌≡◌, ◌++◌, ◌∷◌, [], List, codes, Option, Some, None, refl}
use Rattle.kb_words.specs.declared.setting.Setting.{Setting}
use Rattle.kb_words.specs.declared.setting.Setting.TheVariants.{Dir}
use Rattle.kb_words.specs.Commands.{Text, setting_name}

-- an option with its value as one word
abbrev pub spelled : Setting → Text → Text
spelled setting value = codes "--" ++ setting_name setting ++ codes "=" ++ value

a_folder : spelled Dir (codes "a=b") ≡ codes "--dir=a=b"
a_folder = refl

-- a word before others, if the option has a value
abbrev pub written_before : Setting → Option Text → List Text → List Text
written_before setting (Some value) words = spelled setting value ∷ words
written_before setting None words = words

-- the options among these that have a value, in this order
abbrev pub written_of : (Setting → Option Text) → List Setting → List Text
written_of value [] = []
written_of value (setting ∷ rest) = written_before setting (value setting) (written_of value rest)
