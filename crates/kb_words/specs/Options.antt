-- The options that the words behind a command give.
use Rattle.std.specs.Prelude.{ℕ, ◌≡◌, ◌==◌, Bool, true, false, not, ◌&&◌, ◌||◌, if◌then◌else◌, nat_eq, List}
use Rattle.std.specs.Prelude.{[], ◌∷◌, map, drop, codes, find, Option, Some, None, option_map, is_some, refl}
use Rattle.std.specs.List.{list_all, list_any, starts_with, before_first, after_first}
use Rattle.kb_words.specs.declared.verb.Verb.{Verb}
use Rattle.kb_words.specs.declared.verb.Verb.TheVariants.{Init, Apply}
use Rattle.kb_words.specs.declared.setting.Setting.{Setting}
use Rattle.kb_words.specs.declared.setting.Setting.TheVariants.{Dir, Lanes}
use Rattle.kb_words.specs.declared.given.Given.{Given}
use Rattle.kb_words.specs.Commands.{Text, setting_of, same_setting, settings_of, may_be_missing}
use Rattle.kb_words.specs.Values.{is_value}

-- what a word is: an option with its value, an option whose value is the next word, a value, or none of these
pub data Word : Type 0 where
  whole : Setting → Text → Word
  opening : Setting → Word
  value : Text → Word
  other : Word

abbrev pub is_equals : ℕ → Bool
is_equals byte = byte == 61

-- `name=value`
abbrev pub whole_word : Option Setting → Text → Word
whole_word (Some setting) text = if is_value text then whole setting text else other
whole_word None text = other

-- `name`
abbrev pub opening_word : Option Setting → Word
opening_word (Some setting) = opening setting
opening_word None = other

-- what stands behind `--`, cut at its first `=`
abbrev pub option_word : Text → Word
option_word text =
    if list_any is_equals text
    then whole_word (setting_of (before_first is_equals text)) (after_first is_equals text)
    else opening_word (setting_of text)

-- what a word is
unfoldable pub word_of : Text → Word
word_of text =
    if starts_with nat_eq text (codes "--") then option_word (drop 2 text)
    else (if is_value text then value text else other)

cut_at_the_first : word_of (codes "--dir=a=b") ≡ whole Dir (codes "a=b")
unfolding word_of setting_of
cut_at_the_first = refl

an_option_alone : word_of (codes "--lanes") ≡ opening Lanes
unfolding word_of setting_of
an_option_alone = refl

a_value_alone : word_of (codes "a=b") ≡ value (codes "a=b")
unfolding word_of setting_of
a_value_alone = refl

no_value : word_of (codes "--dir=") ≡ other
unfolding word_of setting_of
no_value = refl

a_value_with_a_dash : word_of (codes "--dir=-d") ≡ other
unfolding word_of setting_of
a_value_with_a_dash = refl

two_dashes : word_of (codes "--") ≡ other
unfolding word_of setting_of
two_dashes = refl

help : word_of (codes "--help") ≡ other
unfolding word_of setting_of
help = refl

-- an option with its value before others
abbrev pub before : Setting → Text → Option (List Given) → Option (List Given)
before setting text = option_map (λ rest. record { setting = setting; value = text } ∷ rest)

-- the options that words give, in their order; none if the words aren't options with their values
abbrev pub options_of : List Word → Option (List Given)
options_of [] = Some []
options_of (whole setting text ∷ words) = before setting text (options_of words)
options_of (opening setting ∷ value text ∷ words) = before setting text (options_of words)
options_of _ = None

both_spellings : options_of (map word_of (codes "--lanes" ∷ codes "4" ∷ codes "--dir=d" ∷ []))
    ≡ Some (record { setting = Lanes; value = codes "4" } ∷ record { setting = Dir; value = codes "d" } ∷ [])
unfolding word_of setting_of
both_spellings = refl

a_value_is_missing : options_of (map word_of (codes "--lanes" ∷ codes "--dir=d" ∷ [])) ≡ None
unfolding word_of setting_of
a_value_is_missing = refl

-- the value of an option, if it is there
abbrev pub value_of : Setting → List Given → Option Text
value_of setting options =
    option_map (λ option. option.value) (find (λ option. same_setting option.setting setting) options)

-- an option is one of these
abbrev pub is_among : List Setting → Setting → Bool
is_among settings setting = list_any (same_setting setting) settings

-- none stands twice
abbrev pub stand_once : List Given → Bool
stand_once [] = true
stand_once (option ∷ rest) =
    not (list_any (λ later. same_setting later.setting option.setting) rest) && stand_once rest

-- an option is there, or may be missing
abbrev pub is_settled : List Given → Setting → Bool
is_settled options setting = may_be_missing setting || is_some (value_of setting options)

-- the options are those of a command: each is one of its own, none stands twice, and each is there that may
-- not be missing
unfoldable pub are_options_of : Verb → List Given → Bool
are_options_of verb options =
    list_all (λ option. is_among (settings_of verb) option.setting) options && stand_once options
    && list_all (is_settled options) (settings_of verb)

-- the options of an example: `--dir d` and `--dir=e`
abbrev dir_d : Given
dir_d = record { setting = Dir; value = codes "d" }

abbrev dir_e : Given
dir_e = record { setting = Dir; value = codes "e" }

the_first_value : value_of Dir (dir_d ∷ dir_e ∷ []) ≡ Some (codes "d")
the_first_value = refl

the_folder_alone : are_options_of Apply (dir_d ∷ []) ≡ true
unfolding are_options_of
the_folder_alone = refl

the_folder_twice : are_options_of Apply (dir_d ∷ dir_e ∷ []) ≡ false
unfolding are_options_of
the_folder_twice = refl

no_folder : are_options_of Apply [] ≡ false
unfolding are_options_of
no_folder = refl

too_few_for_init : are_options_of Init (dir_d ∷ []) ≡ false
unfolding are_options_of
too_few_for_init = refl
