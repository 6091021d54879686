-- The commands and their options.
use Rattle.std.specs.Prelude.{ℕ, ◌≡◌, Bool, true, false, List, [], ◌∷◌, codes, find, bytes_eq, map}
use Rattle.std.specs.Prelude.{Option, Some, None, refl}
use Rattle.kb_words.specs.declared.verb.Verb.{Verb}
use Rattle.kb_words.specs.declared.verb.Verb.TheVariants.{Init, Apply, Bill, Serve, Report, Make}
use Rattle.kb_words.specs.declared.setting.Setting.{Setting}
use Rattle.kb_words.specs.declared.setting.Setting.TheVariants.{Dir, Lanes, Catalog, Overdue, Gateway, Day}
use Rattle.kb_words.specs.declared.setting.Setting.TheVariants.{Workers, Port, Bus, Connections, Kind, Seed}
use Rattle.kb_words.specs.declared.setting.Setting.TheVariants.{Accounts, Months}

-- a text, by its bytes
abbrev pub Text : Type 0
Text = List ℕ

-- the word of a command
abbrev pub verb_word : Verb → Text
verb_word Init = codes "init"
verb_word Apply = codes "apply"
verb_word Bill = codes "bill"
verb_word Serve = codes "serve"
verb_word Report = codes "report"
verb_word Make = codes "make"

-- all commands
abbrev pub verbs : List Verb
verbs = Init ∷ Apply ∷ Bill ∷ Serve ∷ Report ∷ Make ∷ []

-- the command of a word
unfoldable pub verb_of : Text → Option Verb
verb_of word = find (λ verb. bytes_eq (verb_word verb) word) verbs

the_word_serve : verb_of (codes "serve") ≡ Some Serve
unfolding verb_of
the_word_serve = refl

the_word_help : verb_of (codes "help") ≡ None
unfolding verb_of
the_word_help = refl

-- the name of an option
abbrev pub setting_name : Setting → Text
setting_name Dir = codes "dir"
setting_name Lanes = codes "lanes"
setting_name Catalog = codes "catalog"
setting_name Overdue = codes "overdue"
setting_name Gateway = codes "gateway"
setting_name Day = codes "day"
setting_name Workers = codes "workers"
setting_name Port = codes "port"
setting_name Bus = codes "bus"
setting_name Connections = codes "connections"
setting_name Kind = codes "kind"
setting_name Seed = codes "seed"
setting_name Accounts = codes "accounts"
setting_name Months = codes "months"

-- all options
abbrev pub settings : List Setting
settings = Dir ∷ Lanes ∷ Catalog ∷ Overdue ∷ Gateway ∷ Day ∷ Workers ∷ Port ∷ Bus ∷ Connections ∷ Kind ∷ Seed
    ∷ Accounts ∷ Months ∷ []

-- the option of a name
unfoldable pub setting_of : Text → Option Setting
setting_of name = find (λ setting. bytes_eq (setting_name setting) name) settings

the_name_bus : setting_of (codes "bus") ≡ Some Bus
unfolding setting_of
the_name_bus = refl

the_name_help : setting_of (codes "help") ≡ None
unfolding setting_of
the_name_help = refl

-- two options are the same one
abbrev pub same_setting : Setting → Setting → Bool
same_setting one other = bytes_eq (setting_name one) (setting_name other)

-- the options of each command
abbrev pub settings_of : Verb → List Setting
settings_of Init = Dir ∷ Lanes ∷ Catalog ∷ Overdue ∷ []
settings_of Apply = Dir ∷ Gateway ∷ []
settings_of Bill = Dir ∷ Day ∷ Workers ∷ Gateway ∷ []
settings_of Serve = Dir ∷ Port ∷ Workers ∷ Bus ∷ Connections ∷ Gateway ∷ []
settings_of Report = Dir ∷ Kind ∷ Day ∷ []
settings_of Make = Seed ∷ Accounts ∷ Months ∷ []

-- the gateway may be missing, and no other option
abbrev pub may_be_missing : Setting → Bool
may_be_missing Gateway = true
may_be_missing _ = false

the_gateway_alone : map may_be_missing (settings_of Apply) ≡ false ∷ true ∷ []
the_gateway_alone = refl

the_same_option : same_setting Dir Dir ≡ true
the_same_option = refl
