-- The grammar of the command line: a command, and behind it its options in any order.
use Rattle.std.specs.Prelude.{ℕ, ◌≡◌, ◌∷◌, [], List, map, codes, if◌then◌else◌, Option, Some, None, refl}
use Rattle.std.specs.Prelude.{⊤, option_and_then}
use Rattle.kb_days.specs.DateText.{read_day, named_day, date_text, civil_text}
use Rattle.kb_days.specs.Dates.{march}
use Rattle.kb_days.specs.Calendar.{month_start, month_length, month_of, month_after, day_of_month}
use Rattle.kb_words.specs.Commands.{Text, verb_of, setting_of}
use Rattle.kb_words.specs.Values.{number_in, kind_of}
use Rattle.kb_words.specs.Options.{Word, word_of, options_of, are_options_of, value_of}
use Rattle.kb_words.specs.declared.verb.Verb.{Verb}
use Rattle.kb_words.specs.declared.verb.Verb.TheVariants as verb
use Rattle.kb_words.specs.declared.setting.Setting.{Setting}
use Rattle.kb_words.specs.declared.setting.Setting.TheVariants.{Dir, Lanes, Catalog, Overdue, Gateway, Day}
use Rattle.kb_words.specs.declared.setting.Setting.TheVariants.{Workers, Port, Bus, Connections, Kind, Seed}
use Rattle.kb_words.specs.declared.setting.Setting.TheVariants.{Accounts, Months}
use Rattle.kb_words.specs.declared.report_kind.ReportKind.TheVariants.{Balances}
use Rattle.kb_words.specs.declared.words.Words.{Words}
use Rattle.kb_words.specs.declared.words.Words.TheVariants.{Init, Apply, Bill, Serve, Report, Make}
use Rattle.kb_words.specs.declared.given.Given.{Given}

-- with the value, if there is one; else nothing
abbrev pub with_value : {A B : Type 0} → Option A → (A → Option B) → Option B
with_value (Some given) then_ = then_ given
with_value None then_ = None

abbrev pub number : ℕ → ℕ → Option Text → Option ℕ
number least most text = option_and_then (number_in least most) text

-- init --dir D --lanes N --catalog F --overdue F
unfoldable pub init_words : (Setting → Option Text) → Option Words
init_words value =
    with_value (value Dir) (λ dir.
    with_value (number 1 64 (value Lanes)) (λ lanes.
    with_value (value Catalog) (λ catalog.
    with_value (value Overdue) (λ overdue.
    Some (Init (record { dir = dir; lanes = lanes; catalog = catalog; overdue = overdue }))))))

-- apply --dir D [--gateway G]
unfoldable pub apply_words : (Setting → Option Text) → Option Words
apply_words value =
    with_value (value Dir) (λ dir.
    Some (Apply (record { dir = dir; gateway = value Gateway })))

-- bill --dir D --day DAY --workers W [--gateway G]
unfoldable pub bill_words : (Setting → Option Text) → Option Words
bill_words value =
    with_value (value Dir) (λ dir.
    with_value (option_and_then read_day (value Day)) (λ day.
    with_value (number 1 64 (value Workers)) (λ workers.
    Some (Bill (record { dir = dir; day = day; workers = workers; gateway = value Gateway })))))

-- serve --dir D --port P --workers W --bus B --connections K [--gateway G]
unfoldable pub serve_words : (Setting → Option Text) → Option Words
serve_words value =
    with_value (value Dir) (λ dir.
    with_value (number 1 65535 (value Port)) (λ port.
    with_value (number 1 16 (value Workers)) (λ workers.
    with_value (number 1 16 (value Bus)) (λ bus.
    with_value (number 1 1000000 (value Connections)) (λ connections.
    Some (Serve (record {
      dir = dir;
      port = port;
      workers = workers;
      bus = bus;
      connections = connections;
      gateway = value Gateway;
    })))))))

-- report --dir D --kind KIND --day DAY
unfoldable pub report_words : (Setting → Option Text) → Option Words
report_words value =
    with_value (value Dir) (λ dir.
    with_value (option_and_then kind_of (value Kind)) (λ kind.
    with_value (option_and_then read_day (value Day)) (λ day.
    Some (Report (record { dir = dir; kind = kind; day = day })))))

-- make --seed S --accounts A --months M
unfoldable pub make_words : (Setting → Option Text) → Option Words
make_words value =
    with_value (number 0 2147483647 (value Seed)) (λ seed.
    with_value (number 0 10000 (value Accounts)) (λ accounts.
    with_value (number 0 120 (value Months)) (λ months.
    Some (Make (record { seed = seed; accounts = accounts; months = months })))))

-- a command with the values of its options
abbrev pub command_words : Verb → (Setting → Option Text) → Option Words
command_words verb.Init value = init_words value
command_words verb.Apply value = apply_words value
command_words verb.Bill value = bill_words value
command_words verb.Serve value = serve_words value
command_words verb.Report value = report_words value
command_words verb.Make value = make_words value

-- a command with its options
abbrev pub words_with : Verb → List Given → Option Words
words_with verb options =
    if are_options_of verb options then command_words verb (λ setting. value_of setting options) else None

-- what a command says with the words behind it
abbrev pub options_words : Verb → List Word → Option Words
options_words verb words = with_value (options_of words) (words_with verb)

-- what the words of a command line say, if they are in the grammar: the first is the command, and those
-- behind it give its options
unfoldable pub words_of : List Text → Option Words
words_of [] = None
words_of (command ∷ words) = with_value (verb_of command) (λ verb. options_words verb (map word_of words))

-- what examples unfold
unfoldable grammar_of_commands : ⊤
unfolding init_words apply_words bill_words serve_words report_words make_words
grammar_of_commands = tt

unfoldable days_on_literals : ⊤
unfolding read_day named_day date_text civil_text month_start month_length month_of month_after day_of_month
days_on_literals = tt

unfoldable grammar_on_literals : ⊤
unfolding verb_of setting_of word_of are_options_of number_in kind_of grammar_of_commands days_on_literals
grammar_on_literals = tt

an_init : words_of (codes "init" ∷ codes "--dir" ∷ codes "d" ∷ codes "--lanes=4" ∷ codes "--catalog"
    ∷ codes "c"
    ∷ codes "--overdue" ∷ codes "o" ∷ [])
    ≡ Some (Init (record { dir = codes "d"; lanes = 4; catalog = codes "c"; overdue = codes "o" }))
unfolding words_of grammar_on_literals
an_init = refl

an_apply : words_of (codes "apply" ∷ codes "--gateway=host:80" ∷ codes "--dir=a=b" ∷ [])
    ≡ Some (Apply (record { dir = codes "a=b"; gateway = Some (codes "host:80") }))
unfolding words_of grammar_on_literals
an_apply = refl

a_bill : words_of (codes "bill" ∷ codes "--workers" ∷ codes "2" ∷ codes "--day" ∷ codes "2024-03-10"
    ∷ codes "--dir" ∷ codes "d" ∷ [])
    ≡ Some (Bill (record { dir = codes "d"; day = march 10; workers = 2; gateway = None }))
unfolding words_of grammar_on_literals
a_bill = refl

a_serve : words_of (codes "serve" ∷ codes "--dir=d" ∷ codes "--port=8080" ∷ codes "--workers=16"
    ∷ codes "--bus=1"
    ∷ codes "--connections=1000000" ∷ [])
    ≡ Some (Serve (record {
      dir = codes "d";
      port = 8080;
      workers = 16;
      bus = 1;
      connections = 1000000;
      gateway = None;
    }))
unfolding words_of grammar_on_literals
a_serve = refl

a_report : words_of (codes "report" ∷ codes "--kind" ∷ codes "balances" ∷ codes "--day" ∷ codes "2024-03-10"
    ∷ codes "--dir=d" ∷ [])
    ≡ Some (Report (record { dir = codes "d"; kind = Balances; day = march 10 }))
unfolding words_of grammar_on_literals
a_report = refl

a_make : words_of (codes "make" ∷ codes "--seed" ∷ codes "7" ∷ codes "--accounts" ∷ codes "200"
    ∷ codes "--months"
    ∷ codes "24" ∷ [])
    ≡ Some (Make (record { seed = 7; accounts = 200; months = 24 }))
unfolding words_of grammar_on_literals
a_make = refl

an_option_twice : words_of (codes "apply" ∷ codes "--dir" ∷ codes "x" ∷ codes "--dir" ∷ codes "y" ∷ []) ≡ None
unfolding words_of grammar_on_literals
an_option_twice = refl

two_dashes_alone : words_of (codes "apply" ∷ codes "--" ∷ codes "--dir" ∷ codes "x" ∷ []) ≡ None
unfolding words_of grammar_on_literals
two_dashes_alone = refl

an_option_is_missing : words_of (codes "report" ∷ codes "--dir=x" ∷ codes "--kind=states" ∷ []) ≡ None
unfolding words_of grammar_on_literals
an_option_is_missing = refl

an_option_of_another : words_of (codes "apply" ∷ codes "--dir=x" ∷ codes "--lanes=4" ∷ []) ≡ None
unfolding words_of grammar_on_literals
an_option_of_another = refl

a_seed_of_01 : words_of (codes "make" ∷ codes "--seed=01" ∷ codes "--accounts=1" ∷ codes "--months=1"
    ∷ []) ≡ None
unfolding words_of grammar_on_literals
a_seed_of_01 = refl

no_word : words_of [] ≡ None
unfolding words_of grammar_on_literals
no_word = refl
