-- What `clap` makes of each command's options in one order: nothing is wrong, and each has its value.
use Rattle.std.proofs.Common.{◌≡◌, List, [], ◌∷◌, Option, Some, None, refl}
use Rattle.clap.proofs.OnLiterals.{clap_on_literals}
use Rattle.kb_words.specs.declared.verb.Verb.TheVariants.{Init, Apply, Bill, Serve, Report, Make}
use Rattle.kb_words.specs.declared.setting.Setting.TheVariants.{Dir, Lanes, Catalog, Overdue, Gateway, Day}
use Rattle.kb_words.specs.declared.setting.Setting.TheVariants.{Workers, Port, Bus, Connections, Kind, Seed}
use Rattle.kb_words.specs.declared.setting.Setting.TheVariants.{Accounts, Months}
use Rattle.kb_words.specs.Commands.{Text}
use Rattle.kb_words.specs.Private.Written.{spelled, written_before}
use Rattle.kb_words.specs.Private.Parsed.{app_for, faults_of, parsed_value}

-- the options of `init`
abbrev pub init_line : Text → Text → Text → Text → List Text
init_line d n c o = spelled Dir d ∷ spelled Lanes n ∷ spelled Catalog c ∷ spelled Overdue o ∷ []

pub init-faults : (d n c o : Text) → faults_of Init (init_line d n c o) ≡ []
unfolding faults_of app_for clap_on_literals
init-faults d n c o = refl

pub init-values : (d n c o : Text) → (parsed_value Init (init_line d n c o) Dir ≡ Some d)
    × (parsed_value Init (init_line d n c o) Lanes ≡ Some n)
    × (parsed_value Init (init_line d n c o) Catalog ≡ Some c)
    × (parsed_value Init (init_line d n c o) Overdue ≡ Some o)
unfolding parsed_value app_for clap_on_literals
init-values d n c o = (refl, refl, refl, refl)

-- the options of `apply`
abbrev pub apply_line : Text → Option Text → List Text
apply_line d g = spelled Dir d ∷ written_before Gateway g []

pub apply-faults : (d : Text) (g : Option Text) → faults_of Apply (apply_line d g) ≡ []
unfolding faults_of app_for clap_on_literals
apply-faults d None = refl
apply-faults d (Some g) = refl

pub apply-values : (d : Text) (g : Option Text) → (parsed_value Apply (apply_line d g) Dir ≡ Some d)
    × (parsed_value Apply (apply_line d g) Gateway ≡ g)
unfolding parsed_value app_for clap_on_literals
apply-values d None = (refl, refl)
apply-values d (Some g) = (refl, refl)

-- the options of `bill`
abbrev pub bill_line : Text → Text → Text → Option Text → List Text
bill_line d y w g = spelled Dir d ∷ spelled Day y ∷ spelled Workers w ∷ written_before Gateway g []

pub bill-faults : (d y w : Text) (g : Option Text) → faults_of Bill (bill_line d y w g) ≡ []
unfolding faults_of app_for clap_on_literals
bill-faults d y w None = refl
bill-faults d y w (Some g) = refl

pub bill-values : (d y w : Text) (g : Option Text) → (parsed_value Bill (bill_line d y w g) Dir ≡ Some d)
    × (parsed_value Bill (bill_line d y w g) Day ≡ Some y)
    × (parsed_value Bill (bill_line d y w g) Workers ≡ Some w)
    × (parsed_value Bill (bill_line d y w g) Gateway ≡ g)
unfolding parsed_value app_for clap_on_literals
bill-values d y w None = (refl, refl, refl, refl)
bill-values d y w (Some g) = (refl, refl, refl, refl)

-- the options of `serve`
abbrev pub serve_line : Text → Text → Text → Text → Text → Option Text → List Text
serve_line d p w b k g = spelled Dir d ∷ spelled Port p ∷ spelled Workers w ∷ spelled Bus b
    ∷ spelled Connections k ∷ written_before Gateway g []

pub serve-faults : (d p w b k : Text) (g : Option Text) → faults_of Serve (serve_line d p w b k g) ≡ []
unfolding faults_of app_for clap_on_literals
serve-faults d p w b k None = refl
serve-faults d p w b k (Some g) = refl

pub serve-values : (d p w b k : Text) (g : Option Text)
    → (parsed_value Serve (serve_line d p w b k g) Dir ≡ Some d)
    × (parsed_value Serve (serve_line d p w b k g) Port ≡ Some p)
    × (parsed_value Serve (serve_line d p w b k g) Workers ≡ Some w)
    × (parsed_value Serve (serve_line d p w b k g) Bus ≡ Some b)
    × (parsed_value Serve (serve_line d p w b k g) Connections ≡ Some k)
    × (parsed_value Serve (serve_line d p w b k g) Gateway ≡ g)
unfolding parsed_value app_for clap_on_literals
serve-values d p w b k None = (refl, refl, refl, refl, refl, refl)
serve-values d p w b k (Some g) = (refl, refl, refl, refl, refl, refl)

-- the options of `report`
abbrev pub report_line : Text → Text → Text → List Text
report_line d k y = spelled Dir d ∷ spelled Kind k ∷ spelled Day y ∷ []

pub report-faults : (d k y : Text) → faults_of Report (report_line d k y) ≡ []
unfolding faults_of app_for clap_on_literals
report-faults d k y = refl

pub report-values : (d k y : Text) → (parsed_value Report (report_line d k y) Dir ≡ Some d)
    × (parsed_value Report (report_line d k y) Kind ≡ Some k)
    × (parsed_value Report (report_line d k y) Day ≡ Some y)
unfolding parsed_value app_for clap_on_literals
report-values d k y = (refl, refl, refl)

-- the options of `make`
abbrev pub make_line : Text → Text → Text → List Text
make_line s a m = spelled Seed s ∷ spelled Accounts a ∷ spelled Months m ∷ []

pub make-faults : (s a m : Text) → faults_of Make (make_line s a m) ≡ []
unfolding faults_of app_for clap_on_literals
make-faults s a m = refl

pub make-values : (s a m : Text) → (parsed_value Make (make_line s a m) Seed ≡ Some s)
    × (parsed_value Make (make_line s a m) Accounts ≡ Some a)
    × (parsed_value Make (make_line s a m) Months ≡ Some m)
unfolding parsed_value app_for clap_on_literals
make-values s a m = (refl, refl, refl)
