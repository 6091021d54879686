-- Options that are all there, written anew and given to `clap`, come back with their values.
use Rattle.std.proofs.Common.{◌≡◌, true, ◌||◌, List, [], Option, Some, None, is_some, refl, sym, ap, ◌∙◌}
use Rattle.std.specs.List.{list_all}
use Rattle.std.proofs.lemmas.Bool.{and_parts}
use Rattle.kb_words.specs.declared.verb.Verb.{Verb}
use Rattle.kb_words.specs.declared.verb.Verb.TheVariants.{Init, Apply, Bill, Serve, Report, Make}
use Rattle.kb_words.specs.declared.setting.Setting.{Setting}
use Rattle.kb_words.specs.declared.setting.Setting.TheVariants.{Dir, Lanes, Catalog, Overdue, Gateway, Day}
use Rattle.kb_words.specs.declared.setting.Setting.TheVariants.{Workers, Port, Bus, Connections, Kind, Seed}
use Rattle.kb_words.specs.declared.setting.Setting.TheVariants.{Accounts, Months}
use Rattle.kb_words.specs.Commands.{Text, may_be_missing, settings_of}
use Rattle.kb_words.specs.Grammar.{apply_words, bill_words, command_words, init_words, make_words}
use Rattle.kb_words.specs.Grammar.{report_words, serve_words, words_with}
use Rattle.kb_words.specs.Private.Written.{written_of}
use Rattle.kb_words.specs.Private.Parsed.{faults_of, parsed_value}
use Rattle.kb_words.specs.Options.{are_options_of, value_of}
use Rattle.kb_words.specs.declared.given.Given.{Given}
use Rattle.kb_words.proofs.CommandLines as line

-- nothing is wrong with the options written anew, and the command says the same with `clap`'s values
pub record IsReread (verb : Verb) (value : Setting → Option Text) : Type 0 where
  pub faults : faults_of verb (written_of value (settings_of verb)) ≡ []
  pub words : command_words verb (parsed_value verb (written_of value (settings_of verb)))
      ≡ command_words verb value

-- an option that is there has a value
some_of : (o : Option Text) → is_some o ≡ true → (text : Text) × (o ≡ Some text)
some_of None h = absurd (cc)
some_of (Some text) h = (text, refl)

-- what a command says depends on its own options alone
init_words-same : (f g : Setting → Option Text) → f Dir ≡ g Dir → f Lanes ≡ g Lanes → f Catalog ≡ g Catalog
    → f Overdue ≡ g Overdue → init_words f ≡ init_words g
unfolding init_words
init_words-same f g d n c o = rw (d, n, c, o) refl

apply_words-same : (f g : Setting → Option Text) → f Dir ≡ g Dir → f Gateway ≡ g Gateway
    → apply_words f ≡ apply_words g
unfolding apply_words
apply_words-same f g d w = rw (d, w) refl

bill_words-same : (f g : Setting → Option Text) → f Dir ≡ g Dir → f Day ≡ g Day → f Workers ≡ g Workers
    → f Gateway ≡ g Gateway → bill_words f ≡ bill_words g
unfolding bill_words
bill_words-same f g d y w h = rw (d, y, w, h) refl

serve_words-same : (f g : Setting → Option Text) → f Dir ≡ g Dir → f Port ≡ g Port → f Workers ≡ g Workers
    → f Bus ≡ g Bus → f Connections ≡ g Connections → f Gateway ≡ g Gateway → serve_words f ≡ serve_words g
unfolding serve_words
serve_words-same f g d p w b k h = rw (d, p, w, b, k, h) refl

report_words-same : (f g : Setting → Option Text) → f Dir ≡ g Dir → f Kind ≡ g Kind → f Day ≡ g Day
    → report_words f ≡ report_words g
unfolding report_words
report_words-same f g d k y = rw (d, k, y) refl

make_words-same : (f g : Setting → Option Text) → f Seed ≡ g Seed → f Accounts ≡ g Accounts
    → f Months ≡ g Months → make_words f ≡ make_words g
unfolding make_words
make_words-same f g s a m = rw (s, a, m) refl

init-reread : (value : Setting → Option Text) (d n c o : Text) → value Dir ≡ Some d → value Lanes ≡ Some n
    → value Catalog ≡ Some c → value Overdue ≡ Some o → IsReread Init value
init-reread value d n c o is_d is_n is_c is_o =
    let written : written_of value (settings_of Init)
    ≡ line.init_line d n c o = rw (is_d, is_n, is_c, is_o) refl in
    let values = line.init-values d n c o in
    record {
      faults = ap (faults_of Init) written ∙ line.init-faults d n c o;
      words = ap (λ (ws : List Text). init_words (parsed_value Init ws)) written
          ∙ init_words-same _ value (values.0 ∙ sym is_d) (values.1 ∙ sym is_n) (values.2 ∙ sym is_c)
          (values.3 ∙ sym is_o);
    }

apply-reread : (value : Setting → Option Text) (d : Text) → value Dir ≡ Some d → IsReread Apply value
apply-reread value d is_d =
    let written : written_of value (settings_of Apply) ≡ line.apply_line d (value Gateway) = rw is_d refl in
    let values = line.apply-values d (value Gateway) in
    record {
      faults = ap (faults_of Apply) written ∙ line.apply-faults d (value Gateway);
      words = ap (λ (ws : List Text). apply_words (parsed_value Apply ws)) written
          ∙ apply_words-same _ value (values.0 ∙ sym is_d) values.1;
    }

bill-reread : (value : Setting → Option Text) (d y w : Text) → value Dir ≡ Some d → value Day ≡ Some y
    → value Workers ≡ Some w → IsReread Bill value
bill-reread value d y w is_d is_y is_w =
    let written : written_of value (settings_of Bill) ≡ line.bill_line d y w (value Gateway) = rw
    (is_d, is_y, is_w) refl in
    let values = line.bill-values d y w (value Gateway) in
    record {
      faults = ap (faults_of Bill) written ∙ line.bill-faults d y w (value Gateway);
      words = ap (λ (ws : List Text). bill_words (parsed_value Bill ws)) written
          ∙ bill_words-same _ value (values.0 ∙ sym is_d) (values.1 ∙ sym is_y) (values.2
          ∙ sym is_w) values.3;
    }

serve-reread : (value : Setting → Option Text) (d p w b k : Text) → value Dir ≡ Some d → value Port ≡ Some p
    → value Workers ≡ Some w → value Bus ≡ Some b → value Connections ≡ Some k → IsReread Serve value
serve-reread value d p w b k is_d is_p is_w is_b is_k =
    let written : written_of value (settings_of Serve) ≡ line.serve_line d p w b k (value Gateway) = rw
    (is_d, is_p, is_w, is_b, is_k) refl in
    let values = line.serve-values d p w b k (value Gateway) in
    record {
      faults = ap (faults_of Serve) written ∙ line.serve-faults d p w b k (value Gateway);
      words = ap (λ (ws : List Text). serve_words (parsed_value Serve ws)) written
          ∙ serve_words-same _ value (values.0 ∙ sym is_d) (values.1 ∙ sym is_p) (values.2 ∙ sym is_w)
          (values.3 ∙ sym is_b) (values.4 ∙ sym is_k) values.5;
    }

report-reread : (value : Setting → Option Text) (d k y : Text) → value Dir ≡ Some d → value Kind ≡ Some k
    → value Day ≡ Some y → IsReread Report value
report-reread value d k y is_d is_k is_y =
    let written : written_of value (settings_of Report)
    ≡ line.report_line d k y = rw (is_d, is_k, is_y) refl in
    let values = line.report-values d k y in
    record {
      faults = ap (faults_of Report) written ∙ line.report-faults d k y;
      words = ap (λ (ws : List Text). report_words (parsed_value Report ws)) written
          ∙ report_words-same _ value (values.0 ∙ sym is_d) (values.1 ∙ sym is_k) (values.2 ∙ sym is_y);
    }

make-reread : (value : Setting → Option Text) (s a m : Text) → value Seed ≡ Some s → value Accounts ≡ Some a
    → value Months ≡ Some m → IsReread Make value
make-reread value s a m is_s is_a is_m =
    let written : written_of value (settings_of Make) ≡ line.make_line s a m = rw (is_s, is_a, is_m) refl in
    let values = line.make-values s a m in
    record {
      faults = ap (faults_of Make) written ∙ line.make-faults s a m;
      words = ap (λ (ws : List Text). make_words (parsed_value Make ws)) written
          ∙ make_words-same _ value (values.0 ∙ sym is_s) (values.1 ∙ sym is_a) (values.2 ∙ sym is_m);
    }

-- where each option is there that may not be missing, all come back
pub reread : (verb : Verb) (value : Setting → Option Text)
    → list_all (λ setting. may_be_missing setting || is_some (value setting)) (settings_of verb) ≡ true
    → IsReread verb value
reread Init value h =
    let more = and_parts _ _ h in
    let last = and_parts _ _ more.1 in
    let end = and_parts _ _ last.1 in
    let d = some_of (value Dir) more.0 in
    let n = some_of (value Lanes) last.0 in
    let c = some_of (value Catalog) end.0 in
    let o = some_of (value Overdue) (and_parts _ _ end.1).0 in
    init-reread value d.0 n.0 c.0 o.0 d.1 n.1 c.1 o.1
reread Apply value h =
    let d = some_of (value Dir) (and_parts _ _ h).0 in apply-reread value d.0 d.1
reread Bill value h =
    let more = and_parts _ _ h in
    let last = and_parts _ _ more.1 in
    let d = some_of (value Dir) more.0 in
    let y = some_of (value Day) last.0 in
    let w = some_of (value Workers) (and_parts _ _ last.1).0 in
    bill-reread value d.0 y.0 w.0 d.1 y.1 w.1
reread Serve value h =
    let more = and_parts _ _ h in
    let third = and_parts _ _ more.1 in
    let fourth = and_parts _ _ third.1 in
    let fifth = and_parts _ _ fourth.1 in
    let d = some_of (value Dir) more.0 in
    let p = some_of (value Port) third.0 in
    let w = some_of (value Workers) fourth.0 in
    let b = some_of (value Bus) fifth.0 in
    let k = some_of (value Connections) (and_parts _ _ fifth.1).0 in
    serve-reread value d.0 p.0 w.0 b.0 k.0 d.1 p.1 w.1 b.1 k.1
reread Report value h =
    let more = and_parts _ _ h in
    let last = and_parts _ _ more.1 in
    let d = some_of (value Dir) more.0 in
    let k = some_of (value Kind) last.0 in
    let y = some_of (value Day) (and_parts _ _ last.1).0 in
    report-reread value d.0 k.0 y.0 d.1 k.1 y.1
reread Make value h =
    let more = and_parts _ _ h in
    let last = and_parts _ _ more.1 in
    let s = some_of (value Seed) more.0 in
    let a = some_of (value Accounts) last.0 in
    let m = some_of (value Months) (and_parts _ _ last.1).0 in
    make-reread value s.0 a.0 m.0 s.1 a.1 m.1

-- what a command says depends on the values alone
pub command_words-same : (verb : Verb) (f g : Setting → Option Text) → ((setting : Setting) → f setting
    ≡ g setting)
    → command_words verb f ≡ command_words verb g
command_words-same Init f g h = init_words-same f g (h Dir) (h Lanes) (h Catalog) (h Overdue)
command_words-same Apply f g h = apply_words-same f g (h Dir) (h Gateway)
command_words-same Bill f g h = bill_words-same f g (h Dir) (h Day) (h Workers) (h Gateway)
command_words-same Serve f g h =
    serve_words-same f g (h Dir) (h Port) (h Workers) (h Bus) (h Connections) (h Gateway)
command_words-same Report f g h = report_words-same f g (h Dir) (h Kind) (h Day)
command_words-same Make f g h = make_words-same f g (h Seed) (h Accounts) (h Months)

-- the options of a command come back
options-reread : (verb : Verb) (options : List Given) → are_options_of verb options ≡ true
    → IsReread verb (λ setting. value_of setting options)
unfolding are_options_of
options-reread verb options h = reread verb (λ setting. value_of setting options) (and_parts _ _ h).1

-- `clap` has nothing against them
pub words_with-taken : (verb : Verb) (options : List Given) (words : List Text)
    → are_options_of verb options ≡ true
    → words ≡ written_of (λ setting. value_of setting options) (settings_of verb) → faults_of verb words ≡ []
words_with-taken verb options words fits e = ap (faults_of verb) e ∙ (options-reread verb options fits).faults

-- and its values say what the options do
pub words_with-parsed : (verb : Verb) (options : List Given) (words : List Text)
    → are_options_of verb options ≡ true
    → words ≡ written_of (λ setting. value_of setting options) (settings_of verb)
    → command_words verb (parsed_value verb words) ≡ words_with verb options
words_with-parsed verb options words fits e =
    let given = ap (λ (ws : List Text). command_words verb (parsed_value verb ws)) e in
    rw fits (given ∙ (options-reread verb options fits).words)
