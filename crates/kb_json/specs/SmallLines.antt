-- Small lines, and what they are read as: one of each kind, and one of each fault.
use Rattle.std.specs.Prelude.{ℕ, ◌≡◌, ⊤, true, false, ◌==◌, if◌then◌else◌, List, [], ◌++◌, codes, map, Some}
use Rattle.std.specs.Prelude.{None, Ok, Err, refl}
use Rattle.std.specs.Str.{is_utf8, chars}
use Rattle.serde_json.proofs.OnLiterals.{serde_json_on_literals}
use Rattle.toml.proofs.OnLiterals.{toml_on_literals}
use Rattle.kb_days.specs.Calendar.{month_of, day_of_month, month_after, month_start, month_length}
use Rattle.kb_days.specs.Dates.{march}
use Rattle.kb_days.specs.DateText.{read_day, named_day, date_text, civil_text}
use Rattle.kb_days.specs.declared.period.Period.TheVariants as period
use Rattle.kb_overdue.specs.ConfigRules.{fault_of, is_broken_at}
use Rattle.kb_catalog_text.specs.declared.fault.TextFault.TheVariants as text
use Rattle.kb_catalog_text.specs.Reads.{keys_read, first_failing, required, optional, read_or, read_array}
use Rattle.kb_catalog_text.specs.Reads.{read_table, read_items}
use Rattle.kb_catalog_text.specs.StateEntries.{state_in}
use Rattle.kb_catalog_text.specs.OverdueText.{states_in}
use Rattle.kb_catalog_text.specs.CatalogText.{version_in}
use Rattle.kb_catalog_text.specs.Texts.{text_read, document_of}
use Rattle.kb_codec.specs.declared.command.Command.TheVariants as commands
use Rattle.kb_codec.specs.declared.action.Action.TheVariants as actions
use Rattle.kb_codec.specs.declared.scope.BlockScope.TheVariants as scope
use Rattle.kb_book.specs.declared.query.Query.TheVariants as queries
use Rattle.kb_json.specs.declared.fault.JsonFault.TheVariants as json
use Rattle.kb_json.specs.declared.fault.RequestFault.TheVariants as fault
use Rattle.kb_json.specs.declared.request.What.TheVariants as what
use Rattle.kb_json.specs.RequestKinds.{kind_named}
use Rattle.kb_json.specs.Values.{text_where, name_in, key_in, currency_in, period_named, period_in}
use Rattle.kb_json.specs.Values.{scope_named, scope_in, day_in, whole_in, amount_in, invoice_in, bcd_in}
use Rattle.kb_json.specs.Wrongs.{has_type, wrong_of_type, wrong_in, wrong_needed, wrong_optional, wrong_today}
use Rattle.kb_json.specs.Wrongs.{first_wrong, has_unknown}
use Rattle.kb_json.specs.Asked.{asked}
use Rattle.kb_json.specs.Requests.{json_of, kind_in, ask_of_kind, ask_of_object, ask_of_value, ask}

-- in these lines ' stands for "
abbrev line : List ℕ → List ℕ
line text = map (λ byte. if byte == 39 then 34 else byte) text

-- what the examples unfold to compute
unfoldable on_lines : ⊤
unfolding serde_json_on_literals is_utf8 chars ask json_of ask_of_value ask_of_object kind_in kind_named
    ask_of_kind has_unknown first_wrong wrong_needed wrong_optional wrong_today wrong_in has_type
    wrong_of_type name_in key_in text_where currency_in period_named period_in scope_named scope_in
    day_in whole_in
    amount_in invoice_in bcd_in asked read_day named_day date_text civil_text month_of
    day_of_month month_after
    month_start month_length
on_lines = tt

unfoldable on_texts : ⊤
unfolding on_lines toml_on_literals text_read document_of states_in state_in version_in
    keys_read first_failing
    required optional read_or read_array read_table read_items fault_of is_broken_at
on_texts = tt

-- commands
a_text : ask false (line (codes "{'do':'overdue','key':'k1','text':''}"))
    ≡ Ok (record {
      today = None;
      what = what.Command (commands.OverdueRules (record {
        key = codes "k1";
        text = record { text = []; states = [] };
      }));
    })
unfolding on_texts
a_text = refl

an_opening : ask true (line
    (codes "{'do':'open','account':'a1','key':'k1','currency':'USD','bcd':31,'today':'2024-03-10'}"))
    ≡ Ok (record {
      today = Some (march 10);
      what = what.Command (commands.Act (codes "a1") (codes "k1") (actions.OpenAccount (record {
        currency = codes "USD";
        bcd = 31;
        autopay = false;
      })));
    })
unfolding on_lines
an_opening = refl

a_creation : ask false (line
    (codes "{'do':'create','account':'a1','key':'k1','bundle':'b1','subscription':'s1',"
    ++ codes "'product':'Basic','period':'MONTHLY'}"))
    ≡ Ok (record {
      today = None;
      what = what.Command (commands.Act (codes "a1") (codes "k1") (actions.Create (record {
        bundle = codes "b1";
        subscription = codes "s1";
        product = codes "Basic";
        period = period.Monthly;
        list = codes "DEFAULT";
        day = None;
      })));
    })
unfolding on_lines
a_creation = refl

a_change : ask false (line
    (codes "{'do':'change','account':'a1','key':'k1','subscription':'s1','product':'Gold',"
    ++ codes "'period':'ANNUAL','list':'Sale','day':'2024-03-15'}"))
    ≡ Ok (record {
      today = None;
      what = what.Command (commands.Act (codes "a1") (codes "k1") (actions.Change (record {
        subscription = codes "s1";
        product = codes "Gold";
        period = period.Annual;
        list = codes "Sale";
        day = Some (march 15);
      })));
    })
unfolding on_lines
a_change = refl

a_cancellation : ask false (line
    (codes "{'do':'cancel','account':'a1','key':'k1','subscription':'s1','day':'2024-03-20'}"))
    ≡ Ok (record {
      today = None;
      what = what.Command (commands.Act (codes "a1") (codes "k1") (actions.Cancel (record {
        subscription = codes "s1";
        day = Some (march 20);
      })));
    })
unfolding on_lines
a_cancellation = refl

an_uncancellation : ask false (line (codes "{'do':'uncancel','account':'a1','key':'k1','subscription':'s1'}"))
    ≡ Ok (record {
      today = None;
      what = what.Command (commands.Act (codes "a1") (codes "k1") (actions.Uncancel (record {
        subscription = codes "s1";
      })));
    })
unfolding on_lines
an_uncancellation = refl

a_pause : ask false (line (codes "{'do':'pause','account':'a1','key':'k1','bundle':'b1'}"))
    ≡ Ok (record {
      today = None;
      what = what.Command (commands.Act (codes "a1") (codes "k1") (actions.Pause (record {
        bundle = codes "b1";
        day = None;
      })));
    })
unfolding on_lines
a_pause = refl

its_end : ask false (line (codes "{'do':'resume','account':'a1','key':'k1','bundle':'b1'}"))
    ≡ Ok (record {
      today = None;
      what = what.Command (commands.Act (codes "a1") (codes "k1") (actions.Resume (record {
        bundle = codes "b1";
        day = None;
      })));
    })
unfolding on_lines
its_end = refl

a_block : ask false (line
    (codes "{'do':'block','account':'a1','key':'k1','scope':'BUNDLE','target':'b1','service':'svc',"
    ++ codes "'state':'OFF','billing':true}"))
    ≡ Ok (record {
      today = None;
      what = what.Command (commands.Act (codes "a1") (codes "k1") (actions.Block (record {
        scope = scope.Bundle;
        target = codes "b1";
        service = codes "svc";
        state = codes "OFF";
        day = None;
        flags = record { change = false; entitlement = false; billing = true };
      })));
    })
unfolding on_lines
a_block = refl

a_bill : ask true (line (codes " { 'key' : 'k1', 'do' : 'bill', 'account' : 'a1' } "))
    ≡ Ok (record {
      today = None;
      what = what.Command (commands.Act (codes "a1") (codes "k1") (actions.Bill (record {
        day = None;
      })));
    })
unfolding on_lines
a_bill = refl

a_charge : ask false (line (codes "{'do':'charge','account':'a1','key':'k1','amount':500}"))
    ≡ Ok (record {
      today = None;
      what = what.Command (commands.Act (codes "a1") (codes "k1") (actions.Charge (record {
        amount = 500;
      })));
    })
unfolding on_lines
a_charge = refl

a_credit : ask false (line (codes "{'do':'credit','account':'a1','key':'k1','amount':1}"))
    ≡ Ok (record {
      today = None;
      what = what.Command (commands.Act (codes "a1") (codes "k1") (actions.Credit (record {
        amount = 1;
      })));
    })
unfolding on_lines
a_credit = refl

a_payment : ask false (line (codes "{'do':'pay','account':'a1','key':'k1','payment':'p1','invoice':1}"))
    ≡ Ok (record {
      today = None;
      what = what.Command (commands.Act (codes "a1") (codes "k1") (actions.Pay (record {
        payment = codes "p1";
        invoice = 1;
        amount = None;
      })));
    })
unfolding on_lines
a_payment = refl

a_refund : ask false (line
    (codes "{'do':'refund','account':'a1','key':'k1','payment':'r1','of':'p1','amount':5}"))
    ≡ Ok (record {
      today = None;
      what = what.Command (commands.Act (codes "a1") (codes "k1") (actions.Refund (record {
        payment = codes "r1";
        of = codes "p1";
        amount = 5;
      })));
    })
unfolding on_lines
a_refund = refl

a_chargeback : ask false (line
    (codes "{'do':'chargeback','account':'a1','key':'k1','payment':'c1','of':'p1','amount':5}"))
    ≡ Ok (record {
      today = None;
      what = what.Command (commands.Act (codes "a1") (codes "k1") (actions.Chargeback (record {
        payment = codes "c1";
        of = codes "p1";
        amount = 5;
      })));
    })
unfolding on_lines
a_chargeback = refl

a_switch : ask false (line (codes "{'do':'autopay','account':'a1','key':'k1','on':true}"))
    ≡ Ok (record {
      today = None;
      what = what.Command (commands.Act (codes "a1") (codes "k1") (actions.Autopay (record {
        on = true;
      })));
    })
unfolding on_lines
a_switch = refl

-- what a line that may be dated may also ask for
the_janitor : ask true (line (codes "{'do':'janitor'}"))
    ≡ Ok (record { today = None; what = what.Janitor })
unfolding on_lines
the_janitor = refl

an_account : ask true (line (codes "{'do':'account','account':'a1'}"))
    ≡ Ok (record { today = None; what = what.Query (queries.Account (codes "a1")) })
unfolding on_lines
an_account = refl

an_invoice : ask true (line (codes "{'do':'invoice','account':'a1','invoice':2}"))
    ≡ Ok (record { today = None; what = what.Query (queries.Invoice (codes "a1") 2) })
unfolding on_lines
an_invoice = refl

a_payment_shown : ask true (line (codes "{'do':'payment','account':'a1','payment':'p1'}"))
    ≡ Ok (record { today = None; what = what.Query (queries.Payment (codes "a1") (codes "p1")) })
unfolding on_lines
a_payment_shown = refl

a_subscription : ask true (line
    (codes "{'do':'subscription','account':'a1','subscription':'s1','day':'2024-03-31'}"))
    ≡ Ok (record {
      today = None;
      what = what.Query (queries.Subscription (codes "a1") (codes "s1") (Some (march 31)));
    })
unfolding on_lines
a_subscription = refl

-- faults, in their order
no_json : ask true (line (codes "{'do':'bill'"))
    ≡ Err (fault.Json json.NotJson)
unfolding on_lines
no_json = refl

no_object : ask true (line (codes "[1]"))
    ≡ Err (fault.Json json.NotAnObject)
unfolding on_lines
no_object = refl

no_kind : ask true (line (codes "{'colour':1,'do':'Bill'}"))
    ≡ Err (fault.Json json.NoKind)
unfolding on_lines
no_kind = refl

no_query_here : ask false (line (codes "{'do':'account','account':'a1'}"))
    ≡ Err (fault.Json json.NoKind)
unfolding on_lines
no_query_here = refl

unknown_first : ask false (line (codes "{'do':'charge','amount':'5','today':'2024-03-10'}"))
    ≡ Err (fault.Json json.Unknown)
unfolding on_lines
unknown_first = refl

missing_before_types : ask true (line (codes "{'do':'charge','account':'a 1','amount':'5'}"))
    ≡ Err (fault.Json json.Missing)
unfolding on_lines
missing_before_types = refl

types_before_names : ask true (line (codes "{'do':'charge','account':'a 1','key':'k1','amount':1.0}"))
    ≡ Err (fault.Json json.WrongType)
unfolding on_lines
types_before_names = refl

names_before_days : ask true (line (codes "{'do':'bill','account':'a 1','key':'k1','day':'2024-02-30'}"))
    ≡ Err fault.BadName
unfolding on_lines
names_before_days = refl

reserved_key : ask true (line (codes "{'do':'bill','account':'a1','key':'bill-2024-03-10'}"))
    ≡ Err fault.BadName
unfolding on_lines
reserved_key = refl

days_before_texts : ask true (line (codes "{'do':'catalog','key':'k1','text':'=','today':'2100-01-01'}"))
    ≡ Err fault.BadDate
unfolding on_lines
days_before_texts = refl

no_catalog : ask true (line (codes "{'do':'catalog','key':'k1','text':'='}"))
    ≡ Err (fault.Text text.NotToml)
unfolding on_texts
no_catalog = refl

-- of two members with one name the last counts
the_last_counts : ask true (line (codes "{'do':'bill','do':'janitor'}"))
    ≡ Ok (record { today = None; what = what.Janitor })
unfolding on_lines
the_last_counts = refl
