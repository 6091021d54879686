-- Policies, and the day on which a change or a cancellation takes effect.
use Rattle.std.specs.Prelude.{ℕ, ◌≡◌, max, Option, Some, None, unwrap_or, option_and_then, refl}
use Rattle.kb_days.specs.Dates.{march, april}
use Rattle.kb_catalog.specs.declared.version.Version.{Version}
use Rattle.kb_catalog.specs.declared.rules.ChangeCase.{ChangeCase}
use Rattle.kb_catalog.specs.declared.rules.PlanCase.{PlanCase}
use Rattle.kb_catalog.specs.declared.words.Policy.{Policy}
use Rattle.kb_catalog.specs.declared.words.Policy.TheVariants.{Immediate, EndOfTerm, Illegal}
use Rattle.kb_catalog.specs.declared.ask.ChangeAsk.{ChangeAsk}
use Rattle.kb_catalog.specs.Cases.{first_match, fits_change, fits_plan}
use Rattle.kb_due.specs.Facts.{FactsValue}
use Rattle.kb_due.specs.Governing.{Governing}
use Rattle.kb_due.specs.DueDays.{charged_through}
use Rattle.kb_book.specs.declared.wish.Wish.{Wish}
use Rattle.kb_book.specs.Wishes.{version_of, wish_ask, governing_ask, governing_of}

-- a change from what governs to a wish, as the rules of a version look at it
abbrev pub change_ask : Version → Governing → Wish → ChangeAsk
change_ask version governing wish = record { from = governing_ask governing; to = wish_ask version wish }

-- the policy of a change that is asked for on a day: by the version of that day, and what governs it
abbrev pub change_policy : FactsValue → ℕ → ℕ → Wish → Option Policy
change_policy facts sub day wish = option_and_then by_version (version_of facts.catalog day)
  where
    by_version : Version → Option Policy
    by_version version = option_and_then
        (λ governing. first_match (fits_change (change_ask version governing wish))
        (λ (case : ChangeCase Policy). case.answer) version.rules.change_policy)
        (governing_of facts sub day)

-- and that of a cancellation
abbrev pub cancel_policy : FactsValue → ℕ → ℕ → Option Policy
cancel_policy facts sub day = option_and_then by_version (version_of facts.catalog day)
  where
    by_version : Version → Option Policy
    by_version version = option_and_then
        (λ governing. first_match (fits_plan (governing_ask governing))
        (λ (case : PlanCase Policy). case.answer) version.rules.cancel_policy)
        (governing_of facts sub day)

-- until when a subscription is charged at a billed date, if it is
abbrev pub through_of : FactsValue → ℕ → Option ℕ → Option ℕ
through_of facts sub billed = option_and_then (charged_through facts sub) billed

-- the day of effect: the day asked for, or at the end of the term the day until which is charged, if that is
-- later; none where it is illegal
abbrev pub effect_day : Option Policy → ℕ → Option ℕ → Option ℕ
effect_day None day through = None
effect_day (Some Immediate) day through = Some day
effect_day (Some EndOfTerm) day through = Some (max day (unwrap_or through day))
effect_day (Some Illegal) day through = None

at_once : effect_day (Some Immediate) (march 10) (Some (april 1)) ≡ Some (march 10)
at_once = refl

at_the_end_of_the_term : effect_day (Some EndOfTerm) (march 10) (Some (april 1)) ≡ Some (april 1)
at_the_end_of_the_term = refl

where_nothing_is_charged : effect_day (Some EndOfTerm) (march 10) None ≡ Some (march 10)
where_nothing_is_charged = refl

never : effect_day (Some Illegal) (march 10) (Some (april 1)) ≡ None
never = refl

-- the day of effect of a change that is asked for on a day, at a billed date
abbrev pub change_effect : FactsValue → ℕ → Option ℕ → ℕ → Wish → Option ℕ
change_effect facts sub billed day wish =
    effect_day (change_policy facts sub day wish) day (through_of facts sub billed)

-- and that of a cancellation
abbrev pub cancel_effect : FactsValue → ℕ → Option ℕ → ℕ → Option ℕ
cancel_effect facts sub billed day =
    effect_day (cancel_policy facts sub day) day (through_of facts sub billed)
