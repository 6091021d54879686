-- Cases of a cancel policy, and what they decide.
use Rattle.std.specs.Prelude.{◌≡◌, [], ◌∷◌, codes, Some, None, List, refl}
use Rattle.kb_days.specs.declared.period.Period.TheVariants.{Monthly}
use Rattle.kb_catalog.specs.declared.rules.PlanCondition.{PlanCondition}
use Rattle.kb_catalog.specs.declared.rules.PlanCase.{PlanCase}
use Rattle.kb_catalog.specs.declared.ask.PlanAsk.{PlanAsk}
use Rattle.kb_catalog.specs.declared.words.Category.TheVariants.{Base}
use Rattle.kb_catalog.specs.declared.words.PhaseType.TheVariants.{Trial, Evergreen}
use Rattle.kb_catalog.specs.declared.words.Policy.{Policy}
use Rattle.kb_catalog.specs.declared.words.Policy.TheVariants.{Immediate, EndOfTerm, Illegal}
use Rattle.kb_catalog.specs.Cases.{first_match, fits_plan}

-- nothing is asked of a plan
abbrev pub no_condition : PlanCondition
no_condition = record { product = None; category = None; period = None; list = None }

-- Gold by the month in its last phase, of a category that the version doesn't tell
abbrev gold : PlanAsk
gold = record {
  product = codes "Gold";
  category = None;
  period = Monthly;
  list = codes "DEFAULT";
  phase =
      Some Evergreen;
}

-- a trial ends at once, a base product never by a cancellation, and all else at the end of what is paid for
abbrev cancel_cases : List (PlanCase Policy)
cancel_cases =
    record { plan = no_condition; phase = Some Trial; answer = Immediate }
    ∷ record { plan = record no_condition { category = Some Base }; phase = None; answer = Illegal }
    ∷ record { plan = no_condition; phase = None; answer = EndOfTerm } ∷ []

-- an evergreen phase is no trial, and a category that isn't told is no base product
last_case : first_match (fits_plan gold) (λ case. case.answer) cancel_cases ≡ Some EndOfTerm
last_case = refl

middle_case : first_match (fits_plan (record gold { category = Some Base })) (λ case. case.answer)
    cancel_cases ≡ Some Illegal
middle_case = refl

first_case : first_match (fits_plan (record gold { phase = Some Trial; category = Some Base }))
    (λ case. case.answer) cancel_cases ≡ Some Immediate
first_case = refl
